-- The lows that are kept so far.
use Rattle.std.proofs.Common.{◌≡◌, length}
use Rattle.std.specs.VecDeque.{deque_capacity}
use Rattle.sdm_track.specs.Sweeps.{grad_at}
use Rattle.sdm_track.proofs.LowLaws.{AreKept}
use Rattle.sdm_track.proofs.sweep.take_in.Given as goal

abbrev pub invariant-loop-lows : goal.invariant-loop-lows
invariant-loop-lows l = record {
  kept : AreKept l.entries (grad_at l.entries l.index) l.fn.old.start l.index l.lows.items;
  room : deque_capacity l.lows ≡ deque_capacity l.fn.lows;
}

abbrev pub decreases-loop-lows : goal.decreases-loop-lows
decreases-loop-lows l = length l.lows.items
