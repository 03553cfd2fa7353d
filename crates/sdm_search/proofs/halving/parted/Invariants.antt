-- What passes the test is known up to a power of 2, which a turn halves.
use Rattle.std.proofs.Common.{Bool, length, ◌^◌, ◌≤◌}
use Rattle.std.specs.Fn.{ComputesKey}
use Rattle.std.specs.List.Sorted.{IsPartitionedBy}
use Rattle.sdm_search.proofs.HalvingLaws.{AreLeft}
use Rattle.sdm_search.proofs.halving.parted.Given as goal

abbrev pub invariant-loop-turn : goal.invariant-loop-turn
invariant-loop-turn g l = record {
  callable : goal.P-IsAlwaysCallable g l.comes_first;
  bound : l.parted ≤ length l.list;
  computes : (p : _ → Bool) → ComputesKey g.P.FnMut p l.fn.comes_first → ComputesKey g.P.FnMut p l.comes_first;
  left : (p : _ → Bool) → ComputesKey g.P.FnMut p l.fn.comes_first → IsPartitionedBy p l.list →
      AreLeft p l.list l.parted (2 ^ l.turn);
}
