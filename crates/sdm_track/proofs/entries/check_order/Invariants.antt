-- The entries so far are in order, so the first one that is not comes later.
use Rattle.std.proofs.Common.{◌≡◌, ◌-◌, drop}
use Rattle.sdm_rules.specs.Ranges.{order_fault}
use Rattle.sdm_track.proofs.entries.check_order.Given as goal

abbrev pub invariant-loop-i : goal.invariant-loop-i
invariant-loop-i g l = order_fault l.list g.E.Listed.start g.E.Listed.past l.i (drop (l.i - 1) l.entries)
    ≡ order_fault l.list g.E.Listed.start g.E.Listed.past 1 l.entries
