-- No value so far is refused, so the first one that is comes later.
use Rattle.std.proofs.Common.{◌≡◌, pos, ◌+◌, drop}
use Rattle.sdm_rules.specs.Ranges.{value_fault}
use Rattle.sdm_track.proofs.entries.check_values.Given as goal

abbrev pub invariant-loop-i : goal.invariant-loop-i
invariant-loop-i g l = value_fault l.list (g.E.Listed.refused_key (pos l.length_cm)) (l.i + 1) (drop l.i l.entries)
    ≡ value_fault l.list (g.E.Listed.refused_key (pos l.length_cm)) 1 l.entries
