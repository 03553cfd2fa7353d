-- If there is one, it is among those that are left.
use Rattle.std.proofs.Common.{pos, drop}
use Rattle.sdm_speed.specs.ZoneEnds.{IsEndOfOne}
use Rattle.sdm_speed.proofs.lifts.is_end_of_one.Given as goal

abbrev pub invariant-loop-r : goal.invariant-loop-r
invariant-loop-r l =
    IsEndOfOne (pos l.length_cm) l.cell l.held → IsEndOfOne (pos l.length_cm) l.cell (drop l.r-index l.held)
