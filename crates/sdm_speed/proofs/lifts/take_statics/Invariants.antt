-- The speeds so far are the static ones.
use Rattle.sdm_speed.specs.Speeds.{speeds_in}
use Rattle.sdm_speed.specs.ZoneEnds.{AreSpeedsOf}
use Rattle.sdm_speed.proofs.lifts.take_statics.Given as goal

abbrev pub invariant-loop-i : goal.invariant-loop-i
invariant-loop-i l = AreSpeedsOf (speeds_in l.statics) l.steps.list.items l.fn.covered.from l.i l.speeds
