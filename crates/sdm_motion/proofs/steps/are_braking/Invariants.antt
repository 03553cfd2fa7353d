use Rattle.std.proofs.Common.{◌↔◌, drop}
use Rattle.sdm_rules.specs.Slopes.{meaning_of}
use Rattle.sdm_motion.specs.Steps.{AreBraking}
use Rattle.sdm_motion.proofs.steps.are_braking.Given as goal

abbrev pub invariant-loop-i : goal.invariant-loop-i
invariant-loop-i l = AreBraking (meaning_of l.map) l.m l.points ↔ AreBraking (meaning_of l.map) l.m (drop l.i l.points)
