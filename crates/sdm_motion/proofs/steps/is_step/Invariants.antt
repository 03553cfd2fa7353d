use Rattle.std.proofs.Common.{ℕ, ◌<◌}
use Rattle.sdm_rules.specs.Slopes.{meaning_of}
use Rattle.sdm_motion.specs.Steps.{IsStepIn}
use Rattle.sdm_motion.proofs.steps.is_step.Given as goal

abbrev pub invariant-loop-band : goal.invariant-loop-band
invariant-loop-band l = (b : ℕ) → b < l.band → IsStepIn (meaning_of l.map) l.m b l.from l.to → ⊥
