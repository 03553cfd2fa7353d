use Rattle.std.proofs.Common.{ℕ, ◌<◌}
use Rattle.sdm_rules.specs.Slopes.{meaning_of}
use Rattle.sdm_certify.specs.Steps.{IsNextIn}
use Rattle.sdm_certify.proofs.steps.is_next.Given as goal

abbrev pub invariant-loop-band : goal.invariant-loop-band
invariant-loop-band l = (b : ℕ) → b < l.band → IsNextIn (meaning_of l.map) b l.from l.to → ⊥
