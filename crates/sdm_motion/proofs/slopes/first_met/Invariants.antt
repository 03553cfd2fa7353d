use Rattle.std.proofs.Common.{ℕ, ◌<◌}
use Rattle.sdm_motion.specs.Steps.{Meets}
use Rattle.sdm_motion.proofs.slopes.first_met.Given as goal

abbrev pub invariant-loop-i : goal.invariant-loop-i
invariant-loop-i l = (k : ℕ) → k < l.i → Meets l.m l.map.starts k l.stretch.from l.stretch.to → ⊥
