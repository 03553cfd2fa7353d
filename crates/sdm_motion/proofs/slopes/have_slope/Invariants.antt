use Rattle.std.proofs.Common.{◌≡◌, ℕ, ◌<◌}
use Rattle.sdm_curve.specs.Integrals.{slope_of}
use Rattle.sdm_motion.specs.Steps.{Meets}
use Rattle.sdm_motion.proofs.slopes.have_slope.Given as goal

abbrev pub invariant-loop-i : goal.invariant-loop-i
invariant-loop-i l =
    (k : ℕ) → k < l.i → Meets l.m l.map.starts k l.stretch.from l.stretch.to → slope_of l.map l.band k ≡ l.slope
