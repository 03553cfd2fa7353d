use Rattle.std.proofs.Common.{◌≡◌, ℕ, ◌<◌, get_or}
use Rattle.sdm_rules.specs.declared.motions.Slice.{Slice}
use Rattle.sdm_rules.specs.declared.motions.Phase.TheVariants.{Build}
use Rattle.sdm_motion.proofs.slices.are_build.Given as goal

abbrev pub invariant-loop-x : goal.invariant-loop-x
invariant-loop-x l = (k : ℕ) (d : Slice) → k < l.x-index → (get_or l.slices k d).phase ≡ Build
