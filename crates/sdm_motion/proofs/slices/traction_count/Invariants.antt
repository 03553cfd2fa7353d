use Rattle.std.proofs.Common.{◌≡◌, ℕ, ◌<◌, get_or}
use Rattle.sdm_rules.specs.declared.motions.Slice.{Slice}
use Rattle.sdm_rules.specs.declared.motions.Phase.TheVariants.{Traction}
use Rattle.sdm_motion.proofs.slices.traction_count.Given as goal

abbrev pub invariant-loop-i : goal.invariant-loop-i
invariant-loop-i l = (k : ℕ) (d : Slice) → k < l.i → (get_or l.slices k d).phase ≡ Traction
