use Rattle.std.proofs.Common.{ℕ, ◌<◌, get_or}
use Rattle.sdm_rules.specs.declared.motions.Point.{Point}
use Rattle.sdm_motion.specs.Motions.{IsPointInRange}
use Rattle.sdm_motion.proofs.motion.are_in_range.Given as goal

abbrev pub invariant-loop-x : goal.invariant-loop-x
invariant-loop-x l = (k : ℕ) (d : Point) → k < l.x-index → IsPointInRange (get_or l.points k d)
