use Rattle.std.proofs.Common.{◌≡◌, ◌+◌, ◌*◌, ◌≤◌, drop}
use Rattle.sdm_motion.specs.Slices.{length_of}
use Rattle.sdm_motion.proofs.slices.length_of.Given as goal

abbrev pub invariant-loop-x : goal.invariant-loop-x
invariant-loop-x l = (l.length + length_of (drop l.x-index l.slices) ≡ length_of l.slices)
    × (l.length ≤ 18_446_744_073_709_551_615 * l.x-index)
