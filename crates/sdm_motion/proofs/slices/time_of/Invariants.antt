use Rattle.std.proofs.Common.{◌≡◌, ◌+◌, ◌*◌, ◌≤◌, drop}
use Rattle.sdm_rules.specs.Motion.{time_of}
use Rattle.sdm_motion.proofs.slices.time_of.Given as goal

abbrev pub invariant-loop-x : goal.invariant-loop-x
invariant-loop-x l =
    (l.time + time_of (drop l.x-index l.slices) ≡ time_of l.slices) × (l.time ≤ 4_294_967_295 * l.x-index)
