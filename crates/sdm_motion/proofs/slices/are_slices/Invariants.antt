use Rattle.std.proofs.Common.{◌↔◌, drop}
use Rattle.sdm_rules.specs.Motion.{AreSlices}
use Rattle.sdm_motion.proofs.slices.are_slices.Given as goal

abbrev pub invariant-loop-x : goal.invariant-loop-x
invariant-loop-x l = AreSlices l.start l.speed l.slices ↔ AreSlices l.start l.at (drop l.x-index l.slices)
