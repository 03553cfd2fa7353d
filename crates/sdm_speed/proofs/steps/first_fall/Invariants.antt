-- The first fall of the steps that are left is that of them all.
use Rattle.std.proofs.Common.{◌≡◌, drop}
use Rattle.sdm_speed.proofs.FallLaws.{first_fall}
use Rattle.sdm_speed.proofs.steps.first_fall.Given as goal

abbrev pub invariant-loop-i : goal.invariant-loop-i
invariant-loop-i l = first_fall l.before (drop l.i l.steps) ≡ first_fall l.speed (drop l.from l.steps)
