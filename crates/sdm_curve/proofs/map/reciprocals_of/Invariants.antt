use Rattle.std.proofs.Common.{◌≡◌, length}
use Rattle.sdm_curve.proofs.map.reciprocals_of.Given as goal

abbrev pub invariant-loop-slope : goal.invariant-loop-slope
invariant-loop-slope l = length l.reciprocals.items ≡ l.slope-index
