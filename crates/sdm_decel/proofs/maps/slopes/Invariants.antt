-- The slopes of the bands so far.
use Rattle.std.proofs.Common.{◌≡◌, ◌≤◌, ◌^◌, All, unsigned_abs, take}
use Rattle.sdm_decel.specs.Slopes.{slopes_of_bands}
use Rattle.sdm_decel.proofs.maps.slopes.Given as goal

abbrev pub invariant-loop-i : goal.invariant-loop-i
invariant-loop-i l = record {
  value : l.slopes.items ≡ slopes_of_bands l.kind l.train l.national l.unders (take l.i l.train.bands);
  small : All (λ z. unsigned_abs z ≤ 10 ^ 15) l.slopes.items;
}
