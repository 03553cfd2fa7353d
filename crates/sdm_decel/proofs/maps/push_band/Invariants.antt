-- The slopes of the stretches so far were added, and all are small.
use Rattle.std.proofs.Common.{◌≡◌, ◌++◌, ◌≤◌, ◌^◌, All, unsigned_abs, map, take}
use Rattle.sdm_rules.specs.Decelerations.{slope_under}
use Rattle.sdm_decel.proofs.maps.push_band.Given as goal

abbrev pub invariant-loop-under : goal.invariant-loop-under
invariant-loop-under l = record {
  added : l.slopes.items ≡ l.initial.slopes.items
      ++ map (λ u. slope_under l.kind l.train l.national u l.band) (take l.under-index l.unders);
  small : All (λ z. unsigned_abs z ≤ 10 ^ 15) l.initial.slopes.items →
      All (λ z. unsigned_abs z ≤ 10 ^ 15) l.slopes.items;
}
