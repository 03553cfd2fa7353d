-- The levels of two curves in the band of a foot compare as their places do at the foot speed.
use Rattle.std.proofs.Common.{◌≡◌, ℕ, ◌*◌, ◌≤◌, ◌≤ℤ◌, ◌<ℤ◌, int_lt, length, arith, refl, sym, inl, inr, ◌∙◌}
use Rattle.std.proofs.lemmas.Int.{by_lt_z}
use Rattle.std.proofs.lemmas.Bool.{cases_lt}
use Rattle.sdm_num.proofs.Comparisons.{lt_is, not_lt_is}
use Rattle.sdm_rules.specs.Slopes.{Slopes, IsUsable}
use Rattle.sdm_rules.specs.Curves.{stepped}
use Rattle.sdm_rules.specs.Motion.{IsInBand}
use Rattle.sdm_laws.specs.Levels.{corner_level, nearest}
use Rattle.sdm_laws.proofs.BrakeCurves.CurveOrder.{stepped_foot}
use Rattle.sdm_laws.proofs.BrakeCurves.Nearest.{nearest_between}
use Rattle.sdm_order.proofs.LevelOrder.{at_or_past, before}
use Rattle.sdm_curve.specs.Asked.{IsBandOf}
use Rattle.sdm_curve.specs.Made.{BrakeCurve, IsMadeFrom, knot_of}
use Rattle.sdm_curve.proofs.CurveKnots.{band_holds}

-- a knot has the level of its band's corner
level_is : (on : Slopes) (curve : BrakeCurve) (band : ℕ) → IsMadeFrom on curve → band ≤ length on.uppers →
    (knot_of curve band).level ≡ corner_level on curve.speed (stepped on curve.place curve.speed) band
level_is on curve band made known = let knot = made.each band known in rw (knot.level, knot.place, knot.speed) refl

-- in a band that holds a foot speed the corner is the foot
foot_corner : (on : Slopes) (w band : ℕ) → IsUsable on → IsInBand on 1 band (w * w) → nearest on band w ≡ w
foot_corner on w band usable h =
    let c = nearest on band w in
    let once : w * w ≡ 1 * (w * w) = omega arith in
    let between = nearest_between on 1 usable (omega arith) w band w (rw once at h) in
    elim (cases_lt c w) [
      | inl lt ↦ absurd (omega (arith, lt, between.0 lt))
      | inr ge ↦ elim (cases_lt w c) [
        | inl lt ↦ absurd (omega (arith, lt, between.1 lt))
        | inr le ↦ omega (arith, ge, le)
      ]
    ]

-- at the foot speed of a curve another one lies before its foot just where its level in that band is lower
pub level_order : (on : Slopes) (one other : BrakeCurve) (band : ℕ) → IsUsable on → IsMadeFrom on one →
    IsMadeFrom on other → IsBandOf on.uppers one.speed band →
    int_lt (knot_of other band).level (knot_of one band).level
    ≡ int_lt (stepped on other.place other.speed one.speed) one.place
level_order on one other band usable made made' is =
    let inside = band_holds on one.speed band is in
    let corner = foot_corner on one.speed band usable inside in
    let there = stepped on other.place other.speed one.speed in
    let foot = stepped_foot on one.place one.speed in
    rw (level_is on one band made is.known, level_is on other band made' is.known)
    (by_lt_z there one.place
    (λ (lt : there <ℤ one.place).
    lt_is _ _ (before on usable one.place other.place one.speed other.speed band one.speed corner inside (rw foot lt))
    ∙ sym (lt_is there one.place lt))
    (λ (ge : one.place ≤ℤ there).
    not_lt_is _ _
    (at_or_past on usable one.place other.place one.speed other.speed band one.speed corner inside (rw foot ge))
    ∙ sym (not_lt_is there one.place ge)))
