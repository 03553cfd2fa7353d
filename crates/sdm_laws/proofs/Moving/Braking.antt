-- The law of braking: each step is one stretch, since two bands with more than a border in common are one, so an
-- induction over the points keeps the train within the curve. What that means at the foot follows from the order of
-- exact places.
use Rattle.std.proofs.Common.{◌≡◌, ℕ, ℤ, zero, suc, pos, List, [], ◌∷◌, length, slice_index, ◌*◌, ◌<◌, ◌≤◌, ◌*ℤ◌, ◌≤ℤ◌}
use Rattle.std.proofs.Common.{◌<ℤ◌, arith, inl, inr}
use Rattle.std.specs.Prelude.{All}
use Rattle.std.specs.Int.Signed.{clash_ℤ}
use Rattle.std.proofs.lemmas.Int.{ints, by_lt_z}
use Rattle.std.proofs.lemmas.Bool.{cases_lt}
use Rattle.std.proofs.lemmas.List.Elements.{All-nil, All-cons}
use Rattle.std.proofs.lemmas.Nat.{mul-le}
use Rattle.std.proofs.Math.Nat.{mul-le-mul_left}
use Rattle.sdm_num.specs.Fractions.{whole, IsAtMost, IsBefore}
use Rattle.sdm_num.proofs.Order.{at_most_before, at_most_trans, not_both, whole_at_most}
use Rattle.sdm_rules.specs.declared.motions.Point.{Point}
use Rattle.sdm_rules.specs.Slopes.{Slopes, IsUsable}
use Rattle.sdm_rules.specs.Curves.{cell_at, exact_at, upper_square}
use Rattle.sdm_rules.specs.Motion.{IsInBand, HasPart, BrakesAtLeast, IsStep, IsBraking}
use Rattle.sdm_laws.specs.MotionLaws.{HasBandPart, IsSteepest, IsWithinCurve, IsHeldByCurve}
use Rattle.sdm_laws.proofs.OneBand.Cells.{cell_low, cell_high}
use Rattle.sdm_laws.proofs.BrakeCurves.CurveOrder.{exact_positive, exact_falls, exact_before, exact_foot}
use Rattle.sdm_laws.proofs.Moving.Stretch.{stretch}

-- ---- bands

-- the upper speeds rise
abbrev pub AreRising : List ℕ → Type 0
AreRising uppers = (i j : ℕ) → i ≤ j → j < length uppers → slice_index uppers i ≤ slice_index uppers j

-- the square of a greater speed is no less, at every scale
pub square_rises : (m a b : ℕ) → a ≤ b → m * (a * a) ≤ m * (b * b)
square_rises m a b h = mul-le-mul_left m (mul-le a a b b h h)

-- no square of a band is above one of a higher band
bands_rise : (on : Slopes) (m b b' u v : ℕ) → AreRising on.uppers → IsInBand on m b u → IsInBand on m b' v → b < b' →
    u ≤ v
bands_rise on m b zero u v rising in_u in_v lt = absurd (omega arith)
bands_rise on m b (suc k) u v rising in_u in_v lt =
    let known = in_v.known in
    let below = in_u.below (omega arith) in
    let above = in_v.above in
    let step : upper_square on m b ≤ upper_square on m k = square_rises m _ _ (rising b k (omega arith) (omega arith))
    in
    omega arith

-- a band that holds both squares is the one with a part between them
pub same_band : (on : Slopes) (m b b' u u' : ℕ) → AreRising on.uppers → IsInBand on m b u → IsInBand on m b u' →
    HasBandPart on m b' u' u →
    b' ≡ b
same_band on m b b' u u' rising in_u in_u' part =
    let from = part.from in
    let apart = part.apart in
    let to = part.to in
    elim (cases_lt b b') [
      | inl lt ↦ absurd (omega (arith, bands_rise on m b b' u part.low rising in_u part.in_low lt))
      | inr ge ↦ elim (cases_lt b' b) [
        | inl lt ↦ absurd (omega (arith, bands_rise on m b' b part.high u' rising part.in_high in_u' lt))
        | inr le ↦ omega arith
      ]
    ]

-- ---- one step

-- two places that differ have a part in the cell of the first
pub part_at : (m : ℕ) (p p' : ℤ) → 0 < m → p <ℤ p' → HasPart m (cell_at m p) p p'
part_at m p p' m_pos lt = record {
  apart = lt;
  begins = omega (arith, ints, cell_low m p m_pos);
  ends = cell_high m p m_pos;
}

-- a slope told of one of two equal bands bounds that of the other
same_slope : (on : Slopes) (band band' : ℕ) (c : ℤ) (a : ℕ) → band ≡ band' → on.slope band' c ≡ a → on.slope band c ≤ a
same_slope on band band' c a e h = rw (e, h) (omega arith)

-- a step within the curve ends within the curve
step_within : (on : Slopes) (m : ℕ) (f : ℤ) (w : ℕ) (x y : Point) → IsUsable on → 0 < m → IsStep on m x y →
    IsWithinCurve on m f w x →
    IsWithinCurve on m f w y
step_within on m f w x y usable m_pos step within =
    by_lt_z x.place y.place
    (λ (lt : x.place <ℤ y.place).
    let cell = cell_at m x.place in
    let here = step.one_slope cell (part_at m x.place y.place m_pos lt) in
    let a_pos : 0 < step.slope = rw (← here) (usable.positive step.band step.from_band.known cell) in
    let steep : IsSteepest on m step.slope x y = λ band cell in_band part.
    same_slope on band step.band cell step.slope
    (same_band on m step.band band x.square y.square usable.rising step.from_band step.to_band in_band)
    (step.one_slope cell part) in
    stretch on m f w step.slope x y usable m_pos a_pos steep step.brakes within)
    (λ (le : y.place ≤ℤ x.place).
    -- with no distance any slope does
    let steep : IsSteepest on m 1 x y = λ band cell in_band part. absurd (clash_ℤ part.apart le) in
    let given = step.brakes in
    let brakes : BrakesAtLeast on 1 x.place x.square y.place y.square =
    record { forward = given.forward; slower = given.slower; enough = omega (arith, ints) } in
    stretch on m f w 1 x y usable m_pos (omega arith) steep brakes within)

-- ---- at the foot

-- whole places compare as their numbers do
at_most_whole : (a b : ℤ) → IsAtMost (whole a) (whole b) → a ≤ℤ b
at_most_whole a b h = omega (arith, ints, h.crossed)

-- what a point within the curve means at the foot
pub within_held : (on : Slopes) (m : ℕ) (f : ℤ) (w : ℕ) (x : Point) → IsUsable on → 0 < m → IsWithinCurve on m f w x →
    IsHeldByCurve on m f w x
within_held on m f w x usable m_pos within =
    let foot_square = m * (w * w) in
    let foot = exact_foot on m f w in
    let exact_pos = exact_positive on m f w x.square usable m_pos in
    record {
      within = within;
      past = λ past. elim (cases_lt foot_square x.square) [
        | inl faster ↦ absurd (
            let before : IsBefore (exact_at on m f w x.square) (whole (pos m *ℤ f)) = rw foot at
            (exact_before on m f w foot_square x.square usable m_pos faster) in
            let here : IsBefore (whole x.place) (whole (pos m *ℤ f)) = at_most_before (whole x.place)
            (exact_at on m f w x.square) (whole (pos m *ℤ f)) (omega arith) exact_pos within before in
            not_both (whole x.place) (whole (pos m *ℤ f)) here (whole_at_most (pos m *ℤ f) x.place past))
        | inr le ↦ le
      ];
      standing = λ none. (
          let slow : foot_square ≤ x.square = rw none (omega arith) in
          let falls = rw foot at (exact_falls on m f w foot_square x.square usable m_pos slow) in
          at_most_whole x.place (pos m *ℤ f) (at_most_trans (whole x.place) (exact_at on m f w x.square)
          (whole (pos m *ℤ f)) exact_pos within falls));
    }

-- ---- all points

-- the law of braking: from within the curve every point is held by it
pub braking : (on : Slopes) (m : ℕ) (f : ℤ) (w : ℕ) (x : Point) (ys : List Point) → IsUsable on → 0 < m →
    IsBraking on m x ys →
    IsWithinCurve on m f w x → All (IsHeldByCurve on m f w) (x ∷ ys)
braking on m f w x [] usable m_pos b within =
    All-cons (IsHeldByCurve on m f w) x [] (within_held on m f w x usable m_pos within) (All-nil _)
braking on m f w x (y ∷ ys) usable m_pos b within =
    All-cons (IsHeldByCurve on m f w) x (y ∷ ys) (within_held on m f w x usable m_pos within)
    (braking on m f w y ys usable m_pos b.1 (step_within on m f w x y usable m_pos b.0 within))
