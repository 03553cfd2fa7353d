-- On usable slopes each computed place of a curve lies just before the exact one: the slack of all bands is less than
-- a millimetre. What is within a curve stays so on a finer scale.
use Rattle.std.proofs.Common.{◌≡◌, ℕ, ℤ, pos, ◌*◌, ◌<◌, ◌*ℤ◌, ◌≤ℤ◌, arith, subst}
use Rattle.std.proofs.lemmas.Int.{ints}
use Rattle.sdm_num.specs.Fractions.{IsAtMost, IsSame, whole, times}
use Rattle.sdm_num.proofs.Ints.{scales, scale-≤, scale-≤_cancel}
use Rattle.sdm_num.proofs.Order.{at_most_out, at_most_in}
use Rattle.sdm_rules.specs.Slopes.{Slopes, IsUsable}
use Rattle.sdm_rules.specs.Curves.{exact_at}
use Rattle.sdm_rules.specs.Limits.{computed, exact_places}
use Rattle.sdm_laws.proofs.BrakeCurves.Slack.{rounding}
use Rattle.sdm_laws.proofs.BrakeCurves.CurveOrder.{exact_positive}
use Rattle.sdm_laws.proofs.BrakeCurves.CurveScales.{exact_scaled}
use Rattle.sdm_laws.specs.SupervisionLaws.{IsJustBefore}

-- a computed place lies just before the exact one
pub near_on : (on : Slopes) → IsUsable on → (f : ℤ) (w v : ℕ) → IsJustBefore (computed on f w v) (exact_places on f w v)
near_on on usable f w v =
    let e = (rounding on f w v usable).early_at_most in
    record {
      low_positive = omega arith;
      positive = e.positive;
      not_past = e.not_past;
      near = record { crossed = omega (arith, ints, e.near.crossed) };
    }

-- a multiple of a place before `y` is before the same place on a finer scale
finer : (m : ℕ) (p y_n b_n : ℤ) (y_m b_m : ℕ) → 0 < y_m → (pos y_m *ℤ p) ≤ℤ y_n →
    pos y_m *ℤ b_n ≡ pos b_m *ℤ (pos m *ℤ y_n) → (pos b_m *ℤ (pos m *ℤ p)) ≤ℤ b_n
finer m p y_n b_n y_m b_m y_pos h same =
    let one = simp scales at (scale-≤ b_m _ _ (scale-≤ m _ _ h)) in
    let two = simp scales at same in
    scale-≤_cancel y_m _ _ y_pos (simp scales (omega (arith, ints, one, two)))

-- a point within the curve at scale 1 is within it at every finer scale
pub scaled_within : (on : Slopes) → IsUsable on → (m : ℕ) (f : ℤ) (w z : ℕ) (p : ℤ) → 0 < m →
    IsAtMost (whole p) (exact_at on 1 f w z) → IsAtMost (whole (pos m *ℤ p)) (exact_at on m f w (m * z))
scaled_within on usable m f w z p m_pos h =
    let y = exact_at on 1 f w z in
    let big = exact_at on m f w (m * z) in
    let once : m * 1 ≡ m = omega arith in
    let same : IsSame big (times m y) = subst (λ (k : ℕ). IsSame (exact_at on k f w (m * z)) (times m y)) once
    (exact_scaled on 1 m f w z usable (omega arith) m_pos) in
    at_most_in (pos m *ℤ p) big (finer m p y.n big.n y.m big.m (exact_positive on 1 f w z usable (omega arith))
    (at_most_out p y h) same.crossed)
