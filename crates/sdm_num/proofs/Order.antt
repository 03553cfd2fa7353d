-- The order of fractions, each law by scaling cross products, and the lesser and the greater of two.
use Rattle.std.proofs.Common.{◌≡◌, ℕ, ℤ, pos, true, false, cond, ◌<◌, ◌*ℤ◌, ◌≤ℤ◌, ◌<ℤ◌, int_le, refl, arith}
use Rattle.std.proofs.lemmas.Int.{ints}
use Rattle.std.proofs.Math.Nat.{mul-le-mul_left}
use borrow.Author.Differences.{lt_out}
use Rattle.sdm_num.specs.Fractions.{Fraction, IsAtMost, IsBefore, whole, lesser, greater}
use Rattle.sdm_num.proofs.Comparisons.{le_of, not_le_of}
use Rattle.sdm_num.proofs.Ints.{scales, scale-≤, scale-≤_cancel}
use Rattle.sdm_num.proofs.Floors.{scale-<_cancel}

pub scale-< : (m : ℕ) (a b : ℤ) → 0 < m → a <ℤ b → (pos m *ℤ a) <ℤ (pos m *ℤ b)
scale-< m a b m_pos h = omega (arith, ints, mul-le-mul_left m (lt_out a b h))

pub at_most_refl : (x : Fraction) → IsAtMost x x
at_most_refl x = record { crossed = omega (arith, ints) }

pub at_most_trans : (x y z : Fraction) → 0 < y.m → IsAtMost x y → IsAtMost y z → IsAtMost x z
at_most_trans x y z p h k =
    let one = simp scales at (scale-≤ z.m _ _ h.crossed) in
    let two = simp scales at (scale-≤ x.m _ _ k.crossed) in
    record { crossed = scale-≤_cancel y.m _ _ p (simp scales (omega (arith, ints, one, two))) }

-- before a place, and so before any at or past it
pub before_at_most : (x y z : Fraction) → 0 < y.m → 0 < z.m → IsBefore x y → IsAtMost y z → IsBefore x z
before_at_most x y z p q h k =
    let one = simp scales at (scale-< z.m _ _ q h.crossed) in
    let two = simp scales at (scale-≤ x.m _ _ k.crossed) in
    record { crossed = scale-<_cancel y.m _ _ (simp scales (omega (arith, ints, one, two))) }

-- at or before a place, and so before any past it
pub at_most_before : (x y z : Fraction) → 0 < x.m → 0 < y.m → IsAtMost x y → IsBefore y z → IsBefore x z
at_most_before x y z p q h k =
    let one = simp scales at (scale-≤ z.m _ _ h.crossed) in
    let two = simp scales at (scale-< x.m _ _ p k.crossed) in
    record { crossed = scale-<_cancel y.m _ _ (simp scales (omega (arith, ints, one, two))) }

pub before_at_most_of : (x y : Fraction) → IsBefore x y → IsAtMost x y
before_at_most_of x y h = record { crossed = omega (arith, ints, h.crossed) }

pub not_both : (x y : Fraction) → IsBefore x y → IsAtMost y x → ⊥
not_both x y h k = omega (arith, ints, h.crossed, k.crossed)

-- ---- whole numbers

-- a whole place at or before a fraction, as a comparison of whole numbers
pub at_most_out : (z : ℤ) (x : Fraction) → IsAtMost (whole z) x → (pos x.m *ℤ z) ≤ℤ x.n
at_most_out z x h = omega (arith, ints, h.crossed)

-- and back
pub at_most_in : (z : ℤ) (x : Fraction) → (pos x.m *ℤ z) ≤ℤ x.n → IsAtMost (whole z) x
at_most_in z x h = record { crossed = omega (arith, ints, h) }

pub whole_at_most : (a b : ℤ) → a ≤ℤ b → IsAtMost (whole a) (whole b)
whole_at_most a b le = record { crossed = omega (arith, ints) }

-- ---- the lesser and the greater

-- one of two fractions by the test of their order
by_order : (P : Fraction → Type 0) (x y a b : Fraction) → (IsAtMost x y → P a) → (IsAtMost y x → P b) →
    P (cond (int_le (pos y.m *ℤ x.n) (pos x.m *ℤ y.n)) a b)
by_order P x y a b p q =
    elim (int_le (pos y.m *ℤ x.n) (pos x.m *ℤ y.n))
    as (λ t. int_le (pos y.m *ℤ x.n) (pos x.m *ℤ y.n) ≡ t → P (cond t a b)) [
      | true ↦ λ e. p (record { crossed = le_of _ _ e })
      | false ↦ λ e. q (record { crossed = omega (arith, ints, not_le_of (pos y.m *ℤ x.n) (pos x.m *ℤ y.n) e) })
    ] refl

-- what holds of the one place where it is not past the other, and of the other where it is not past the one, holds
-- of the lesser
pub lesser_cases : (P : Fraction → Type 0) (x y : Fraction) → (IsAtMost x y → P x) → (IsAtMost y x → P y) →
    P (lesser x y)
lesser_cases P x y p q = by_order P x y x y p q

-- and so of the greater
pub greater_cases : (P : Fraction → Type 0) (x y : Fraction) → (IsAtMost x y → P y) → (IsAtMost y x → P x) →
    P (greater x y)
greater_cases P x y p q = by_order P x y y x p q
