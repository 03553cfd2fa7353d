-- Exact places and squares of speed: fractions of whole numbers of any size, compared by cross products (own).
use Rattle.std.specs.Prelude.{◌≡◌, ℕ, ℤ, pos, neg_ℤ, ◌*◌, ◌+ℤ◌, ◌*ℤ◌, ◌≤ℤ◌, ◌<ℤ◌, int_le, if◌then◌else◌}
use Rattle.std.specs.Int.{int_div_euclid}

-- the fraction n / m, where m is above 0
pub record Fraction : Type 0 where
  pub n : ℤ
  pub m : ℕ

-- a whole number as a fraction
abbrev pub whole : ℤ → Fraction
whole z = record { n = z; m = 1 }

-- the greatest whole number that is not above the fraction
abbrev pub floor : Fraction → ℤ
floor x = int_div_euclid x.n (pos x.m)

-- `x` is at most `y`
pub record IsAtMost (x y : Fraction) : Type 0 where
  pub crossed : (pos y.m *ℤ x.n) ≤ℤ (pos x.m *ℤ y.n)

-- `x` lies before `y`
pub record IsBefore (x y : Fraction) : Type 0 where
  pub crossed : (pos y.m *ℤ x.n) <ℤ (pos x.m *ℤ y.n)

-- `x` and `y` are the same number
pub record IsSame (x y : Fraction) : Type 0 where
  pub crossed : pos y.m *ℤ x.n ≡ pos x.m *ℤ y.n

-- the number `k` times the fraction
abbrev pub times : ℕ → Fraction → Fraction
times k x = record { n = pos k *ℤ x.n; m = x.m }

-- the fraction less a whole number
abbrev pub less : Fraction → ℕ → Fraction
less x k = record { n = x.n +ℤ neg_ℤ (pos (k * x.m)); m = x.m }

-- the sum of the fraction and a whole number
abbrev pub more : Fraction → ℕ → Fraction
more x k = record { n = x.n +ℤ pos (k * x.m); m = x.m }

-- the lesser of two fractions
abbrev pub lesser : Fraction → Fraction → Fraction
lesser x y = if int_le (pos y.m *ℤ x.n) (pos x.m *ℤ y.n) then x else y

-- the greater of two fractions
abbrev pub greater : Fraction → Fraction → Fraction
greater x y = if int_le (pos y.m *ℤ x.n) (pos x.m *ℤ y.n) then y else x
