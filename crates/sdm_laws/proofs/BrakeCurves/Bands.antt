-- The band of a square holds it, and a lesser square has no higher band.
use Rattle.std.proofs.Common.{◌≡◌, ℕ, zero, suc, List, [], ◌∷◌, get_or, length, ◌*◌, ◌<◌, ◌≤◌, arith, rules, inl, inr}
use Rattle.std.proofs.lemmas.Bool.{cases_lt}
use Rattle.std.proofs.lemmas.Nat.{mul-le}
use Rattle.std.proofs.Math.Nat.{mul-le-mul_left}
use Rattle.sdm_rules.specs.Slopes.{Slopes, IsUsable}
use Rattle.sdm_rules.specs.Curves.{upper_square, band_of_square}
use Rattle.sdm_rules.specs.Motion.{IsInBand, lower_square}

-- the band is the first whose upper square is not below the square
record IsBand (s : ℕ) (vs : List ℕ) (z band : ℕ) : Type 0 where
  known : band ≤ length vs
  above : (i : ℕ) → i < band → s * (get_or vs i 0 * get_or vs i 0) < z
  below : band < length vs → z ≤ s * (get_or vs band 0 * get_or vs band 0)

band_next : (s v : ℕ) (vs : List ℕ) (z : ℕ) → s * (v * v) < z →
    band_of_square s (v ∷ vs) z ≡ suc (band_of_square s vs z)
band_next s v vs z lt = search rules

band_here : (s v : ℕ) (vs : List ℕ) (z : ℕ) → z ≤ s * (v * v) → band_of_square s (v ∷ vs) z ≡ 0
band_here s v vs z le = search rules

band-is : (s : ℕ) (vs : List ℕ) (z : ℕ) → IsBand s vs z (band_of_square s vs z)
band-is s [] z = record { known = omega arith; above = λ i l. absurd (omega arith); below = λ l. absurd (omega arith) }
band-is s (v ∷ vs) z = elim (cases_lt (s * (v * v)) z) [
  | inl lt ↦ (let h = band-is s vs z in rw (band_next s v vs z lt) record {
    known = omega (arith, h.known);
    above = past s v vs z (band_of_square s vs z) lt h.above;
    below = λ l. h.below (omega arith);
  })
  | inr ge ↦ rw (band_here s v vs z ge)
      record { known = omega arith; above = λ i l. absurd (omega arith); below = λ _. ge }
]
  where
    past : (s v : ℕ) (vs : List ℕ) (z b : ℕ) → s * (v * v) < z →
        ((i : ℕ) → i < b → s * (get_or vs i 0 * get_or vs i 0) < z) → (i : ℕ) → i < suc b →
        s * (get_or (v ∷ vs) i 0 * get_or (v ∷ vs) i 0) < z
    past s v vs z b lt rest zero l = lt
    past s v vs z b lt rest (suc i) l = rest i (omega arith)

-- the band of a square
abbrev pub band_at : Slopes → ℕ → ℕ → ℕ
band_at on s z = band_of_square s on.uppers z

pub in_its_band : (on : Slopes) (s z : ℕ) → IsInBand on s (band_at on s z) z
in_its_band on s z =
    let h = band-is s on.uppers z in
    record { known = h.known; above = from on s z (band_at on s z) h.above; below = h.below }
  where
    from : (on : Slopes) (s z b : ℕ) → ((i : ℕ) → i < b → upper_square on s i < z) → lower_square on s b ≤ z
    from on s z zero above = omega arith
    from on s z (suc b) above = omega (arith, above b (omega arith))

pub band_rises : (on : Slopes) (s z' z : ℕ) → z' ≤ z → band_at on s z' ≤ band_at on s z
band_rises on s z' z le = elim (cases_lt (band_at on s z) (band_at on s z')) [
  | inl lt ↦ (let h = band-is s on.uppers z' in let k = band-is s on.uppers z in
      absurd (omega (arith, h.above _ lt, h.known, k.below (omega (arith, h.known)))))
  | inr ge ↦ ge
]

-- ---- the borders of a band

-- upper squares rise
pub squares_rise : (on : Slopes) (s i j : ℕ) → IsUsable on → i ≤ j → j < length on.uppers →
    upper_square on s i ≤ upper_square on s j
squares_rise on s i j usable le lt =
    let rise = usable.rising i j le lt in mul-le-mul_left s (mul-le _ _ _ _ rise rise)

-- the border between a band and the next is in both
pub border_below : (on : Slopes) (s band : ℕ) → IsUsable on → band < length on.uppers →
    IsInBand on s band (upper_square on s band)
border_below on s zero usable lt = record { known = omega arith; above = omega arith; below = λ _. omega arith }
border_below on s (suc band) usable lt = record {
  known = omega arith;
  above = squares_rise on s band (suc band) usable (omega arith) lt;
  below = λ _. omega arith;
}

pub border_above : (on : Slopes) (s band : ℕ) → IsUsable on → band < length on.uppers →
    IsInBand on s (suc band) (upper_square on s band)
border_above on s band usable lt = record {
  known = omega arith;
  above = omega arith;
  below = λ l. squares_rise on s band (suc band) usable (omega arith) l;
}

-- a square is past the border below its band
pub past_lower : (on : Slopes) (s z band : ℕ) → band < band_at on s z → upper_square on s band < z
past_lower on s z band lt = (band-is s on.uppers z).above band lt

-- and at or before the border above it, and above each higher band
pub within_upper : (on : Slopes) (s z band : ℕ) → IsUsable on → band_at on s z ≤ band → band < length on.uppers →
    z ≤ upper_square on s band
within_upper on s z band usable le lt =
    omega (arith, (band-is s on.uppers z).below (omega arith), squares_rise on s (band_at on s z) band usable le lt)

-- no lower band holds a square than its own
pub band_least : (on : Slopes) (s z band : ℕ) → IsInBand on s band z → band_at on s z ≤ band
band_least on s z band h = elim (cases_lt band (band_at on s z)) [
  | inl lt ↦ absurd (omega (arith, past_lower on s z band lt, h.below (omega (arith, (band-is s on.uppers z).known))))
  | inr ge ↦ ge
]
