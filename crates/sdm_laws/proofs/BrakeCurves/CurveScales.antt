-- Exact places at two scales are the same: curves whose corners aren't rounded stay together.
use Rattle.std.proofs.Common.{◌≡◌, ℕ, ℤ, pos, ◌*◌, ◌<◌, ◌+ℤ◌, ◌*ℤ◌, ◌≤ℤ◌, arith, refl}
use Rattle.std.proofs.lemmas.Int.{ints}
use Rattle.std.proofs.Math.Nat.{mul_comm}
use Rattle.sdm_num.specs.Fractions.{Fraction, IsSame, times}
use Rattle.sdm_num.proofs.Ints.{scale-scale}
use Rattle.sdm_rules.specs.Slopes.{Slopes, IsUsable}
use Rattle.sdm_rules.specs.Curves.{as_is, exact_at}
use Rattle.sdm_laws.proofs.OneBand.CommonSteps.{IsPastBy, past_more}
use Rattle.sdm_laws.proofs.OneBand.BothWays.{over}
use Rattle.sdm_laws.proofs.BrakeCurves.TwoCurves.{IsApartAfter, place_near, usable_fair}

-- curves that aren't rounded stay together
never_apart : (k v : ℕ) → IsApartAfter k v as_is (λ n. 0)
never_apart k v = record { later = λ n n' le. omega arith; rounds = λ n x x' h. past_more _ _ _ _ h (omega arith) }

-- what is past the `k`th part by nothing is `k` times as much
same_of : (k : ℕ) (x big : Fraction) → IsPastBy x (over k big) 0 → IsSame big (times k x)
same_of k x big h = record { crossed = both_distances k big.m x.m big.n x.n h.not_before.crossed h.near.crossed }
  where
    both_distances : (k big_m m : ℕ) (big_n n : ℤ) → (pos m *ℤ big_n) ≤ℤ (pos (k * big_m) *ℤ n) →
        (pos (k * big_m) *ℤ n) ≤ℤ (pos m *ℤ (big_n +ℤ pos (0 * (k * big_m)))) →
        pos m *ℤ big_n ≡ pos big_m *ℤ (pos k *ℤ n)
    both_distances k big_m m big_n n low high =
        let none : big_n +ℤ pos (0 * (k * big_m)) ≡ big_n = omega (arith, ints) in
        rw (scale-scale big_m k n, mul_comm big_m k) (omega (arith, ints, low, rw none at high))

-- at `k` times the scale the place of `k` times the square is `k` times the place
pub exact_scaled : (on : Slopes) (s k : ℕ) (f : ℤ) (w u : ℕ) → IsUsable on → 0 < s → 0 < k →
    IsSame (exact_at on (k * s) f w (k * u)) (times k (exact_at on s f w u))
unfolding exact_at
exact_scaled on s k f w u usable s_pos k_pos =
    same_of k _ _ (place_near on s k _ as_is _ s_pos k_pos (usable_fair on usable) (never_apart k _) f w u
    (k * u) refl)
