-- Two curves from one foot, the second at `k` times the scale and rounded at its corners: each band multiplies how far
-- apart they are by at most the variation of its slopes, and rounding adds to that.
use Rattle.std.proofs.Common.{◌≡◌, ℕ, ℤ, zero, suc, pos, ◌+◌, ◌-◌, ◌*◌, ◌<◌, ◌≤◌, ◌*ℤ◌, List, [], ◌∷◌, length, arith}
use Rattle.std.proofs.Common.{rules, refl, inl, inr}
use Rattle.std.proofs.lemmas.Int.{ints}
use Rattle.std.proofs.lemmas.Bool.{cases_lt}
use Rattle.std.proofs.Math.Nat.{mul-le-mul_left, mul-lt-mul_of_pos_left}
use Rattle.sdm_num.specs.Fractions.{Fraction, whole}
use Rattle.sdm_num.proofs.Ints.{scales}
use Rattle.sdm_rules.specs.Slopes.{Slopes, IsUsable, bands_of, variation}
use Rattle.sdm_rules.specs.Curves.{as_is, Corner, arc, place_at, band_of_square}
use Rattle.sdm_laws.proofs.OneBand.Energy.{IsPositive, IsEven}
use Rattle.sdm_laws.proofs.OneBand.CommonSteps.{IsPastBy, factor_right, past_more}
use Rattle.sdm_laws.proofs.OneBand.BothWays.{over, arc_past}
use Rattle.sdm_laws.proofs.BrakeCurves.Bands.{band_at, in_its_band}
use Rattle.sdm_laws.proofs.BrakeCurves.Corners.{at, corner_own, corner_below, corner_above, outwards, foot_at, own_of}
use Rattle.sdm_laws.proofs.BrakeCurves.Corners.{place_is}

-- the slopes of every band are above 0, and none is above `k` times another of its band
pub record AreFair (on : Slopes) (k : ℕ) : Type 0 where
  pub positive : (band : ℕ) → band ≤ length on.uppers → IsPositive on band
  pub even : (band : ℕ) → band ≤ length on.uppers → IsEven on band k
  pub some : 0 < k

-- usable slopes are even, and so their variation is above 0
pub usable_fair : (on : Slopes) → IsUsable on → AreFair on (variation (bands_of on.uppers))
usable_fair on h = record {
  positive = h.positive;
  even = h.even;
  some = first_factor _ _ _
      (h.positive 0 (omega arith) (pos 0)) (h.even 0 (omega arith) (pos 0) (pos 0));
}
  where
    first_factor : (a k b : ℕ) → 0 < a → a ≤ k * b → 0 < k
    first_factor a zero b p le = absurd (omega arith)
    first_factor a (suc k) b p le = omega arith

-- How far apart the curves are at most after some bands, where slopes vary by `v`: `apart` grains, of which rounding
-- is a part.
pub record IsApartAfter (k v : ℕ) (round : Fraction → Fraction) (apart : ℕ → ℕ) : Type 0 where
  pub later : (n n' : ℕ) → n ≤ n' → apart n ≤ apart n'
  pub rounds : (n : ℕ) (x x' : Fraction) → IsPastBy x (over k x') (v * apart n) →
      IsPastBy x (over k (round x')) (apart (suc n))

-- at another scale the band is the same
band_scaled : (k s : ℕ) (vs : List ℕ) (z : ℕ) → 0 < k → band_of_square (k * s) vs (k * z) ≡ band_of_square s vs z
band_scaled k s [] z k_pos = refl
band_scaled k s (v ∷ vs) z k_pos = elim (cases_lt (s * (v * v)) z) [
  | inl lt ↦ (let lt' : (k * s) * (v * v) < k * z = omega (arith, mul-lt-mul_of_pos_left lt k_pos) in
      let rest = band_scaled k s vs z k_pos in search (rules, rest))
  | inr ge ↦ (let ge' : k * z ≤ (k * s) * (v * v) = omega (arith, mul-le-mul_left k ge) in search rules)
]

module _ (on : Slopes) (s k v : ℕ) (round : Fraction → Fraction) (apart : ℕ → ℕ) (s_pos : 0 < s) (k_pos : 0 < k)
    (fair : AreFair on v) (within : IsApartAfter k v round apart) (f : ℤ) (w : ℕ) where
  -- the corners of a band are near each other, and their squares the same
  record AreNear (n : ℕ) (c c' : Corner) : Type 0 where
    near : IsPastBy c.place (over k c'.place) (apart n)
    same : c'.square ≡ k * c.square

  -- the place of a square from near corners
  arcs_near : (n band z z' : ℕ) (c c' : Corner) → band ≤ length on.uppers → z' ≡ k * z → AreNear n c c' →
      IsPastBy (arc on s band c.place c.square z) (over k (round (arc on (k * s) band c'.place c'.square z')))
      (apart (suc n))
  arcs_near n band z z' c c' known z_is h =
      let x'_pos = factor_right (k * c'.place.m) k c'.place.m h.near.right (omega arith) in
      rw (h.same, z_is) (within.rounds n _ _ (arc_past on s k band v c.place c'.place c.square z (apart n)
      (fair.positive band known) (fair.even band known) s_pos k_pos x'_pos h.near))

  -- the corners of the first curve, and of the second
  abbrev first : ℕ → Corner
  first band = at as_is on s (foot_at s f w) (own_of on s w) band

  abbrev second : ℕ → Corner
  second band = at round on (k * s) (foot_at (k * s) f w) (own_of on s w) band

  corners_near : (n band : ℕ) → (own_of on s w - band) + (band - own_of on s w) ≡ n → band ≤ length on.uppers →
      AreNear n (first band) (second band)
  corners_near =
      let own = own_of on s w in
      let one : k * 1 ≡ k = omega arith in
      let foot : IsPastBy (whole (pos s *ℤ f)) (over k (whole (pos (k * s) *ℤ f))) (apart 0) =
      past_more _ _ 0 (apart 0) (record {
        left = omega arith;
        right = omega arith;
        not_before = record { crossed = rw one (simp scales (omega (arith, ints))) };
        near = record { crossed = rw one (simp scales (omega (arith, ints))) };
      }) (omega arith) in
      outwards as_is on s (foot_at s f w) own (in_its_band on s (s * (w * w))).known
      (λ n band. AreNear n (first band) (second band))
      (rw (corner_own as_is on s (foot_at s f w) own, corner_own round on (k * s) (foot_at (k * s) f w) own)
      record { near = foot; same = omega arith })
      (λ n band lt h. rw (
        corner_below as_is on s (foot_at s f w) own band lt,
        corner_below round on (k * s) (foot_at (k * s) f w) own band lt,
      ) record {
        near = arcs_near n (suc band) _ _ _ _ (omega (arith, (in_its_band on s (s * (w * w))).known)) (omega arith) h;
        same = omega arith;
      })
      (λ n band ge lt h. rw (
        corner_above as_is on s (foot_at s f w) own band ge,
        corner_above round on (k * s) (foot_at (k * s) f w) own band ge,
      ) record { near = arcs_near n band _ _ _ _ (omega arith) (omega arith) h; same = omega arith })

  -- so the places of one square are near
  pub place_near : (z z' : ℕ) → z' ≡ k * z →
      IsPastBy (place_at as_is on s f w z) (over k (place_at round on (k * s) f w z')) (apart (bands_of on.uppers))
  place_near z z' z_is =
      let own = own_of on s w in
      let band = band_at on s z in
      let known = (in_its_band on s z).known in
      let own_known = (in_its_band on s (s * (w * w))).known in
      let foot_is : (k * s) * (w * w) ≡ k * (s * (w * w)) = omega arith in
      let own_is : own_of on (k * s) w ≡ own = rw foot_is (band_scaled k s on.uppers (s * (w * w)) k_pos) in
      let band_is : band_at on (k * s) z' ≡ band = rw z_is (band_scaled k s on.uppers z k_pos) in
      rw (place_is as_is on s f w z, place_is round on (k * s) f w z', own_is, band_is) (past_more _ _ _ _
      (arcs_near ((own - band) + (band - own)) band z z' _ _ known z_is (corners_near _ band refl known))
      (within.later _ _ (omega arith)))
