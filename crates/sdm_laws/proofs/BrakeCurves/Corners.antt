-- Places from the corners of their bands: at the border between two bands they give one place, and so what holds of two
-- places in one band, and goes on from place to place, holds of all places of a curve.
use Rattle.std.proofs.Common.{◌≡◌, ℕ, ℤ, zero, suc, pos, length, ◌+◌, ◌-◌, ◌*◌, ◌<◌, ◌≤◌, ◌*ℤ◌, ap, arith, rules, refl}
use Rattle.std.proofs.Common.{sym, ◌∙◌, inl, inr}
use Rattle.std.proofs.lemmas.Bool.{cases_lt}
use Rattle.sdm_num.specs.Fractions.{Fraction, whole}
use Rattle.sdm_rules.specs.Slopes.{Slopes, IsUsable}
use Rattle.sdm_rules.specs.Curves.{upper_square, Corner, arc, corner, place_at}
use Rattle.sdm_rules.specs.Motion.{IsInBand}
use Rattle.sdm_laws.proofs.OneBand.BothWays.{arc_pos, arc_none}
use Rattle.sdm_laws.proofs.BrakeCurves.Bands.{band_at, in_its_band, band_rises, border_above, border_below}
use Rattle.sdm_laws.proofs.BrakeCurves.Bands.{squares_rise}

module _ (round : Fraction → Fraction) (on : Slopes) (s : ℕ) (foot : Corner) (own : ℕ) where
  -- the corner of a band
  abbrev pub at : ℕ → Corner
  at band = corner round on s foot own ((own - band) + (band - own)) band

  -- the place of a square in a band
  abbrev pub place_in : ℕ → ℕ → Fraction
  place_in band z = round (arc on s band (at band).place (at band).square z)

  -- below the foot's band the corner is where the band above ends
  pub corner_below : (band : ℕ) → band < own →
      at band ≡ record { place = place_in (suc band) (upper_square on s band); square = upper_square on s band }
  unfolding corner
  corner_below band lt =
      let more : (own - band) + (band - own) ≡ suc ((own - suc band) + (suc band - own)) = omega arith in
      rw more (search rules)

  -- above it where the band below does
  pub corner_above : (band : ℕ) → own ≤ band →
      at (suc band) ≡ record { place = place_in band (upper_square on s band); square = upper_square on s band }
  unfolding corner
  corner_above band le =
      let more : (own - suc band) + (suc band - own) ≡ suc ((own - band) + (band - own)) = omega arith in
      rw more (search rules)

  -- the foot's own is the foot
  pub corner_own : at own ≡ foot
  unfolding corner
  corner_own = let none : (own - own) + (own - own) ≡ 0 = omega arith in rw none refl

  -- what is rounded stays as it is
  abbrev pub Stays : Type 0
  Stays = (x : Fraction) → round (round x) ≡ round x

  -- both bands give the place of the border between them
  pub border_same : Stays → (band : ℕ) →
      place_in band (upper_square on s band) ≡ place_in (suc band) (upper_square on s band)
  border_same stays band = elim (cases_lt band own) [
    | inl lt ↦ rw (corner_below band lt) (ap round (arc_none on s band _ _) ∙ stays _)
    | inr ge ↦ sym (rw (corner_above band ge) (ap round (arc_none on s (suc band) _ _) ∙ stays _))
  ]

  -- ---- outwards from the foot's band

  -- what goes on from each band to the next away from `own` holds of all bands
  pub outwards : own ≤ length on.uppers → (P : ℕ → ℕ → Type 0) → P 0 own →
      ((n band : ℕ) → band < own → P n (suc band) → P (suc n) band) →
      ((n band : ℕ) → own ≤ band → band < length on.uppers → P n band → P (suc n) (suc band)) →
      (n band : ℕ) → (own - band) + (band - own) ≡ n → band ≤ length on.uppers → P n band
  outwards own_known P start down up zero band e known = let own_is : band ≡ own = omega arith in rw own_is start
  outwards own_known P start down up (suc n) zero e known =
      down n 0 (omega arith) (outwards own_known P start down up n 1 (omega arith) (omega arith))
  outwards own_known P start down up (suc n) (suc band) e known = elim (cases_lt (suc band) own) [
    | inl lt ↦ down n (suc band) lt (outwards own_known P start down up n (suc (suc band)) (omega arith) (omega arith))
    | inr ge ↦ up n band (omega arith) (omega arith)
        (outwards own_known P start down up n band (omega arith) (omega arith))
  ]

  -- a corner is a place
  pub corner_pos : 0 < s → IsUsable on → own ≤ length on.uppers → ((x : Fraction) → 0 < x.m → 0 < (round x).m) →
      0 < foot.place.m → (band : ℕ) → band ≤ length on.uppers → 0 < (at band).place.m
  corner_pos s_pos usable own_known kept start band known = outwards own_known (λ n band. 0 < (at band).place.m)
      (rw corner_own start)
      (λ n band lt h. rw (corner_below band lt)
      (kept _ (arc_pos on s _ (usable.positive _ (omega arith)) s_pos _ _ _ h)))
      (λ n band ge lt h. rw (corner_above band ge)
      (kept _ (arc_pos on s _ (usable.positive _ (omega arith)) s_pos _ _ _ h)))
      _ band refl known

  -- ---- what is joined

  module _ (Joined : Fraction → ℕ → Fraction → ℕ → Type 0)
      (goes_on : (y x z : Fraction) (u v w : ℕ) → Joined y u x v → Joined x v z w → Joined y u z w)
      (in_band : (band : ℕ) (x : Fraction) (u z' z : ℕ) → IsInBand on s band z' → IsInBand on s band z → z' ≤ z →
      0 < x.m → Joined (round (arc on s band x u z)) z (round (arc on s band x u z')) z')
      (usable : IsUsable on) (stays : Stays) (pos : (band : ℕ) → band ≤ length on.uppers → 0 < (at band).place.m) where
    -- in one band
    within : (band z' z : ℕ) → IsInBand on s band z' → IsInBand on s band z → z' ≤ z →
        Joined (place_in band z) z (place_in band z') z'
    within band z' z h' h le = in_band band _ _ z' z h' h le (pos band h.known)

    -- from a band to one that is no higher
    pub between : (band' band z' z : ℕ) → band' ≤ band → IsInBand on s band' z' → IsInBand on s band z → z' ≤ z →
        Joined (place_in band z) z (place_in band' z') z'
    between band' zero z' z le h' h falls =
        let same : band' ≡ 0 = omega arith in rw same (within 0 z' z (rw same at h') h falls)
    between band' (suc band) z' z le h' h falls = elim (cases_lt band' (suc band)) [
      | inr ge ↦ (let same : band' ≡ suc band = omega arith in rw same (within (suc band) z' z (rw same at h') h falls))
      | inl lt ↦ (
          let known : band < length on.uppers = omega (arith, h.known) in
          let border = upper_square on s band in
          let low : z' ≤ border =
          omega (arith, h'.below (omega arith), squares_rise on s band' band usable (omega arith) known) in
          let here = within (suc band) border z (border_above on s band usable known) h h.above in
          let rest = between band' band z' border (omega arith) h' (border_below on s band usable known) low in
          goes_on _ _ _ z border z' (rw (← border_same stays band) at here) rest)
    ]

-- ---- the places of a curve

-- the foot as a corner
abbrev pub foot_at : ℕ → ℤ → ℕ → Corner
foot_at s f w = record { place = whole (pos s *ℤ f); square = s * (w * w) }

-- the band of the foot
abbrev pub own_of : Slopes → ℕ → ℕ → ℕ
own_of on s w = band_at on s (s * (w * w))

-- the place of a square is that in its band
pub place_is : (round : Fraction → Fraction) (on : Slopes) (s : ℕ) (f : ℤ) (w z : ℕ) →
    place_at round on s f w z ≡ place_in round on s (foot_at s f w) (own_of on s w) (band_at on s z) z
unfolding place_at
place_is round on s f w z = refl

-- the corners of a curve are places
pub at_pos : (round : Fraction → Fraction) (on : Slopes) (s : ℕ) → IsUsable on → 0 < s →
    ((x : Fraction) → 0 < x.m → 0 < (round x).m) → (f : ℤ) (w band : ℕ) → band ≤ length on.uppers →
    0 < (at round on s (foot_at s f w) (own_of on s w) band).place.m
at_pos round on s usable s_pos kept f w band known = corner_pos round on s (foot_at s f w) (own_of on s w) s_pos usable
    (in_its_band on s (s * (w * w))).known kept (omega arith) band known

-- the places of two squares of a curve are joined, where those of a band are and what is joined goes on
pub joined : (round : Fraction → Fraction) (on : Slopes) (s : ℕ) (Joined : Fraction → ℕ → Fraction → ℕ → Type 0) →
    ((y x z : Fraction) (u v w : ℕ) → Joined y u x v → Joined x v z w → Joined y u z w) →
    ((band : ℕ) (x : Fraction) (u z' z : ℕ) → IsInBand on s band z' → IsInBand on s band z → z' ≤ z → 0 < x.m →
    Joined (round (arc on s band x u z)) z (round (arc on s band x u z')) z') →
    ((x : Fraction) → round (round x) ≡ round x) → ((x : Fraction) → 0 < x.m → 0 < (round x).m) →
    IsUsable on → 0 < s → (f : ℤ) (w z' z : ℕ) → z' ≤ z →
    Joined (place_at round on s f w z) z (place_at round on s f w z') z'
unfolding place_at
joined round on s Joined goes_on in_band stays kept usable s_pos f w z' z le =
    between round on s (foot_at s f w) (own_of on s w) Joined goes_on in_band usable stays
    (at_pos round on s usable s_pos kept f w) (band_at on s z') (band_at on s z) z' z (band_rises on s z' z le)
    (in_its_band on s z') (in_its_band on s z) le
