-- Whether slopes are accepted is decided, since bands and segments are finitely many; so a written map is made or
-- refused.
use Rattle.std.proofs.Common.{◌≡◌, ℕ, ℤ, suc, pos, List, [], ◌∷◌, Option, Some, None, ◌<◌, ◌/◌, ◌%◌, ◌*ℤ◌}
use Rattle.std.proofs.Common.{◌≤ℤ◌, length, map, get_or, unsigned_abs, refl, sym, subst, ap, ◌∙◌, arith, inl, inr}
use Rattle.std.proofs.lemmas.Int.{ints}
use Rattle.sdm_rules.specs.Slopes.{IsStrongSlope, IsUsable, SlopeMap, bands_of, least_slope, meaning_of, variation}
use Rattle.sdm_curve.specs.Maps.{MapData, IsMapData, IsKeptMap, AreAccepted, AreStrong, IsStrongBand, IsEvenBand}
use Rattle.sdm_curve.specs.Maps.{handed_in, slope_in}
use Rattle.sdm_curve.proofs.Meanings.{usable_of}
use Rattle.sdm_curve.proofs.Rows.{index_known, slope_at_index}
use Rattle.sdm_certify.specs.Checker.{IsMadeOf}
use Rattle.sdm_certify.proofs.Decisions.{IsDecided, all_below, both_decided, decided_as, le_z_decided}

-- ---- accepted or not

-- that no slope is too weak
strong_decided : (d : MapData) → IsDecided (AreStrong d)
strong_decided d =
    all_below (IsStrongBand d)
    (λ band. all_below (λ i. IsStrongSlope d.q (slope_in d band i))
    (λ i. le_z_decided (pos (least_slope d.q)) (slope_in d band i)) (length d.starts))
    (bands_of d.uppers)

-- that no slope of a band is more times another than it may be
even_band_decided : (d : MapData) (band : ℕ) → IsDecided (IsEvenBand d band)
even_band_decided d band =
    decided_as
    (all_below (λ i. (j : ℕ) → j < length d.starts →
    slope_in d band i ≤ℤ (pos (variation (bands_of d.uppers)) *ℤ slope_in d band j))
    (λ i. all_below (λ j. slope_in d band i ≤ℤ (pos (variation (bands_of d.uppers)) *ℤ slope_in d band j))
    (λ j. le_z_decided (slope_in d band i) (pos (variation (bands_of d.uppers)) *ℤ slope_in d band j))
    (length d.starts)) (length d.starts))
    (λ h i j lt less. h i lt j less) (λ h i lt j less. h i j lt less)

-- that the slopes are accepted
pub accepted_decided : (d : MapData) → IsDecided (AreAccepted d)
accepted_decided d =
    decided_as
    (both_decided (strong_decided d) (all_below (IsEvenBand d) (even_band_decided d) (bands_of d.uppers)))
    (λ h. record { strong = h.0; even = h.1 }) (λ h. (h.strong, h.even))

-- ---- the map that is made

-- whole numbers that aren't below 0 are those of natural numbers
naturals_back : (xs : List ℤ) → ((k : ℕ) → k < length xs → pos 0 ≤ℤ get_or xs k (pos 0)) →
    map pos (map unsigned_abs xs) ≡ xs
naturals_back [] h = refl
naturals_back (x ∷ xs) h =
    let first = h 0 (omega arith) in
    let is : pos (unsigned_abs x) ≡ x = omega (arith, ints, first) in
    let more = naturals_back xs (λ k lt. h (suc k) (omega (arith, lt))) in
    λ i. is i ∷ more i

-- accepted slopes aren't below 0
accepted_natural : (d : MapData) → IsMapData d → AreAccepted d → (k : ℕ) → k < length d.slopes →
    pos 0 ≤ℤ get_or d.slopes k (pos 0)
accepted_natural d given accepted k lt =
    let place = index_known d k given lt in
    let strong = accepted.strong (k / length d.starts) place.0 (k % length d.starts) place.1 in
    omega (arith, ints, strong, slope_at_index d k)

-- the map of accepted slopes
abbrev made_map : MapData → SlopeMap
made_map d = record { q = d.q; uppers = d.uppers; starts = d.starts; slopes = map unsigned_abs d.slopes }

-- what is written makes a map, or none
pub made_decided : (written : MapData) → IsMapData written → (made : Option SlopeMap) × IsMadeOf written made
made_decided written given = by_slopes (accepted_decided written)
  where
    by_slopes : IsDecided (AreAccepted written) → (made : Option SlopeMap) × IsMadeOf written made
    by_slopes (inl accepted) =
        let slopes = naturals_back written.slopes (accepted_natural written given accepted) in (
          Some (made_map written),
          (
            (λ i. record { q = written.q; uppers = written.uppers; starts = written.starts; slopes = slopes i }),
            accepted,
          ),
        )
    by_slopes (inr never) = (None, never)

-- slopes that were handed in are those of one map
slopes_one : (xs ys : List ℕ) → map pos xs ≡ map pos ys → xs ≡ ys
slopes_one [] [] e = refl
slopes_one [] (y ∷ ys) e = absurd cc
slopes_one (x ∷ xs) [] e = absurd cc
slopes_one (x ∷ xs) (y ∷ ys) e =
    let first : x ≡ y = cc in
    let more : map pos xs ≡ map pos ys = cc in
    λ k. first k ∷ slopes_one xs ys more k

-- what is written makes one map, or none
pub made_one : (written : MapData) (a b : Option SlopeMap) → IsMadeOf written a → IsMadeOf written b → a ≡ b
made_one written (Some m) (Some n) h k =
    let same : handed_in m ≡ handed_in n = h.0 ∙ sym k.0 in
    let slopes = slopes_one m.slopes n.slopes (ap (λ (d : MapData). d.slopes) same) in
    λ i. Some (record {
      q = (same i).q;
      uppers = (same i).uppers;
      starts = (same i).starts;
      slopes = slopes i;
    })
made_one written (Some m) None h k = absurd (k h.1)
made_one written None (Some n) h k = absurd (h k.1)
made_one written None None h k = refl

-- a map that is made is usable
pub made_usable : (written : MapData) (m : SlopeMap) → IsMapData written → IsMadeOf written (Some m) →
    IsUsable (meaning_of m)
made_usable written m given h =
    usable_of m (subst IsKeptMap (sym h.0) (record { well_formed = given; accepted = h.1 }))
