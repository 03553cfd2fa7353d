-- What fits at a trip place fits at every earlier one, so the calculated release speed of an earlier trip is at least
-- as great: the earliest trip place decides whether there is one.
use Rattle.std.proofs.Common.{◌≡◌, ℕ, ℤ, zero, suc, pos, Bool, true, false, not, nat_le, ◌<◌, ◌≤◌, ◌+◌, ◌+ℤ◌, ◌*ℤ◌}
use Rattle.std.proofs.Common.{◌≤ℤ◌, refl, sym, ◌∙◌, arith, inl, inr, neg_ℤ, ◌*◌}
use Rattle.std.proofs.lemmas.Int.{ints}
use Rattle.std.proofs.lemmas.Bool.{and_from, and_parts, cases_lt, le-leb, leb-true, true≢false, not-true}
use Rattle.std.specs.Prelude.{if◌then◌else◌, IsTrue}
use Rattle.sdm_num.specs.Units.{distance_at, notches, top_kmh}
use Rattle.sdm_num.specs.Fractions.{less, whole}
use Rattle.sdm_num.proofs.Comparisons.{not_lt_is, not_lt_of}
use Rattle.sdm_rules.specs.declared.authorities.Authority.TheVariants.{Stop, Limit}
use Rattle.sdm_rules.specs.declared.data.SlopeKind.TheVariants.{Safe}
use Rattle.sdm_rules.specs.Cells.{place_of_cell}
use Rattle.sdm_rules.specs.Curves.{stepped}
use Rattle.sdm_rules.specs.Data.{TrainAndTrack}
use Rattle.sdm_rules.specs.Decelerations.{slopes_of}
use Rattle.sdm_rules.specs.Limits.{computed}
use Rattle.sdm_rules.specs.Reaction.{reaction_times}
use Rattle.sdm_rules.specs.Release.{calculated, fits, greatest_up_to, release_speed, t_be}
use Rattle.sdm_rules.specs.Slopes.{Slopes}
use Rattle.sdm_rules.specs.Triggers.{is_past}
use Rattle.sdm_laws.specs.TripPlaces.{HasTripPlace, LawOfCalculatedTrips, LawOfTripPlaces, TripBounds}
use Rattle.sdm_laws.specs.TripPlaces.{has_trip_place}
use Rattle.sdm_laws.proofs.Rows.CalculatedRelease.{greater_fails, greatest_passes, standstill_fits}

-- ---- places before others

-- a front end that isn't past a whole limit lies at or before it
pub at_most_limit : (front p : ℤ) (k : ℕ) → is_past 0 front (less (whole p) k) ≡ false → (front +ℤ pos k) ≤ℤ p
at_most_limit front p k e =
    let h : (pos 1 *ℤ (front +ℤ pos 0)) ≤ℤ (p +ℤ neg_ℤ (pos (k * 1))) = not_lt_of _ _ e in omega (arith, ints, h)

-- and the other way round
pub not_past_limit : (front p : ℤ) (k : ℕ) → (front +ℤ pos k) ≤ℤ p → is_past 0 front (less (whole p) k) ≡ false
not_past_limit front p k h =
    let low : (pos 1 *ℤ (front +ℤ pos 0)) ≤ℤ (p +ℤ neg_ℤ (pos (k * 1))) = omega (arith, ints, h) in
    not_lt_is _ _ low

not_is : (b : Bool) → b ≡ false → not b ≡ true
not_is true e = absurd (true≢false e)
not_is false e = refl

-- what fits at a trip place fits at an earlier one
fits_earlier : (on : Slopes) (time : ℕ) (svl trip' trip : ℤ) (kmh : ℕ) → trip' ≤ℤ trip →
    fits computed on time svl trip kmh ≡ true →
    fits computed on time svl trip' kmh ≡ true
fits_earlier on time svl trip' trip kmh le e =
    let p = stepped on svl 0 (notches kmh) in
    let way = distance_at (notches kmh) time in
    let h = at_most_limit trip p way (not-true _ e) in
    not_is _ (not_past_limit trip' p way (omega (arith, ints, le, h)))

-- ---- the greatest

by_last : (P : ℕ → Type 0) (b : Bool) (more less : ℕ) → P more → P less → P (if b then more else less)
by_last P true more less one two = one
by_last P false more less one two = two

greatest_within : (n : ℕ) (test : ℕ → Bool) → greatest_up_to n test ≤ n
greatest_within zero test = omega arith
greatest_within (suc n) test =
    let h = greatest_within n test in by_last (λ k. k ≤ suc n) (test (suc n)) (suc n) _ (omega arith) (omega arith)

-- a calculated release speed fits
pub calculated_fits : (d : TrainAndTrack) (svl trip : ℕ) → trip ≤ svl →
    fits computed (slopes_of Safe d) (t_be d) (place_of_cell (pos svl)) (place_of_cell (pos trip))
    (calculated d svl trip) ≡ true
unfolding release_speed
calculated_fits d svl trip le =
    greatest_passes top_kmh
    (fits computed (slopes_of Safe d) (t_be d) (place_of_cell (pos svl)) (place_of_cell (pos trip)))
    (standstill_fits (slopes_of Safe d) (t_be d) (place_of_cell (pos svl)) (place_of_cell (pos trip))
    (omega (arith, ints, le)))

calculated_within : (d : TrainAndTrack) (svl trip : ℕ) → calculated d svl trip ≤ top_kmh
unfolding release_speed
calculated_within d svl trip =
    greatest_within top_kmh
    (fits computed (slopes_of Safe d) (t_be d) (place_of_cell (pos svl)) (place_of_cell (pos trip)))

-- none that is greater fits
calculated_greatest : (d : TrainAndTrack) (svl trip kmh : ℕ) → kmh ≤ top_kmh → calculated d svl trip < kmh →
    fits computed (slopes_of Safe d) (t_be d) (place_of_cell (pos svl)) (place_of_cell (pos trip)) kmh ≡ false
unfolding release_speed
calculated_greatest d svl trip kmh le lt =
    greater_fails top_kmh
    (fits computed (slopes_of Safe d) (t_be d) (place_of_cell (pos svl)) (place_of_cell (pos trip))) kmh le lt

-- so a speed that fits isn't greater
pub fits_within : (d : TrainAndTrack) (svl trip kmh : ℕ) → kmh ≤ top_kmh →
    fits computed (slopes_of Safe d) (t_be d) (place_of_cell (pos svl)) (place_of_cell (pos trip)) kmh ≡ true →
    kmh ≤ calculated d svl trip
fits_within d svl trip kmh le fit = elim (cases_lt (calculated d svl trip) kmh) [
  | inl lt ↦ absurd (true≢false (sym fit ∙ calculated_greatest d svl trip kmh le lt))
  | inr ge ↦ ge
]

pub earlier : (d : TrainAndTrack) (svl trip' trip : ℕ) → trip' ≤ trip → trip ≤ svl →
    calculated d svl trip ≤ calculated d svl trip'
earlier d svl trip' trip le by_svl =
    let kmh = calculated d svl trip in
    fits_within d svl trip' kmh (calculated_within d svl trip)
    (fits_earlier (slopes_of Safe d) (t_be d) (place_of_cell (pos svl)) (place_of_cell (pos trip'))
    (place_of_cell (pos trip)) kmh (omega (arith, ints, le)) (calculated_fits d svl trip by_svl))

-- ---- the test

-- the place W past the EOA is a trip place
tested : (b : TripBounds) (d : TrainAndTrack) (eoa svl release : ℕ) →
    IsTrue (has_trip_place b d (Stop eoa svl release)) → HasTripPlace b d eoa svl release
tested b d eoa svl release e =
    let two = and_parts _ (nat_le (reaction_times d).traction (t_be d)) e in
    let one = and_parts (nat_le (eoa + b.width) svl) _ two.0 in
    record {
      trip = eoa + b.width;
      after_eoa = omega arith;
      by_svl = leb-true _ _ one.0;
      slow = leb-true _ _ one.1;
      in_time = leb-true _ _ two.1;
    }

-- and it is one where another one is
found : (b : TripBounds) (d : TrainAndTrack) (eoa svl release : ℕ) → HasTripPlace b d eoa svl release →
    IsTrue (has_trip_place b d (Stop eoa svl release))
found b d eoa svl release h =
    let le = earlier d svl (eoa + b.width) h.trip h.after_eoa h.by_svl in
    let late : eoa + b.width ≤ svl = omega (arith, h.after_eoa, h.by_svl) in
    let slow : notches release + b.excess ≤ notches (calculated d svl (eoa + b.width)) = omega (arith, h.slow, le) in
    and_from _ _ (and_from _ _ (le-leb _ _ late) (le-leb _ _ slow)) (le-leb _ _ h.in_time)

pub trip_places : LawOfTripPlaces
trip_places b d (Stop eoa svl release) = (tested b d eoa svl release, found b d eoa svl release)
trip_places b d (Limit loa speed) = ((λ e. absurd cc), λ h. absurd h)

-- ---- the calculated release speed

pub calculated_trips : LawOfCalculatedTrips
calculated_trips d eoa svl trip by_svl in_time width fits = record {
  trip = trip;
  after_eoa = fits;
  by_svl = by_svl;
  slow = omega arith;
  in_time = in_time;
}
