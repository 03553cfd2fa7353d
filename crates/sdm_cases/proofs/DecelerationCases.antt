-- Slopes of worked examples, in 1/Q m/s²: with q = 100 a deceleration of 1 m/s² is 200,000,000,000.
use Rattle.std.proofs.Common.{◌≡◌, refl}
use Rattle.std.specs.Prelude.{ℤ, pos, negsuc, List, [], ◌∷◌, Option, Some, None, map}
use Rattle.sdm_rules.specs.declared.data.SlopeKind.TheVariants.{Safe, Expected, Normal}
use Rattle.sdm_rules.specs.declared.data.Area.{Area}
use Rattle.sdm_rules.specs.Data.{TrainAndTrack}
use Rattle.sdm_rules.specs.Decelerations.{under_train, slope_at}
use Rattle.sdm_cases.proofs.Journeys.{plain_band, plain_national, plain_train_and_track}

-- 1 m/s² on level track
level_slope : slope_at Safe (plain_train_and_track (pos 100) (Some (pos 0)) plain_band [] []) 0 (pos 7)
    ≡ pos 200_000_000_000
unfolding plain_train_and_track plain_national plain_band slope_at
level_slope = refl

-- 10 per mille down with 9 percent of rotating mass: 1.00 - 9.81 * 10 / 1090 = 0.91 m/s², with q = 109
downhill_slope : slope_at Safe (plain_train_and_track (pos 100) (Some (pos 9)) plain_band
    (record { start = pos 0; grad = negsuc 99 } ∷ []) []) 0 (pos 7) ≡ pos 198_380_000_000
unfolding plain_train_and_track plain_national plain_band slope_at
downhill_slope = refl

-- a tenth of a per mille counts: 9.5 per mille down leave 1.00 - 9.81 * 9.5 / 1090 m/s²
tenths_of_a_slope : slope_at Safe (plain_train_and_track (pos 100) (Some (pos 9)) plain_band
    (record { start = pos 0; grad = negsuc 94 } ∷ []) []) 0 (pos 7) ≡ pos 199_361_000_000
unfolding plain_train_and_track plain_national plain_band slope_at
tenths_of_a_slope = refl

-- with Kn- of 1 m/s² the normal service deceleration is 1 m/s² * 10 / 1000 greater downhill
guided_downhill_slope : slope_at Normal (plain_train_and_track (pos 100) (Some (pos 9))
    (record plain_band { kn_down = pos 100 }) (record { start = pos 0; grad = negsuc 99 } ∷ []) []) 0 (pos 7)
    ≡ pos 200_560_000_000
unfolding plain_train_and_track plain_national plain_band slope_at
guided_downhill_slope = refl

-- A rotating mass that is not known, with q = 102 * 115: 10 per mille up take 15 percent, down 2 percent. Of Q = 2 *
-- 10^9 * q the level slope is 1 m/s²; 9.81 * 10 / 1150 m/s² are 2,001,240,000,000 more, 9.81 * 10 / 1020 m/s² are
-- 2,256,300,000,000 less.
unknown_mass_slopes : map (λ grad. slope_at Expected (plain_train_and_track (pos 100) None plain_band
    (record { start = pos 0; grad = grad } ∷ []) []) 0 (pos 7)) (pos 0 ∷ pos 100 ∷ negsuc 99 ∷ [])
    ≡ pos 23_460_000_000_000 ∷ pos 25_461_240_000_000 ∷ pos 21_203_700_000_000 ∷ []
unfolding plain_train_and_track plain_national plain_band slope_at
unknown_mass_slopes = refl

-- Reduced adhesion from cell 900 to 1000 with a maximum of 0.70 m/s², for a train of 1 m: its last cell is 1099. It
-- lowers the safe deceleration alone.
reduced_slopes : map (slope_at Safe (plain_train_and_track (pos 100) (Some (pos 0)) plain_band []
    (record { start = pos 900; end = pos 1000 } ∷ [])) 0) (pos 899 ∷ pos 900 ∷ pos 1099 ∷ pos 1100 ∷ [])
    ≡ pos 200_000_000_000 ∷ pos 140_000_000_000 ∷ pos 140_000_000_000 ∷ pos 200_000_000_000 ∷ []
unfolding plain_train_and_track plain_national plain_band slope_at
reduced_slopes = refl

reduced_expected_slope : slope_at Expected (plain_train_and_track (pos 100) (Some (pos 0)) plain_band []
    (record { start = pos 900; end = pos 1000 } ∷ [])) 0 (pos 950) ≡ pos 200_000_000_000
unfolding plain_train_and_track plain_national plain_band slope_at
reduced_expected_slope = refl

-- an area that begins at cell 0 counts before the track too
reduced_before_the_track : slope_at Safe (plain_train_and_track (pos 100) (Some (pos 0)) plain_band []
    (record { start = pos 0; end = pos 10 } ∷ [])) 0 (negsuc 0) ≡ pos 140_000_000_000
unfolding plain_train_and_track plain_national plain_band slope_at
reduced_before_the_track = refl

-- the journey with a band that brakes with 0.80 m/s² where the special brake is not used, from cell 900 to 1000 for a
-- train of 1 m, on a rail of reduced adhesion or not
unfoldable without_special_brake : Option ℤ → List Area → TrainAndTrack
without_special_brake emergency_reduced adhesion =
    let d = plain_train_and_track (pos 100) (Some (pos 0)) (record plain_band { emergency_reduced = emergency_reduced })
    [] adhesion in
    record d { track = record (d.track) { no_special = record { start = pos 900; end = pos 1000 } ∷ [] } }

-- the train's last cell there is 1099; the safe deceleration alone is lowered
unaided_slopes : map (slope_at Safe (without_special_brake (Some (pos 80)) []) 0)
    (pos 899 ∷ pos 900 ∷ pos 1099 ∷ pos 1100 ∷ [])
    ≡ pos 200_000_000_000 ∷ pos 160_000_000_000 ∷ pos 160_000_000_000 ∷ pos 200_000_000_000 ∷ []
unfolding without_special_brake plain_train_and_track plain_national plain_band slope_at
unaided_slopes = refl

unaided_expected_slope : slope_at Expected (without_special_brake (Some (pos 80)) []) 0 (pos 950) ≡ pos 200_000_000_000
unfolding without_special_brake plain_train_and_track plain_national plain_band slope_at
unaided_expected_slope = refl

-- a band without a reduced deceleration brakes there as elsewhere
unaided_without_reduced : slope_at Safe (without_special_brake None []) 0 (pos 950) ≡ pos 200_000_000_000
unfolding without_special_brake plain_train_and_track plain_national plain_band slope_at
unaided_without_reduced = refl

-- on reduced adhesion besides, with its maximum of 0.70 m/s², the lower of the two counts: 0.70 above 0.60, below 0.80
unaided_on_reduced_adhesion : map (λ reduced. slope_at Safe (without_special_brake (Some reduced)
    (record { start = pos 900; end = pos 1000 } ∷ [])) 0 (pos 950)) (pos 80 ∷ pos 60 ∷ [])
    ≡ pos 140_000_000_000 ∷ pos 120_000_000_000 ∷ []
unfolding without_special_brake plain_train_and_track plain_national plain_band slope_at
unaided_on_reduced_adhesion = refl

-- a brake of 1.20 m/s² with Kdry 0.85 and Kwet 0.95, at an M_NVAVADH in twentieths
on_wet_rail : ℤ → TrainAndTrack
on_wet_rail avadh =
    let band = record plain_band { emergency = pos 120; kdry = pos 850; kwet = pos 950 } in
    let d = plain_train_and_track (pos 100) (Some (pos 0)) band [] [] in
    record d { national = record (d.national) { avadh = avadh } }

-- at 0 it is 0.85 * 0.95 * 1.20 = 0.969 m/s², at a half 0.85 * 0.975 * 1.20 = 0.9945, and at 1 Kwet takes nothing away
wet_rail_slopes : map (λ avadh. slope_at Safe (on_wet_rail avadh) 0 (pos 7)) (pos 0 ∷ pos 10 ∷ pos 20 ∷ [])
    ≡ pos 193_800_000_000 ∷ pos 198_900_000_000 ∷ pos 204_000_000_000 ∷ []
unfolding on_wet_rail plain_train_and_track plain_national plain_band slope_at
wet_rail_slopes = refl

-- A train of 20 cm on 10 per mille down to cell 50, level after it: its rear end leaves the slope at cell 70, where
-- cell 50 is its last.
gradients_under_the_train : map (λ c. (under_train (record {
  length_cm = pos 200;
  gradients =
      record { start = pos 0; grad = negsuc 99 } ∷ record { start = pos 50; grad = pos 0 } ∷ [];
  speeds = [];
  areas = [];
  no_special = [];
}) (pos 20) c).grad) (pos 49 ∷ pos 69 ∷ pos 70 ∷ [])
    ≡ negsuc 99 ∷ negsuc 99 ∷ pos 0 ∷ []
gradients_under_the_train = refl
