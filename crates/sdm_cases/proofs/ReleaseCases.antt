-- The calculated release speed at 1 m/s². To an SvL at 10 m the train brakes 3.125 m from 2.5 m/s, which is 9 km/h, and
-- 3.858 m from 10 km/h. Tripped at 760 m at 72 km/h, with a brake that works after 2 s, the train of StopCases comes to
-- stand at 1000 m to the grain.
use Rattle.std.proofs.Common.{◌≡◌, pos, true, false, [], ◌∷◌, map, refl, arith, subst, sym}
use Rattle.std.proofs.lemmas.Int.{ints}
use Rattle.std.proofs.lemmas.Bool.{false≢true}
use Rattle.std.specs.Prelude.{Some, None, Ok, Err, nat_le, nat_lt}
use Rattle.sdm_rules.specs.declared.authorities.Authority.TheVariants.{Stop}
use Rattle.sdm_rules.specs.declared.faults.EventCause.TheVariants as causes
use Rattle.sdm_rules.specs.declared.records.Event.TheVariants as record_kinds
use Rattle.sdm_rules.specs.declared.faults.AuthorityFault.TheVariants.{SvlBeforeEoa, BeyondTrack}
use Rattle.sdm_rules.specs.declared.faults.TripFault.TheVariants as trip_faults
use Rattle.sdm_rules.specs.declared.data.SlopeKind.TheVariants.{Safe}
use Rattle.sdm_rules.specs.declared.motions.Start.{Start}
use Rattle.sdm_rules.specs.Stop.{IsMotionOn}
use Rattle.sdm_rules.specs.Curves.{place_at, corner, arc, stepped, exact, exact_at, arc_back, back}
use Rattle.sdm_rules.specs.Data.{TrainAndTrack}
use Rattle.sdm_rules.specs.Decelerations.{slope_at, slopes_of}
use Rattle.sdm_rules.specs.Limits.{computed}
use Rattle.sdm_rules.specs.Reaction.{reaction_start, reaction_times}
use Rattle.sdm_rules.specs.Records.{step, trip_fault}
use Rattle.sdm_rules.specs.Release.{IsReleaseSpeed, calculated, fits, greatest_up_to, trip_start}
use Rattle.sdm_rules.specs.Supervision.{Supervision}
use Rattle.sdm_formats.specs.Flat.{flat_slopes}
use Rattle.sdm_cases.proofs.Journeys.{plain_band, plain_national, plain_train_and_track, reading_at}
use Rattle.sdm_cases.proofs.StopCases.{at_800_m, braked_line, braking, reading_at_760_m}
use Rattle.sdm_cases.proofs.StopCases.{stops_at_the_svl, to_the_svl}

-- ---- the greatest that passes

greatest_numbers : greatest_up_to 5 (λ n. nat_le n 3) ∷ greatest_up_to 5 (λ n. true) ∷ greatest_up_to 5 (λ n. false)
    ∷ greatest_up_to 0 (λ n. true) ∷ greatest_up_to 5 (λ n. nat_lt 4 n) ∷ [] ≡ 3 ∷ 5 ∷ 0 ∷ 0 ∷ 5 ∷ []
greatest_numbers = refl

-- ---- which speed fits

-- 0, 9 and 10 km/h from a trip at 6.875 m, and a grain later
at_once : map (fits computed (flat_slopes 100) 0 (pos 5_400_000_000_000) (pos 3_712_500_000_000)) (0 ∷ 9 ∷ 10 ∷ [])
    ≡ true ∷ true ∷ false ∷ []
unfolding stepped place_at corner arc arc_back back
at_once = refl

a_grain_later : fits computed (flat_slopes 100) 0 (pos 5_400_000_000_000) (pos 3_712_500_000_001) 9 ≡ false
unfolding stepped place_at corner arc arc_back back
a_grain_later = refl

-- with a brake that works after 1 s, in which the train comes 2.5 m further
after_a_second :
    map (λ trip. fits computed (flat_slopes 100) 10 (pos 5_400_000_000_000) trip 9)
    (pos 2_362_500_000_000 ∷ pos 2_362_500_000_001 ∷ [])
    ≡ true ∷ false ∷ []
unfolding stepped place_at corner arc arc_back back
after_a_second = refl

-- past the SvL not even standing does
past_the_svl : fits computed (flat_slopes 100) 0 (pos 5_400_000_000_000) (pos 5_400_000_000_001) 0 ≡ false
unfolding stepped place_at corner arc arc_back back
past_the_svl = refl

-- ---- the trip

-- the train of a trip is that of a reading at this place, at this speed: the traction is off, and the brake works after
-- its whole build-up time
start_of_a_trip : trip_start braked_line 76_000 72 ≡ reaction_start braked_line reading_at_760_m
unfolding braked_line plain_train_and_track plain_national reading_at_760_m reading_at reaction_times
start_of_a_trip = refl

-- its traction is off, though the data have a cut-off time
start_without_traction :
    trip_start (record braked_line { train = record (braked_line.train) { cut_off_time = pos 20 } }) 76_000 72
    ≡ trip_start braked_line 76_000 72
unfolding braked_line plain_train_and_track
start_without_traction = refl

-- the motion that comes to stand at 1000 m is one of the trip, so an SvL a centimetre nearer is passed
a_centimetre_nearer : IsReleaseSpeed braked_line 99_999 76_000 72 → ⊥
unfolding at_800_m braking
a_centimetre_nearer h =
    let is_motion = subst (λ (start : Start). IsMotionOn (slopes_of Safe braked_line) start to_the_svl)
    (sym start_of_a_trip) stops_at_the_svl in
    let k = h.stops to_the_svl is_motion 3 at_800_m (omega arith) in omega (arith, ints, k)

-- a train of 1 m that brakes at 1 m/s² at once
unfoldable braked_at_once : TrainAndTrack
braked_at_once = plain_train_and_track (pos 100) (Some (pos 0)) plain_band [] []

-- from 3 km/h it comes 0.347 m, so a trip at 9.65 m fits for an SvL at 10 m, and 2 km/h are not the greatest
too_slow : IsReleaseSpeed braked_at_once 1_000 965 2 → ⊥
unfolding braked_at_once plain_train_and_track plain_national plain_band slopes_of slope_at exact exact_at place_at
    corner arc arc_back back
too_slow h = absurd (false≢true (h.greatest (omega arith)))

-- ---- which trip is refused

-- SvL before EOA, SvL past the end of the track of 2 km, trip before the EOA, at it, at the SvL, past it; the places of
-- the stop are tested first
trip_faults_in_order :
    trip_fault (pos 200_000) 2 1 3 ∷ trip_fault (pos 200_000) 1 200_001 200_002 ∷ trip_fault (pos 200_000) 5 9 4
    ∷ trip_fault (pos 200_000) 5 9 5 ∷ trip_fault (pos 200_000) 5 9 9 ∷ trip_fault (pos 200_000) 5 9 10 ∷ []
    ≡ Some (trip_faults.Authority SvlBeforeEoa) ∷ Some (trip_faults.Authority BeyondTrack)
    ∷ Some trip_faults.BadTrip ∷ None ∷ None ∷ Some trip_faults.BadTrip ∷ []
trip_faults_in_order = refl

-- ---- the record

-- a record that is accepted gives the stop with the speed that is calculated; one that is refused gives its cause
after_a_trip : (s : Supervision) → step (record s { train_and_track = braked_line }) (record_kinds.Calculated 5 9 7)
    ≡ Ok (record s { train_and_track = braked_line; authority = Stop 5 9 (calculated braked_line 9 7) })
unfolding step braked_line plain_train_and_track
after_a_trip s = refl

refused_trips : (s : Supervision) → step (record s { train_and_track = braked_line }) (record_kinds.Calculated 5 9 10)
    ∷ step (record s { train_and_track = braked_line }) (record_kinds.Calculated 9 5 7) ∷ []
    ≡ Err causes.BadTrip ∷ Err (causes.Authority SvlBeforeEoa) ∷ []
unfolding step braked_line plain_train_and_track
refused_trips s = refl
