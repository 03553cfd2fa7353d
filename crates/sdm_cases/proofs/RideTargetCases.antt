-- What the law of rides says of a ride at scale 2 to a target of speed: an LOA at 10 m, and a fall of the MRSP there. The
-- train runs at 3.67 m/s until its brake works 0.5 s after the reading, and then comes to the target with its foot speed,
-- 12.5 km/h, just as fast as it may.
use Rattle.std.proofs.Common.{◌≡◌, pos, true, List, [], ◌∷◌, ◌*◌, ◌≤◌, refl, subst, ap, ◌∙◌}
use Rattle.std.proofs.Common.{arith}
use Rattle.std.specs.Prelude.{Contains, Some, None}
use Rattle.std.proofs.lemmas.Int.{ints}
use Rattle.sdm_num.specs.Readings.{OdometerReading}
use Rattle.sdm_rules.specs.declared.authorities.Authority.{Authority}
use Rattle.sdm_rules.specs.declared.authorities.Authority.TheVariants.{Stop, Limit}
use Rattle.sdm_rules.specs.declared.data.SpeedStep.{SpeedStep}
use Rattle.sdm_rules.specs.declared.data.SlopeKind.TheVariants.{Safe}
use Rattle.sdm_rules.specs.declared.records.Event.TheVariants as record_kinds
use Rattle.sdm_rules.specs.declared.targets.Target.{Target}
use Rattle.sdm_rules.specs.declared.targets.TargetKind.TheVariants.{Loa, Mrsp}
use Rattle.sdm_rules.specs.Commands.{commands_after, emergency_after, nothing_held}
use Rattle.sdm_rules.specs.Curves.{place_at, corner, arc, stepped, arc_back, back}
use Rattle.sdm_rules.specs.Decelerations.{slope_at, slopes_of}
use Rattle.sdm_rules.specs.Limits.{limits_of, release_start}
use Rattle.sdm_rules.specs.Profile.{mrsp}
use Rattle.sdm_rules.specs.Reaction.{reaction_times}
use Rattle.sdm_rules.specs.Supervision.{Supervision, after_reading, commands_in, is_covered_in, opening, row_in}
use Rattle.sdm_rules.specs.Supervision.{situation_of, state_in}
use Rattle.sdm_rules.specs.Targets.{targets_of}
use Rattle.sdm_rules.specs.Triggers.{triggers_of}
use Rattle.sdm_ride.specs.Happenings.{Happening, Record, Tick}
use Rattle.sdm_ride.specs.Moments.{Moment, Promise, after, by_rows, is_ordered}
use Rattle.sdm_ride.specs.MotionRides.{last_moment}
use Rattle.sdm_ride.specs.Rides.{HoldsDelays, IsByTimelyOrders, IsRide, IsTrueReading, point_of}
use Rattle.sdm_ride.specs.RideLaws.{IsAsCovered, KeepsPromise, LawOfRides}
use Rattle.sdm_cases.proofs.Journeys.{plain_band, plain_national, plain_train_and_track, reading_at}
use Rattle.sdm_cases.proofs.Openings.{opening_situation, situation_with}
use Rattle.sdm_cases.proofs.RideLawCases.{delays, ds, to_the_end}
use Rattle.sdm_cases.proofs.RideSteps.{IsGiven, at_the_end, ends_so, may_go, promised, rides_on}
use Rattle.sdm_cases.proofs.TickTests.{aged_by, begins, by_orders, orders_show, stands}
use Rattle.sdm_cases.proofs.RideTrain.{ride_train, train_open, train_slopes}
use Rattle.sdm_cases.proofs.StopCases.{plain_slopes}

-- ---- the ride

-- at 198,300 notches, 2.55 m before the target
abbrev reading : OdometerReading
reading = reading_at 0 (pos 4_022_700_000_000) 198_300

-- for 0.5 s at one speed, and then braking with 1 m/s² for 0.2 s
abbrev running : List Happening
running =
    ds 396_600 396_600 396_600 (ds 396_600 396_600 396_600 (ds 396_600 396_600 396_600 (ds 396_600 396_600 396_600
    (ds 396_600 396_600 396_600 (ds 396_600 391_200 385_800
    (Tick 380_400 383_100_000_000 ∷ Tick 375_000 377_700_000_000 ∷ []))))))

-- over any speed profile, to any authority
module _ (speeds : List SpeedStep) (a : Authority) where
  abbrev under : Supervision
  under = opening (ride_train (pos 100) speeds (pos 3) (pos 5) (pos 0)) a

  abbrev its_promise : Promise
  its_promise = promised under reading

  abbrev start : Moment
  start = begins under (pos 16_090_800_000_000) 396_600 None

  -- at 10 m with 187,500 notches
  abbrev at_the_target : Moment
  at_the_target = stands its_promise (after_reading under reading) (pos 21_600_000_000_000) 375_000 2 14 (Some 12)

  may_run : may_go (by_orders delays 2) its_promise (pos 16_090_800_000_000) 396_600 0 0 None running ≡ true
  unfolding ride_train plain_train_and_track plain_national reading_at reaction_times plain_slopes
  may_run = refl

  held : HoldsDelays delays its_promise
  unfolding ride_train plain_train_and_track plain_national reading_at reaction_times
  held = record { traction = λ lower. omega arith; emergency = omega arith }

  is_true : IsTrueReading 2 start reading
  unfolding ride_train plain_train_and_track plain_national reading_at
  is_true = record { front = omega (arith, ints); speed = omega arith }

  module _ (given : IsGiven by_rows under reading) where
    a_ride : IsRide by_rows (IsByTimelyOrders delays 2) 2 start (Record (record_kinds.Read reading) ∷ running)
    a_ride =
        rides_on by_rows (IsByTimelyOrders delays 2) 2 (by_orders delays 2) under reading (pos 16_090_800_000_000) 396_600
        None running given is_true
        (orders_show delays 2 its_promise (train_slopes (pos 100) speeds (pos 3) (pos 5) (pos 0) Safe) held) may_run

    ends : last_moment by_rows start (Record (record_kinds.Read reading) ∷ running) ≡ at_the_target
    unfolding after
    ends = ends_so by_rows under reading (pos 16_090_800_000_000) 396_600 None running given ∙ refl

    -- by the law the target is met
    kept : LawOfRides → IsAsCovered 2 under reading (point_of at_the_target)
    kept law =
        let P = KeepsPromise IsAsCovered 2 in
        let all = law.rows delays 2 start (Record (record_kinds.Read reading) ∷ running) (omega arith)
        (record { is_open = given.is_open; none = refl }) a_ride in
        subst P ends (at_the_end by_rows P start (Record (record_kinds.Read reading)) running all) (aged_by its_promise 14)
        refl

-- ---- an LOA

-- of 5 km/h at 10 m
abbrev to_loa : Authority
to_loa = Limit 1000 5

unfoldable loa : Target
loa = record { kind = Loa; place = pos 5_400_000_000_000; speed = 5 }

given_loa : IsGiven by_rows (under to_the_end to_loa) reading
unfolding ride_train to_the_end plain_train_and_track plain_national plain_band reading_at row_in situation_with targets_of
    mrsp is_covered_in state_in commands_in commands_after emergency_after triggers_of limits_of release_start
    reaction_times slopes_of slope_at stepped place_at corner arc arc_back back
given_loa =
    let d = ride_train (pos 100) to_the_end (pos 3) (pos 5) (pos 0) in
    let e = opening_situation d to_loa reading in
    record {
      is_open = train_open (pos 100) to_the_end (pos 3) (pos 5) (pos 0) to_loa;
      is_first = refl;
      promises = ap (λ now. is_covered_in d reading now) e ∙ refl;
      orders = ap (λ now. is_ordered (row_in d nothing_held reading now)) e ∙ refl;
    }

loa_is_ahead : Contains (situation_of (under to_the_end to_loa) reading).targets loa
unfolding ride_train to_the_end plain_train_and_track plain_national reading_at situation_with targets_of mrsp loa
loa_is_ahead = rw (opening_situation (ride_train (pos 100) to_the_end (pos 3) (pos 5) (pos 0)) to_loa reading) (0, omega arith, refl)

meets_loa_by_law : LawOfRides → 375_000 * 375_000 ≤ 2 * 2 * (187_500 * 187_500)
unfolding loa
meets_loa_by_law law =
    (kept to_the_end to_loa given_loa law).meets loa loa_is_ahead ((λ e. cc), (λ e. cc)) (omega (arith, ints))

-- ---- a fall of the MRSP

-- to 5 km/h at 10 m, with the end of the authority at 50 m
unfoldable pub with_fall : List SpeedStep
with_fall =
    record { start = pos 0; speed = pos 160; delayed = true } ∷ record { start = pos 1000; speed = pos 5; delayed = true }
    ∷ []

abbrev pub past_fall : Authority
past_fall = Stop 5000 5000 0

unfoldable fall : Target
fall = record { kind = Mrsp; place = pos 5_400_000_000_000; speed = 5 }

given_fall : IsGiven by_rows (under with_fall past_fall) reading
unfolding ride_train with_fall plain_train_and_track plain_national plain_band reading_at row_in situation_with targets_of
    mrsp is_covered_in state_in commands_in commands_after emergency_after triggers_of limits_of release_start
    reaction_times slopes_of slope_at stepped place_at corner arc arc_back back
given_fall =
    let d = ride_train (pos 100) with_fall (pos 3) (pos 5) (pos 0) in
    let e = opening_situation d past_fall reading in
    record {
      is_open = train_open (pos 100) with_fall (pos 3) (pos 5) (pos 0) past_fall;
      is_first = refl;
      promises = ap (λ now. is_covered_in d reading now) e ∙ refl;
      orders = ap (λ now. is_ordered (row_in d nothing_held reading now)) e ∙ refl;
    }

fall_is_ahead : Contains (situation_of (under with_fall past_fall) reading).targets fall
unfolding ride_train with_fall plain_train_and_track plain_national reading_at situation_with targets_of mrsp fall
fall_is_ahead = rw (opening_situation (ride_train (pos 100) with_fall (pos 3) (pos 5) (pos 0)) past_fall reading) (0, omega arith, refl)

meets_fall_by_law : LawOfRides → 375_000 * 375_000 ≤ 2 * 2 * (187_500 * 187_500)
unfolding fall
meets_fall_by_law law =
    (kept with_fall past_fall given_fall law).meets fall fall_is_ahead ((λ e. cc), (λ e. cc)) (omega (arith, ints))
