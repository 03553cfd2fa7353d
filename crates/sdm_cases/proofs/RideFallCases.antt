-- What the law of rides says of a ride at scale 2 over a fall of the MRSP that is no target any more, since it lies
-- between the min and the max safe front end: the train runs on at 12 km/h and gains 1 m/s². At the fall's foot speed,
-- 12.5 km/h, it may be faster by what it may gain.
use Rattle.std.proofs.Common.{◌≡◌, ℕ, ℤ, pos, true, false, List, [], ◌∷◌, ◌+◌, ◌*◌, ◌≤◌, refl, subst, ap, ◌∙◌}
use Rattle.std.proofs.Common.{arith}
use Rattle.std.specs.Prelude.{Some, None, map}
use Rattle.std.proofs.lemmas.Int.{ints}
use Rattle.sdm_num.specs.Readings.{OdometerReading}
use Rattle.sdm_rules.specs.declared.data.SlopeKind.TheVariants.{Safe}
use Rattle.sdm_rules.specs.declared.records.Event.TheVariants as record_kinds
use Rattle.sdm_rules.specs.Commands.{commands_after, emergency_after, nothing_held}
use Rattle.sdm_rules.specs.Curves.{place_at, corner, arc, stepped, arc_back, back}
use Rattle.sdm_rules.specs.Data.{TrainAndTrack}
use Rattle.sdm_rules.specs.Decelerations.{slope_at, slopes_of}
use Rattle.sdm_rules.specs.Limits.{limits_of, release_start}
use Rattle.sdm_rules.specs.Profile.{mrsp}
use Rattle.sdm_rules.specs.Reaction.{reaction_times}
use Rattle.sdm_rules.specs.Supervision.{Supervision, after_reading, commands_in, is_covered_in, opening, profile_of}
use Rattle.sdm_rules.specs.Supervision.{row_in, row_of, state_in}
use Rattle.sdm_rules.specs.Targets.{fall_at, foot_speed_of, targets_of}
use Rattle.sdm_rules.specs.Triggers.{triggers_of}
use Rattle.sdm_laws.specs.Falls.{IsFallAhead, allowance}
use Rattle.sdm_ride.specs.Happenings.{Happening, Record}
use Rattle.sdm_ride.specs.Moments.{Moment, Promise, after, by_free_rows}
use Rattle.sdm_ride.specs.MotionRides.{last_moment}
use Rattle.sdm_ride.specs.Rides.{HoldsDelays, IsByClock, IsByTimelyOrders, IsRide, IsTrueReading, point_of}
use Rattle.sdm_ride.specs.RideLaws.{IsAsFree, IsRideStart, KeepsPromise, LawOfRides, LawOfTimedRides}
use Rattle.sdm_cases.proofs.Journeys.{plain_band, plain_national, plain_train_and_track}
use Rattle.sdm_cases.proofs.Openings.{none_in_force, opening_situation, situation_with}
use Rattle.sdm_cases.proofs.RideLawCases.{delays, ds}
use Rattle.sdm_cases.proofs.RideSteps.{IsGiven, at_the_end, ends_so, may_go, promised, rides_on}
use Rattle.sdm_cases.proofs.TickTests.{aged_by, begins, by_clock, by_orders, clock_shows, orders_show, stands}
use Rattle.sdm_cases.proofs.RideTargetCases.{past_fall, with_fall}
use Rattle.sdm_cases.proofs.RideTrain.{ride_train, train_open, train_slopes}
use Rattle.sdm_cases.proofs.StopCases.{plain_slopes}

-- ---- the reading

abbrev line : TrainAndTrack
line = ride_train (pos 100) with_fall (pos 3) (pos 5) (pos 0)

abbrev before : Supervision
before = opening line past_fall

-- 5 cm before the fall and 10 cm past it, at 12 km/h
unfoldable reading : OdometerReading
reading = record {
  time = 0;
  est = pos 5_400_000_000_000;
  min = pos 5_373_000_000_000;
  max = pos 5_454_000_000_000;
  speed = 180_000;
  accel = pos 100;
  under = 0;
}

abbrev its_promise : Promise
its_promise = promised before reading

is_covered : (row_of before reading).covered ≡ true
unfolding ride_train with_fall plain_train_and_track plain_national plain_band reading row_in situation_with targets_of
    mrsp is_covered_in limits_of release_start reaction_times slopes_of slope_at stepped place_at corner arc arc_back back
is_covered = ap (λ now. is_covered_in line reading now) (opening_situation line past_fall reading) ∙ refl

is_free : (row_of before reading).held.eb ≡ false
unfolding ride_train with_fall plain_train_and_track plain_national plain_band reading row_in situation_with targets_of
    mrsp state_in commands_in commands_after emergency_after triggers_of limits_of release_start reaction_times slopes_of
    slope_at stepped place_at corner arc arc_back back
is_free = ap (λ now. (row_in line nothing_held reading now).held.eb) (opening_situation line past_fall reading) ∙ refl

given : IsGiven by_free_rows before reading
given = record {
  is_open = train_open (pos 100) with_fall (pos 3) (pos 5) (pos 0) past_fall;
  is_first = refl;
  promises = rw (is_free, is_covered) refl;
  orders = rw (is_free, is_covered) refl;
}

-- ---- the fall

profile_is : (cell : ℤ) → profile_of before cell ≡ mrsp line.train line.track [] cell
profile_is cell = ap (λ es. mrsp line.train line.track (map (λ e. e.1) es) cell) none_in_force

fall_is_ahead : IsFallAhead before reading (pos 1000)
unfolding ride_train with_fall plain_train_and_track plain_national plain_band reading mrsp
fall_is_ahead = record {
  falls = rw (profile_is (pos 1000), profile_is (pos 999)) refl;
  ahead = omega (arith, ints);
  by_end = omega (arith, ints);
}

-- ---- the ride

abbrev start : Moment
start = begins before (pos 21_492_000_000_000) 360_000 None

-- 1 m/s² are gained for 0.3 s
abbrev running : List Happening
running = ds 360_000 365_400 370_800 (ds 370_800 376_200 381_600 (ds 381_600 387_000 392_400 []))

-- past the fall with 196,200 notches
abbrev at_the_end_of_it : Moment
at_the_end_of_it = stands its_promise (after_reading before reading) (pos 23_749_200_000_000) 392_400 0 6 (Some 4)

may_run : may_go (by_orders delays 2) its_promise (pos 21_492_000_000_000) 360_000 0 0 None running ≡ true
unfolding ride_train plain_train_and_track plain_national reading reaction_times plain_slopes
may_run = refl

in_time : may_go (by_clock 2) its_promise (pos 21_492_000_000_000) 360_000 0 0 None running ≡ true
unfolding ride_train plain_train_and_track plain_national reading reaction_times plain_slopes
in_time = refl

held : HoldsDelays delays its_promise
unfolding ride_train plain_train_and_track plain_national reading reaction_times
held = record { traction = λ lower. omega arith; emergency = omega arith }

is_true : IsTrueReading 2 start reading
unfolding ride_train plain_train_and_track plain_national reading
is_true = record { front = omega (arith, ints); speed = omega arith }

is_start : IsRideStart start
is_start = record { is_open = given.is_open; none = refl }

a_ride : IsRide by_free_rows (IsByTimelyOrders delays 2) 2 start (Record (record_kinds.Read reading) ∷ running)
a_ride =
    rides_on by_free_rows (IsByTimelyOrders delays 2) 2 (by_orders delays 2) before reading (pos 21_492_000_000_000) 360_000
    None running given is_true
    (orders_show delays 2 its_promise (train_slopes (pos 100) with_fall (pos 3) (pos 5) (pos 0) Safe) held) may_run

a_timed_ride : IsRide by_free_rows (IsByClock 2) 2 start (Record (record_kinds.Read reading) ∷ running)
a_timed_ride =
    rides_on by_free_rows (IsByClock 2) 2 (by_clock 2) before reading (pos 21_492_000_000_000) 360_000 None running given
    is_true (clock_shows 2 its_promise (train_slopes (pos 100) with_fall (pos 3) (pos 5) (pos 0) Safe)) in_time

ends : last_moment by_free_rows start (Record (record_kinds.Read reading) ∷ running) ≡ at_the_end_of_it
unfolding after
ends = ends_so by_free_rows before reading (pos 21_492_000_000_000) 360_000 None running given ∙ refl

-- ---- by the law it is at most 208,020 notches fast there: the foot speed, and 20,520 that it may gain

most_is : foot_speed_of (fall_at (profile_of before) (pos 1000)) + allowance line reading (pos 1000) ≡ 208_020
unfolding ride_train with_fall plain_train_and_track plain_national reading reaction_times mrsp
most_is = rw (profile_is (pos 1000)) refl

the_most : IsAsFree 2 before reading (point_of at_the_end_of_it) → 392_400 * 392_400 ≤ 2 * 2 * (208_020 * 208_020)
the_most free =
    subst (λ (w : ℕ). 392_400 * 392_400 ≤ 2 * 2 * (w * w)) most_is
    (free.falls (pos 1000) fall_is_ahead (omega (arith, ints)))

meets_fall_by_law : LawOfRides → 392_400 * 392_400 ≤ 2 * 2 * (208_020 * 208_020)
meets_fall_by_law law =
    let P = KeepsPromise IsAsFree 2 in
    let all = law.free_rows delays 2 start (Record (record_kinds.Read reading) ∷ running) (omega arith) is_start a_ride in
    the_most (subst P ends (at_the_end by_free_rows P start (Record (record_kinds.Read reading)) running all)
    (aged_by its_promise 6) refl)

meets_fall_by_the_clock : LawOfTimedRides → 392_400 * 392_400 ≤ 2 * 2 * (208_020 * 208_020)
meets_fall_by_the_clock law =
    let P = KeepsPromise IsAsFree 2 in
    let all = law.free_rows 2 start (Record (record_kinds.Read reading) ∷ running) (omega arith) is_start a_timed_ride in
    the_most (subst P ends (at_the_end by_free_rows P start (Record (record_kinds.Read reading)) running all)
    (aged_by its_promise 6) refl)
