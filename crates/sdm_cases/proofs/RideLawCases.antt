-- What the laws of rides say of a ride at scale 2: a train that gains 1 m/s² until its traction is cut off 0.1 s after the
-- order, 0.4 m/s² until its brake works, and then brakes with 1 m/s² to the SvL, less a quarter of a grain. Before the
-- reading the computer braked, and the train is not yet at the min safe front end.
use Rattle.std.proofs.Common.{◌≡◌, ℕ, pos, true, false, List, [], ◌∷◌, ◌+◌, ◌*◌, refl, subst, ap, ◌∙◌}
use Rattle.std.proofs.Common.{◌≤ℤ◌, arith}
use Rattle.std.specs.Prelude.{Some, None}
use Rattle.std.proofs.lemmas.Int.{ints}
use Rattle.sdm_num.specs.Readings.{OdometerReading}
use Rattle.sdm_rules.specs.declared.authorities.Authority.{Authority}
use Rattle.sdm_rules.specs.declared.authorities.Authority.TheVariants.{Stop}
use Rattle.sdm_rules.specs.declared.data.SpeedStep.{SpeedStep}
use Rattle.sdm_rules.specs.declared.data.SlopeKind.TheVariants.{Safe}
use Rattle.sdm_rules.specs.declared.records.Event.TheVariants as record_kinds
use Rattle.sdm_rules.specs.Commands.{commands_after, emergency_after, nothing_held}
use Rattle.sdm_rules.specs.Cells.{place_of_cell}
use Rattle.sdm_rules.specs.Curves.{place_at, corner, arc, stepped, arc_back, back}
use Rattle.sdm_rules.specs.Data.{TrainAndTrack}
use Rattle.sdm_rules.specs.Decelerations.{slope_at, slopes_of}
use Rattle.sdm_rules.specs.Limits.{limits_of, release_start}
use Rattle.sdm_rules.specs.Motion.{IsBy}
use Rattle.sdm_rules.specs.Profile.{mrsp}
use Rattle.sdm_rules.specs.Reaction.{reaction_times}
use Rattle.sdm_rules.specs.Supervision.{Supervision, after_reading, commands_in, is_covered_in, opening, row_in, row_of}
use Rattle.sdm_rules.specs.Supervision.{state_in}
use Rattle.sdm_rules.specs.Targets.{targets_of}
use Rattle.sdm_rules.specs.Triggers.{triggers_of}
use Rattle.sdm_rules.specs.Within.{is_within_svl}
use Rattle.sdm_ride.specs.Happenings.{Happening, Record, Overdue, Tick}
use Rattle.sdm_ride.specs.Moments.{Judging, Moment, Promise, after, by_free_rows, by_rows, by_svl}
use Rattle.sdm_ride.specs.MotionRides.{last_moment}
use Rattle.sdm_ride.specs.Rides.{Delays, HoldsDelays, IsByClock, IsByTimelyOrders, IsRide, IsTrueReading, point_of}
use Rattle.sdm_ride.specs.RideLaws.{AreKeptByClock, AreKeptByOrders, EndsBy, IsAsCovered, IsAsFree, IsByItsSvl}
use Rattle.sdm_ride.specs.RideLaws.{IsRideBefore, IsRideStart, KeepsPromise, LawOfClocks, LawOfPlaces, LawOfRides}
use Rattle.sdm_ride.specs.RideLaws.{LawOfTimedRides}
use Rattle.sdm_ride.specs.RideLaws.{Promised, StaysBeforeByOrders}
use Rattle.sdm_cases.proofs.Journeys.{plain_band, plain_national, plain_train_and_track}
use Rattle.sdm_cases.proofs.Openings.{opening_situation, situation_with}
use Rattle.sdm_cases.proofs.RideSteps.{IsGiven, at_the_end, ends_so, is_quiet, may_go, never_past, promised, rides_on}
use Rattle.sdm_cases.proofs.RideSteps.{stays_from, to_given}
use Rattle.sdm_cases.proofs.TickTests.{aged_by, begins, by_clock, by_orders, clock_shows, orders_show, stands}
use Rattle.sdm_cases.proofs.RideTrain.{ride_train, train_open, train_slopes}
use Rattle.sdm_cases.proofs.StopCases.{plain_slopes}

-- ---- the train and its reading

unfoldable pub to_the_end : List SpeedStep
to_the_end = record { start = pos 0; speed = pos 160; delayed = true } ∷ []

-- T_traction is 0.3 s, and T_berem 0.2 s
abbrev pub line : TrainAndTrack
line = ride_train (pos 100) to_the_end (pos 3) (pos 5) (pos 0)

-- which hold a reading each 0.1 s, orders that stand after 0.1 s, a cut-off that works 0.1 s and a brake that works 0.3 s
-- later
abbrev pub delays : Delays
delays = record { period = 1; latency = 1; cut_off = 1; build_up = 3 }

abbrev pub authority : Authority
authority = Stop 1000 1000 0

abbrev pub before : Supervision
before = opening line authority

-- at 0.2 m/s, 38 cm before the SvL
unfoldable pub reading : OdometerReading
reading = record {
  time = 0;
  est = pos 5_194_152_000_000;
  min = pos 5_194_152_000_000;
  max = pos 5_194_152_000_000;
  speed = 10_800;
  accel = pos 100;
  under = 0;
}

abbrev pub its_promise : Promise
its_promise = promised before reading

is_covered : (row_of before reading).covered ≡ true
unfolding ride_train to_the_end plain_train_and_track plain_national plain_band reading row_in situation_with targets_of
    mrsp is_covered_in limits_of release_start reaction_times slopes_of slope_at stepped place_at corner arc arc_back back
is_covered = ap (λ now. is_covered_in line reading now) (opening_situation line authority reading) ∙ refl

is_free : (row_of before reading).held.eb ≡ false
unfolding ride_train to_the_end plain_train_and_track plain_national plain_band reading row_in situation_with targets_of
    mrsp state_in commands_in commands_after emergency_after triggers_of limits_of release_start reaction_times slopes_of
    slope_at stepped place_at corner arc arc_back back
is_free = ap (λ now. (row_in line nothing_held reading now).held.eb) (opening_situation line authority reading) ∙ refl

is_within : is_within_svl before reading ≡ true
unfolding ride_train to_the_end plain_train_and_track plain_national plain_band reading is_within_svl limits_of
    release_start reaction_times slopes_of slope_at stepped place_at corner arc arc_back back
is_within = refl

-- it gives its promise by each judging, and orders nothing
pub given_by_rows : IsGiven by_rows before reading
given_by_rows = record {
  is_open = train_open (pos 100) to_the_end (pos 3) (pos 5) (pos 0) authority;
  is_first = refl;
  promises = is_covered;
  orders = rw (is_free, is_covered) refl;
}

pub given_by_free_rows : IsGiven by_free_rows before reading
given_by_free_rows = record {
  is_open = train_open (pos 100) to_the_end (pos 3) (pos 5) (pos 0) authority;
  is_first = refl;
  promises = rw (is_free, is_covered) refl;
  orders = rw (is_free, is_covered) refl;
}

pub given_by_svl : IsGiven by_svl before reading
given_by_svl = record {
  is_open = train_open (pos 100) to_the_end (pos 3) (pos 5) (pos 0) authority;
  is_first = refl;
  promises = is_within;
  orders = rw (is_free, is_within) refl;
}

-- ---- what happens

-- a quarter of a grain before the max safe front end; the brake was ordered 0.15 s ago
abbrev pub start : Moment
start = begins before (pos 20_776_607_999_999) 21_600 (Some 3)

pub is_start : IsRideStart start
is_start = record { is_open = train_open (pos 100) to_the_end (pos 3) (pos 5) (pos 0) authority; none = refl }

pub is_true : IsTrueReading 2 start reading
unfolding reading ride_train plain_train_and_track plain_national
is_true = record { front = omega (arith, ints); speed = omega arith }

-- a tenth of a second, in two ticks at their mean speeds, and a missing reading
abbrev pub ds : ℕ → ℕ → ℕ → List Happening → List Happening
ds v half to rest = Tick half (500_000 * (v + half)) ∷ Tick to (500_000 * (half + to)) ∷ Overdue ∷ rest

-- 1 m/s² for 0.3 s, and 0.4 m/s² for 0.2 s
abbrev pub gaining : List Happening → List Happening
gaining rest =
    ds 21_600 27_000 32_400 (ds 32_400 37_800 43_200 (ds 43_200 48_600 54_000
    (ds 54_000 56_160 58_320 (ds 58_320 60_480 62_640 rest))))

-- and the brake
abbrev pub braking : List Happening
braking =
    ds 62_640 57_240 51_840 (ds 51_840 46_440 41_040 (ds 41_040 35_640 30_240 (ds 30_240 24_840 19_440
    (ds 19_440 14_040 8_640 (Tick 3_240 5_940_000_000 ∷ Tick 0 972_000_000 ∷ [])))))

may_gain : may_go (by_orders delays 2) its_promise (pos 20_776_607_999_999) 21_600 0 0 None (gaining []) ≡ true
unfolding ride_train plain_train_and_track plain_national reading reaction_times plain_slopes
may_gain = refl

pub may_stop : may_go (by_orders delays 2) its_promise (pos 20_776_607_999_999) 21_600 0 0 None (gaining braking) ≡ true
unfolding ride_train plain_train_and_track plain_national reading reaction_times plain_slopes
may_stop = refl

in_time : may_go (by_clock 2) its_promise (pos 20_776_607_999_999) 21_600 0 0 None (gaining braking) ≡ true
unfolding ride_train plain_train_and_track plain_national reading reaction_times plain_slopes
in_time = refl

pub held : HoldsDelays delays its_promise
unfolding ride_train plain_train_and_track plain_national reading reaction_times
held = record { traction = λ lower. omega arith; emergency = omega arith }

-- where the brake begins to work, at 0.58 m/s
abbrev pub at_the_brake : Moment
at_the_brake = stands its_promise (after_reading before reading) (pos 21_236_687_999_999) 62_640 0 10 (Some 8)

-- where the train stands
abbrev pub at_the_svl : Moment
at_the_svl = stands its_promise (after_reading before reading) (pos 21_599_999_999_999) 0 2 22 (Some 20)

-- ---- the rides

abbrev pub from_first : List Happening → List Happening
from_first rest = Record (record_kinds.Read reading) ∷ rest

abbrev pub up_to_the_brake : List Happening
up_to_the_brake = from_first (gaining [])

abbrev pub up_to_the_svl : List Happening
up_to_the_svl = from_first (gaining braking)

pub ends_by : EndsBy 1000 (after_reading before reading).authority
unfolding after_reading
ends_by = (omega arith, refl)

module _ (j : Judging) (given : IsGiven j before reading) where
  a_ride : (rest : List Happening) →
      may_go (by_orders delays 2) its_promise (pos 20_776_607_999_999) 21_600 0 0 None rest ≡ true →
      IsRide j (IsByTimelyOrders delays 2) 2 start (from_first rest)
  a_ride rest may =
      rides_on j (IsByTimelyOrders delays 2) 2 (by_orders delays 2) before reading (pos 20_776_607_999_999) 21_600 (Some 3)
      rest given is_true
      (orders_show delays 2 its_promise (train_slopes (pos 100) to_the_end (pos 3) (pos 5) (pos 0) Safe) held) may

  a_timed_ride : IsRide j (IsByClock 2) 2 start up_to_the_svl
  a_timed_ride =
      rides_on j (IsByClock 2) 2 (by_clock 2) before reading (pos 20_776_607_999_999) 21_600 (Some 3) (gaining braking)
      given is_true (clock_shows 2 its_promise (train_slopes (pos 100) to_the_end (pos 3) (pos 5) (pos 0) Safe)) in_time

  before_its_place : (rest : List Happening) → is_quiet rest ≡ true →
      may_go (by_orders delays 2) its_promise (pos 20_776_607_999_999) 21_600 0 0 None rest ≡ true →
      IsRideBefore j (IsByTimelyOrders delays 2) 2 1000 start (from_first rest)
  before_its_place rest quiet may = record {
    start = is_start;
    ride = a_ride rest may;
    authorities =
        stays_from j (λ s. EndsBy 1000 s.authority) before reading (pos 20_776_607_999_999) 21_600 (Some 3) rest given quiet
        (omega arith, refl) ends_by;
  }

  to_the_brake : last_moment j start up_to_the_brake ≡ at_the_brake
  unfolding after
  to_the_brake = ends_so j before reading (pos 20_776_607_999_999) 21_600 (Some 3) (gaining []) given ∙ refl

  pub to_the_svl : last_moment j start up_to_the_svl ≡ at_the_svl
  unfolding after
  to_the_svl = ends_so j before reading (pos 20_776_607_999_999) 21_600 (Some 3) (gaining braking) given ∙ refl

  -- what the laws say of the last moment, and of the moment at which the brake begins to work
  kept_at_the_svl : (what : Promised) → AreKeptByOrders j what → what 2 before reading (point_of at_the_svl)
  kept_at_the_svl what law =
      let P = KeepsPromise what 2 in
      let all = law delays 2 start up_to_the_svl (omega arith) is_start (a_ride (gaining braking) may_stop) in
      subst P to_the_svl (at_the_end j P start (Record (record_kinds.Read reading)) (gaining braking) all)
      (aged_by its_promise 22) refl

  kept_at_the_brake : (what : Promised) → AreKeptByOrders j what → what 2 before reading (point_of at_the_brake)
  kept_at_the_brake what law =
      let P = KeepsPromise what 2 in
      let all = law delays 2 start up_to_the_brake (omega arith) is_start (a_ride (gaining []) may_gain) in
      subst P to_the_brake (at_the_end j P start (Record (record_kinds.Read reading)) (gaining []) all)
      (aged_by its_promise 10) refl

  kept_by_clock : (what : Promised) → AreKeptByClock j what → what 2 before reading (point_of at_the_svl)
  kept_by_clock what law =
      let P = KeepsPromise what 2 in
      let all = law 2 start up_to_the_svl (omega arith) is_start a_timed_ride in
      subst P to_the_svl (at_the_end j P start (Record (record_kinds.Read reading)) (gaining braking) all)
      (aged_by its_promise 22) refl

  pub first_promise : (after j start (Record (record_kinds.Read reading))).promise ≡ Some its_promise
  first_promise = ap (λ (n : Moment). n.promise) (to_given j before reading (pos 20_776_607_999_999) 21_600 (Some 3) given)

  placed_at_the_svl : StaysBeforeByOrders j → IsBy 2 (place_of_cell (pos 1000)) (point_of at_the_svl)
  placed_at_the_svl law =
      subst (λ n. IsBy 2 (place_of_cell (pos 1000)) (point_of n)) to_the_svl
      (never_past j 2 1000 start (Record (record_kinds.Read reading)) (gaining braking) its_promise first_promise
      (law delays 2 1000 start up_to_the_svl (omega arith) (before_its_place (gaining braking) refl may_stop)))

  placed_at_the_brake : StaysBeforeByOrders j → IsBy 2 (place_of_cell (pos 1000)) (point_of at_the_brake)
  placed_at_the_brake law =
      subst (λ n. IsBy 2 (place_of_cell (pos 1000)) (point_of n)) to_the_brake
      (never_past j 2 1000 start (Record (record_kinds.Read reading)) (gaining []) its_promise first_promise
      (law delays 2 1000 start up_to_the_brake (omega arith) (before_its_place (gaining []) refl may_gain)))

-- ---- THE RIDE, by the law: where the train stands, and where it still runs at 0.58 m/s

stops_by_rows : LawOfRides → at_the_svl.place ≤ℤ pos 21_600_000_000_000
stops_by_rows law =
    let by = (kept_at_the_svl by_rows given_by_rows IsAsCovered law.rows).stops 1000 1000 0 refl in omega (arith, ints, by)

stops_by_free_rows : LawOfRides → at_the_svl.place ≤ℤ pos 21_600_000_000_000
stops_by_free_rows law =
    let kept = kept_at_the_svl by_free_rows given_by_free_rows IsAsFree law.free_rows in
    let by = kept.covered.stops 1000 1000 0 refl in omega (arith, ints, by)

stops_by_svl : LawOfRides → at_the_svl.place ≤ℤ pos 21_600_000_000_000
stops_by_svl law =
    let by = kept_at_the_svl by_svl given_by_svl IsByItsSvl law.svl 1000 1000 0 refl in omega (arith, ints, by)

runs_by_rows : LawOfRides → at_the_brake.place ≤ℤ pos 21_600_000_000_000
runs_by_rows law =
    let by = (kept_at_the_brake by_rows given_by_rows IsAsCovered law.rows).stops 1000 1000 0 refl in
    omega (arith, ints, by)

-- the same by the clock
stops_by_timed_rows : LawOfTimedRides → at_the_svl.place ≤ℤ pos 21_600_000_000_000
stops_by_timed_rows law =
    let by = (kept_by_clock by_rows given_by_rows IsAsCovered law.rows).stops 1000 1000 0 refl in omega (arith, ints, by)

stops_by_timed_free_rows : LawOfTimedRides → at_the_svl.place ≤ℤ pos 21_600_000_000_000
stops_by_timed_free_rows law =
    let kept = kept_by_clock by_free_rows given_by_free_rows IsAsFree law.free_rows in
    let by = kept.covered.stops 1000 1000 0 refl in omega (arith, ints, by)

stops_by_timed_svl : LawOfTimedRides → at_the_svl.place ≤ℤ pos 21_600_000_000_000
stops_by_timed_svl law =
    let by = kept_by_clock by_svl given_by_svl IsByItsSvl law.svl 1000 1000 0 refl in omega (arith, ints, by)

-- by the law of clocks the ride by the orders is one by the clock
timed_by_law : LawOfClocks → IsRide by_rows (IsByClock 2) 2 start up_to_the_svl
timed_by_law law =
    law by_rows delays 2 start up_to_the_svl refl (a_ride by_rows given_by_rows (gaining braking) may_stop)

-- ---- NEVER PAST 10 m, by the law

never_past_by_rows : LawOfPlaces →
    (at_the_svl.place ≤ℤ pos 21_600_000_000_000) × (at_the_brake.place ≤ℤ pos 21_600_000_000_000)
never_past_by_rows law =
    let end = placed_at_the_svl by_rows given_by_rows law.rows in
    let running = placed_at_the_brake by_rows given_by_rows law.rows in
    (omega (arith, ints, end), omega (arith, ints, running))

never_past_by_free_rows : LawOfPlaces →
    (at_the_svl.place ≤ℤ pos 21_600_000_000_000) × (at_the_brake.place ≤ℤ pos 21_600_000_000_000)
never_past_by_free_rows law =
    let end = placed_at_the_svl by_free_rows given_by_free_rows law.free_rows in
    let running = placed_at_the_brake by_free_rows given_by_free_rows law.free_rows in
    (omega (arith, ints, end), omega (arith, ints, running))

never_past_by_svl : LawOfPlaces →
    (at_the_svl.place ≤ℤ pos 21_600_000_000_000) × (at_the_brake.place ≤ℤ pos 21_600_000_000_000)
never_past_by_svl law =
    let end = placed_at_the_svl by_svl given_by_svl law.svl in
    let running = placed_at_the_brake by_svl given_by_svl law.svl in
    (omega (arith, ints, end), omega (arith, ints, running))
