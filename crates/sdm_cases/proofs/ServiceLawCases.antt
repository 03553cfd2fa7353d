-- What the laws of rides under the service brake say of rides at scale 2. A train runs at 0.2 m/s, and its reading 10 cm
-- before the EOA promises it. From the first missing reading on the service brake is ordered. It works 0.4 s after the
-- reading, and the train stops at the EOA, less a quarter of a grain; where it gains 1 m/s² until then, 20 cm past it.
use Rattle.std.proofs.Common.{◌≡◌, ℕ, ℤ, suc, pos, Bool, true, false, List, [], ◌∷◌, ◌+◌, ◌*◌, ◌≤◌, refl, subst, sym}
use Rattle.std.proofs.Common.{◌+ℤ◌, ◌≤ℤ◌, ap, ◌∙◌, arith}
use Rattle.std.specs.Prelude.{All, Option, Some, None, is_some, nat_le, nat_lt, not, ◌&&◌, ◌||◌, if◌then◌else◌}
use Rattle.std.specs.Prelude.{option_map}
use Rattle.std.proofs.lemmas.Bool.{and_parts, false≢true, le-leb, leb-true, ltb-true}
use Rattle.std.proofs.lemmas.Int.{ints}
use Rattle.std.proofs.lemmas.Option.{same_Some}
use Rattle.sdm_num.specs.Readings.{OdometerReading}
use Rattle.sdm_rules.specs.declared.authorities.Authority.{Authority}
use Rattle.sdm_rules.specs.declared.authorities.Authority.TheVariants.{Stop}
use Rattle.sdm_rules.specs.declared.data.SlopeKind.TheVariants.{Expected}
use Rattle.sdm_rules.specs.declared.records.Event.TheVariants as record_kinds
use Rattle.sdm_rules.specs.Cells.{place_of_cell}
use Rattle.sdm_rules.specs.Commands.{commands_after, emergency_after}
use Rattle.sdm_rules.specs.Curves.{place_at, corner, arc, stepped, arc_back, back}
use Rattle.sdm_rules.specs.Data.{TrainAndTrack}
use Rattle.sdm_rules.specs.Decelerations.{slope_at, slopes_of}
use Rattle.sdm_rules.specs.Limits.{limits_of, release_start}
use Rattle.sdm_rules.specs.Profile.{mrsp}
use Rattle.sdm_rules.specs.Reaction.{reaction_times}
use Rattle.sdm_rules.specs.Supervision.{Supervision, after_reading, commands_in, opening, row_in, row_of, state_in}
use Rattle.sdm_rules.specs.Targets.{targets_of}
use Rattle.sdm_rules.specs.Triggers.{triggers_of}
use Rattle.sdm_ride.specs.Happenings.{Happening, Record, Unread, Overdue, Change, Tick}
use Rattle.sdm_ride.specs.Moments.{Moment, Promise, after, is_release, ordered}
use Rattle.sdm_ride.specs.Rides.{Delays, TickRule}
use Rattle.sdm_ride.specs.RideLaws.{IsRideStart, KeepsPromise}
use Rattle.sdm_service_ride.specs.CutOffs.{IsCut, LawOfCutOffs}
use Rattle.sdm_service_ride.specs.ServiceMoments.{Allowance, by_eoa, commands_brake, has_eoa, no_allowance}
use Rattle.sdm_service_ride.specs.ServiceMoments.{promises_eoa, steady_after, steady_moments}
use Rattle.sdm_service_ride.specs.ServiceRides.{HoldsServiceDelays, IsByServiceClock, IsByTimelyServiceOrders}
use Rattle.sdm_service_ride.specs.ServiceRides.{IsServiceRide, IsTrueEstimate, service_time}
use Rattle.sdm_service_ride.specs.ServiceRideLaws.{IsByItsEoa, LawOfAllowedRides, LawOfServiceRides, StaysClear}
use Rattle.sdm_service_ride.specs.ServiceRideLaws.{LawOfTimedServiceRides, is_clear}
use Rattle.sdm_cases.proofs.Journeys.{plain_band, plain_national, plain_train_and_track, reading_at}
use Rattle.sdm_cases.proofs.Openings.{opening_row, situation_with}
use Rattle.sdm_cases.proofs.RideLawCases.{ds, to_the_end}
use Rattle.sdm_cases.proofs.RideSteps.{IsGiven, may_go, promised, to_given}
use Rattle.sdm_cases.proofs.TickTests.{TickTest, aged_by, begins, braking_is, if_so, is_braking, is_old, old_is}
use Rattle.sdm_cases.proofs.TickTests.{stands}
use Rattle.sdm_cases.proofs.RideTrain.{ride_train, step_on, train_open, train_slopes}
use Rattle.sdm_cases.proofs.StopCases.{plain_slopes}

-- ---- the train and its reading

-- T_bs is 0.4 s
abbrev line : TrainAndTrack
line = ride_train (pos 100) to_the_end (pos 2) (pos 3) (pos 4)

-- which holds a reading each 0.1 s, orders that stand after 0.1 s and a brake that works 0.2 s later
abbrev delays : Delays
delays = record { period = 1; latency = 1; cut_off = 1; build_up = 2 }

-- the SvL is 1 m past the EOA
abbrev authority : Authority
authority = Stop 1000 1100 0

abbrev before : Supervision
before = opening line authority

abbrev reading : OdometerReading
reading = reading_at 0 (pos 5_346_000_000_000) 10_800

abbrev its_promise : Promise
its_promise = promised before reading

promises : promises_eoa before reading ≡ true
unfolding ride_train to_the_end plain_train_and_track plain_national plain_band reading_at row_in situation_with targets_of
    mrsp state_in commands_in commands_after emergency_after triggers_of limits_of release_start reaction_times slopes_of
    slope_at stepped place_at corner arc arc_back back
promises =
    ap (λ row. has_eoa line reading authority && (not (is_release row.state) && not (commands_brake row)))
    (opening_row line authority reading) ∙ refl

commands_none : commands_brake (row_of before reading) ≡ false
unfolding ride_train to_the_end plain_train_and_track plain_national plain_band reading_at row_in situation_with targets_of
    mrsp state_in commands_in commands_after emergency_after triggers_of limits_of release_start reaction_times slopes_of
    slope_at stepped place_at corner arc arc_back back
commands_none = ap commands_brake (opening_row line authority reading) ∙ refl

given : IsGiven by_eoa before reading
given = record {
  is_open = train_open (pos 100) to_the_end (pos 2) (pos 3) (pos 4) authority;
  is_first = refl;
  promises = promises;
  orders = commands_none;
}

held : HoldsServiceDelays delays its_promise
unfolding ride_train plain_train_and_track plain_national reaction_times
held = omega arith

-- ---- ticks and missing readings, by a test

-- by the orders: no reading is overdue, no more is gained than allowed, and the train brakes once the order is old
abbrev by_service : Allowance → TickTest
by_service a c p v silence order to length =
    nat_lt silence (2 * delays.period)
    && (nat_le to (v + 54 * a.accel)
    && (nat_le (2 * length) (1_000_000 * (v + to))
    && (not (is_old (2 * (delays.latency + delays.build_up)) order) || is_braking p v to length)))

-- by the clock
abbrev by_its_clock : TickTest
by_its_clock c p v silence order to length =
    nat_le to (v + 54 * 0)
    && (nat_le (2 * length) (1_000_000 * (v + to)) && (not (nat_le (2 * 4) c.age) || is_braking p v to length))

-- the test shows the rule, and that the train is steady
record ShowsSteady (a : Allowance) (test : TickTest) (rule : TickRule) : Type 0 where
  steady : (c : Promise) (p : ℤ) (v silence : ℕ) (order : Option ℕ) (to length : ℕ) →
      test c p v silence order to length ≡ true → nat_le to (v + 54 * a.accel) ≡ true
  kept : (t : Supervision) (p : ℤ) (v silence age : ℕ) (order : Option ℕ) (to length : ℕ) →
      test (aged_by its_promise age) p v silence order to length ≡ true →
      rule (aged_by its_promise age) (stands its_promise t p v silence age order) to length

orders_show : (a : Allowance) → ShowsSteady a (by_service a) (IsByTimelyServiceOrders delays 2)
orders_show a = record {
  steady = λ c p v silence order to length may.
      (and_parts (nat_le to (v + 54 * a.accel)) _ (and_parts (nat_lt silence 2) _ may).1).0;
  kept = λ t p v silence age order to length may.
      let in_time = and_parts (nat_lt silence 2) _ may in
      let steady = and_parts (nat_le to (v + 54 * a.accel)) _ in_time.1 in
      let moves = and_parts (nat_le (2 * length) (1_000_000 * (v + to))) _ steady.1 in
      record {
        times = held;
        orders = record {
          in_time = ltb-true _ _ in_time.0;
          moves = leb-true _ _ moves.0;
          brakes = λ o is long. (
            [],
            step_on _ (train_slopes (pos 100) to_the_end (pos 2) (pos 3) (pos 4) Expected) 4 _ _
                (braking_is p v to length (if_so _ _ moves.1 (old_is _ o order is long))),
          );
        };
      };
}

its_time : service_time its_promise ≡ 4
unfolding ride_train plain_train_and_track plain_national reaction_times
its_time = refl

clock_shows : ShowsSteady no_allowance by_its_clock (IsByServiceClock 2)
clock_shows = record {
  steady = λ c p v silence order to length may. (and_parts (nat_le to (v + 54 * 0)) _ may).0;
  kept = λ t p v silence age order to length may.
      let steady = and_parts (nat_le to (v + 54 * 0)) _ may in
      let moves = and_parts (nat_le (2 * length) (1_000_000 * (v + to))) _ steady.1 in
      record {
        moves = leb-true _ _ moves.0;
        brakes = λ late. (
          [],
          step_on _ (train_slopes (pos 100) to_the_end (pos 2) (pos 3) (pos 4) Expected) 4 _ _
              (braking_is p v to length (if_so _ _ moves.1
              (le-leb (2 * 4) age (subst (λ bs. 2 * bs ≤ age) its_time late)))),
        );
      };
}

abbrev may_serve : TickTest → ℤ → ℕ → ℕ → ℕ → Option ℕ → List Happening → Bool
may_serve test p v silence age order hs = may_go test its_promise p v silence age order hs

tick_to : (a : Allowance) (t : Supervision) (p : ℤ) (v silence age : ℕ) (order : Option ℕ) (to length : ℕ) →
    nat_le to (v + 54 * a.accel) ≡ true →
    steady_after a (stands its_promise t p v silence age order) (Tick to length)
    ≡ stands its_promise t (p +ℤ pos length) to (suc silence) (suc age) (option_map (λ o. suc o) order)
unfolding after
tick_to a t p v silence age order to length steady =
    let n = stands its_promise t (p +ℤ pos length) to (suc silence) (suc age) (option_map (λ o. suc o) order) in
    ap (λ (b : Bool). if b then n else record n { promise = None }) steady

serves : (a : Allowance) (test : TickTest) (rule : TickRule) → ShowsSteady a test rule → (hs : List Happening)
    (t : Supervision) (p : ℤ) (v silence age : ℕ) (order : Option ℕ) →
    may_serve test p v silence age order hs ≡ true →
    IsServiceRide rule a 2 (stands its_promise t p v silence age order) hs
unfolding after
serves a test rule shows [] t p v silence age order may = tt
serves a test rule shows (Record e ∷ hs) t p v silence age order may = absurd (false≢true may)
serves a test rule shows (Unread ∷ hs) t p v silence age order may = absurd (false≢true may)
serves a test rule shows (Overdue ∷ hs) t p v silence age order may =
    (tt, serves a test rule shows hs t p v 0 age (ordered order) may)
serves a test rule shows (Change next ∷ hs) t p v silence age order may = absurd (false≢true may)
serves a test rule shows (Tick to length ∷ hs) t p v silence age order may =
    let parts = and_parts (test (aged_by its_promise age) p v silence order to length) _ may in
    let steady = shows.steady (aged_by its_promise age) p v silence order to length parts.0 in (
      λ d e. subst (λ (d : Promise). rule d (stands its_promise t p v silence age order) to length) (same_Some _ d e)
          (shows.kept t p v silence age order to length parts.0),
      subst (λ n. IsServiceRide rule a 2 n hs) (sym (tick_to a t p v silence age order to length steady))
          (serves a test rule shows hs t (p +ℤ pos length) to (suc silence) (suc age) (option_map (λ o. suc o) order)
          parts.1),
    )

-- ---- what happens

-- a quarter of a grain before the estimated front end
abbrev start : Moment
start = begins before (pos 21_383_999_999_999) 21_600 (Some 3)

is_start : IsRideStart start
is_start = record { is_open = given.is_open; none = refl }

is_true : (a : Allowance) → IsTrueEstimate a 2 start reading
unfolding reading_at
is_true a = record { front = omega (arith, ints); speed = omega arith }

-- for 0.4 s at one speed
abbrev running : List Happening → List Happening
running rest =
    ds 21_600 21_600 21_600 (ds 21_600 21_600 21_600 (ds 21_600 21_600 21_600 (ds 21_600 21_600 21_600 rest)))

-- or gaining 1 m/s²
abbrev gaining : List Happening → List Happening
gaining rest =
    ds 21_600 27_000 32_400 (ds 32_400 37_800 43_200 (ds 43_200 48_600 54_000 (ds 54_000 59_400 64_800 rest)))

-- and the brake
abbrev stopping : List Happening
stopping = ds 21_600 16_200 10_800 (ds 10_800 5_400 0 [])

abbrev stopping_later : List Happening
stopping_later =
    ds 64_800 59_400 54_000 (ds 54_000 48_600 43_200 (ds 43_200 37_800 32_400 (ds 32_400 27_000 21_600 stopping)))

abbrev from_first : List Happening → List Happening
from_first rest = Record (record_kinds.Read reading) ∷ rest

abbrev allowed : Allowance
allowed = record { front = 0; speed = 0; accel = 100 }

to_reading : (a : Allowance) → steady_after a start (Record (record_kinds.Read reading))
    ≡ stands its_promise (after_reading before reading) (pos 21_383_999_999_999) 21_600 0 0 None
to_reading a = to_given by_eoa before reading (pos 21_383_999_999_999) 21_600 (Some 3) given

a_ride : (a : Allowance) (test : TickTest) (rule : TickRule) (rest : List Happening) → ShowsSteady a test rule →
    may_serve test (pos 21_383_999_999_999) 21_600 0 0 None rest ≡ true →
    IsServiceRide rule a 2 start (from_first rest)
a_ride a test rule rest shows may = (
  λ promises. is_true a,
  subst (λ n. IsServiceRide rule a 2 n rest) (sym (to_reading a))
      (serves a test rule shows rest (after_reading before reading) (pos 21_383_999_999_999) 21_600 0 0 None may),
)

may_stop : may_serve (by_service no_allowance) (pos 21_383_999_999_999) 21_600 0 0 None (running stopping) ≡ true
unfolding plain_slopes
may_stop = refl

may_run : may_serve (by_service no_allowance) (pos 21_383_999_999_999) 21_600 0 0 None (running []) ≡ true
unfolding plain_slopes
may_run = refl

may_stop_in_time : may_serve by_its_clock (pos 21_383_999_999_999) 21_600 0 0 None (running stopping) ≡ true
unfolding plain_slopes
may_stop_in_time = refl

may_gain : may_serve (by_service allowed) (pos 21_383_999_999_999) 21_600 0 0 None (gaining stopping_later) ≡ true
unfolding plain_slopes
may_gain = refl

may_gain_on : may_serve (by_service allowed) (pos 21_383_999_999_999) 21_600 0 0 None (gaining []) ≡ true
unfolding plain_slopes
may_gain_on = refl

-- ---- where the rides end

abbrev last_of : Allowance → Moment → List Happening → Moment
last_of a m [] = m
last_of a m (h ∷ hs) = last_of a (steady_after a m h) hs

at_the_end : (a : Allowance) (P : Moment → Type 0) (m : Moment) (h : Happening) (hs : List Happening) →
    All P (steady_moments a m (h ∷ hs)) → P (last_of a m (h ∷ hs))
at_the_end a P m h [] all = all 0 m (omega arith)
at_the_end a P m h (g ∷ hs) all =
    at_the_end a P (steady_after a m h) g hs (λ k d lt. all (suc k) d (omega (arith, lt)))

-- a promise stands at a place and a speed
abbrev now_at : ℤ → ℕ → ℕ → ℕ → Moment
now_at place speed age order =
    stands its_promise (after_reading before reading) place speed 0 age (Some order)

ends : (a : Allowance) (rest : List Happening) → last_of a start (from_first rest)
    ≡ last_of a (stands its_promise (after_reading before reading) (pos 21_383_999_999_999) 21_600 0 0 None) rest
ends a rest = ap (λ n. last_of a n rest) (to_reading a)

-- at the EOA, less a quarter of a grain; and 4 cm before it, still at 0.2 m/s
to_the_eoa : last_of no_allowance start (from_first (running stopping)) ≡ now_at (pos 21_599_999_999_999) 0 12 10
unfolding after
to_the_eoa = ends no_allowance (running stopping) ∙ refl

to_the_brake : last_of no_allowance start (from_first (running [])) ≡ now_at (pos 21_556_799_999_999) 21_600 8 6
unfolding after
to_the_brake = ends no_allowance (running []) ∙ refl

-- 24 cm past it, less a quarter of a grain; and where the brake begins to work, at 0.6 m/s
past_the_eoa : last_of allowed start (from_first (gaining stopping_later)) ≡ now_at (pos 22_118_399_999_999) 0 20 18
unfolding after
past_the_eoa = ends allowed (gaining stopping_later) ∙ refl

to_its_brake : last_of allowed start (from_first (gaining [])) ≡ now_at (pos 21_729_599_999_999) 64_800 8 6
unfolding after
to_its_brake = ends allowed (gaining []) ∙ refl

-- ---- what the laws say of them

kept_at : (rest : List Happening) (n : Moment) (age : ℕ) → n.promise ≡ Some (aged_by its_promise age) →
    last_of no_allowance start (from_first rest) ≡ n →
    All (KeepsPromise IsByItsEoa 2) (steady_moments no_allowance start (from_first rest)) →
    n.place ≤ℤ pos 21_600_000_000_000
kept_at rest n age is e all =
    let P = KeepsPromise IsByItsEoa 2 in
    let by = subst P e (at_the_end no_allowance P start (Record (record_kinds.Read reading)) rest all)
    (aged_by its_promise age) is 1000 1100 0 refl in
    omega (arith, ints, by)

-- by the law the train is at or before the EOA, where it stands and where it runs
stops_by_law : LawOfServiceRides → (pos 21_599_999_999_999 ≤ℤ pos 21_600_000_000_000)
stops_by_law law =
    kept_at (running stopping) (now_at (pos 21_599_999_999_999) 0 12 10) 12 refl to_the_eoa
    (law delays 2 start (from_first (running stopping)) (omega arith) is_start
    (a_ride no_allowance (by_service no_allowance) (IsByTimelyServiceOrders delays 2) (running stopping)
    (orders_show no_allowance) may_stop))

runs_by_law : LawOfServiceRides → (pos 21_556_799_999_999 ≤ℤ pos 21_600_000_000_000)
runs_by_law law =
    kept_at (running []) (now_at (pos 21_556_799_999_999) 21_600 8 6) 8 refl to_the_brake
    (law delays 2 start (from_first (running [])) (omega arith) is_start
    (a_ride no_allowance (by_service no_allowance) (IsByTimelyServiceOrders delays 2) (running [])
    (orders_show no_allowance) may_run))

stops_by_the_clock : LawOfTimedServiceRides → (pos 21_599_999_999_999 ≤ℤ pos 21_600_000_000_000)
stops_by_the_clock law =
    kept_at (running stopping) (now_at (pos 21_599_999_999_999) 0 12 10) 12 refl to_the_eoa
    (law 2 start (from_first (running stopping)) (omega arith) is_start
    (a_ride no_allowance by_its_clock (IsByServiceClock 2) (running stopping) clock_shows may_stop_in_time))

-- with the allowance the reading is clear of 24 cm past the EOA
clear_past_the_eoa : is_clear allowed its_promise (place_of_cell (pos 1024)) ≡ true
unfolding ride_train to_the_end plain_train_and_track plain_national plain_band reading_at slopes_of slope_at
    reaction_times stepped place_at corner arc arc_back back
clear_past_the_eoa = refl

clear_at : (rest : List Happening) (n : Moment) (age : ℕ) → n.promise ≡ Some (aged_by its_promise age) →
    last_of allowed start (from_first rest) ≡ n →
    All (StaysClear allowed 2) (steady_moments allowed start (from_first rest)) → n.place ≤ℤ pos 22_118_400_000_000
clear_at rest n age is e all =
    let by = subst (StaysClear allowed 2) e
    (at_the_end allowed (StaysClear allowed 2) start (Record (record_kinds.Read reading)) rest all)
    (aged_by its_promise age) is (place_of_cell (pos 1024)) clear_past_the_eoa in
    omega (arith, ints, by)

-- and by the law the train doesn't pass that, where it stands and where it runs
stays_clear_by_law : LawOfAllowedRides → (pos 22_118_399_999_999 ≤ℤ pos 22_118_400_000_000)
stays_clear_by_law law =
    clear_at (gaining stopping_later) (now_at (pos 22_118_399_999_999) 0 20 18) 20 refl past_the_eoa
    (law delays allowed 2 start (from_first (gaining stopping_later)) (omega arith) is_start
    (a_ride allowed (by_service allowed) (IsByTimelyServiceOrders delays 2) (gaining stopping_later) (orders_show allowed)
    may_gain))

runs_clear_by_law : LawOfAllowedRides → (pos 21_729_599_999_999 ≤ℤ pos 22_118_400_000_000)
runs_clear_by_law law =
    clear_at (gaining []) (now_at (pos 21_729_599_999_999) 64_800 8 6) 8 refl to_its_brake
    (law delays allowed 2 start (from_first (gaining [])) (omega arith) is_start
    (a_ride allowed (by_service allowed) (IsByTimelyServiceOrders delays 2) (gaining []) (orders_show allowed)
    may_gain_on))

-- ---- every driver

-- while the cut-off works, which was ordered 0.2 s ago, the promise stands over a tick and a missing reading
is_cut : IsCut delays 2 (Some 4)
is_cut = record { since = 4; is = refl; long = omega arith }

stands_by_law : LawOfCutOffs → (now : Supervision) →
    is_some (last_of allowed (stands its_promise now (pos 0) 21_600 0 0 None)
    (Tick 27_000 24_300_000_000 ∷ Overdue ∷ Tick 32_400 29_700_000_000 ∷ [])).promise ≡ true
unfolding after
stands_by_law law now =
    let m = stands its_promise now (pos 0) 21_600 0 0 None in
    let hs = Overdue ∷ Tick 32_400 29_700_000_000 ∷ [] in
    at_the_end allowed (λ n. is_some n.promise ≡ true) m (Tick 27_000 24_300_000_000) hs
    (law delays allowed 2 m (Some 4) (Tick 27_000 24_300_000_000 ∷ hs) is_cut refl
    ((λ cut. refl), (tt, ((λ cut. refl), tt))))
