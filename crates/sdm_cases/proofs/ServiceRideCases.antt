-- A ride that never comes to an order of the emergency brake: at 0.2 m/s the train is past the SBI, and its service
-- brake stops it 6 cm before the SvL. Each reading is covered, and none commands the emergency brake.
use Rattle.std.proofs.Common.{◌≡◌, ℕ, ℤ, pos, Bool, true, false, List, [], ◌∷◌, ◌+◌, ◌*◌, refl, subst, sym, ap}
use Rattle.std.proofs.Common.{◌∙◌, ◌≤◌, arith}
use Rattle.std.specs.Prelude.{All, Option, Some, None, if◌then◌else◌}
use Rattle.std.proofs.lemmas.Int.{ints}
use Rattle.std.proofs.lemmas.Option.{none-some, same_Some}
use Rattle.std.proofs.lemmas.List.Elements.{All-nil, All-cons}
use Rattle.sdm_num.specs.Readings.{OdometerReading}
use Rattle.sdm_rules.specs.declared.commands.Held.{Held}
use Rattle.sdm_rules.specs.declared.commands.Status.TheVariants.{X}
use Rattle.sdm_rules.specs.declared.records.Event.TheVariants as record_kinds
use Rattle.sdm_rules.specs.Commands.{commands_after, emergency_after, nothing_held}
use Rattle.sdm_rules.specs.Curves.{place_at, corner, arc, stepped, arc_back, back}
use Rattle.sdm_rules.specs.Data.{TrainAndTrack}
use Rattle.sdm_rules.specs.Decelerations.{slope_at, slopes_of}
use Rattle.sdm_rules.specs.Limits.{limits_of, release_start}
use Rattle.sdm_rules.specs.Profile.{mrsp}
use Rattle.sdm_rules.specs.Reaction.{reaction_times}
use Rattle.sdm_rules.specs.Records.{step, time_cause, time_fault, unless}
use Rattle.sdm_rules.specs.Supervision.{Supervision, after_reading, commands_in, is_covered_in, opening, row_in, row_of}
use Rattle.sdm_rules.specs.Supervision.{state_in}
use Rattle.sdm_rules.specs.Targets.{targets_of}
use Rattle.sdm_rules.specs.Triggers.{triggers_of}
use Rattle.sdm_ride.specs.Happenings.{Happening, Record, Tick}
use Rattle.sdm_ride.specs.Moments.{Moment, Promise, after, after_record, by_rows, is_ordered, moments, promise_after}
use Rattle.sdm_ride.specs.Rides.{IsByOrders, IsRide, MayHappen}
use Rattle.sdm_ride.specs.MotionRides.{last_moment}
use Rattle.sdm_cases.proofs.Journeys.{plain_band, plain_national, plain_train_and_track, reading_at}
use Rattle.sdm_cases.proofs.Openings.{situation_in, situation_with}
use Rattle.sdm_cases.proofs.RideLine.{authority, delays, ride_line}

-- ---- the readings

-- a service brake of 0.5 s
abbrev line : TrainAndTrack
line = ride_line (pos 2) (pos 5)

-- 10, 8, 6.5 and 6 cm before the SvL
abbrev first : OdometerReading
first = reading_at 0 (pos 5_346_000_000_000) 10_800

abbrev second : OdometerReading
second = reading_at 1 (pos 5_356_800_000_000) 10_800

abbrev third : OdometerReading
third = reading_at 2 (pos 5_364_900_000_000) 5_400

abbrev fourth : OdometerReading
fourth = reading_at 3 (pos 5_367_600_000_000) 0

-- the service brake is commanded
abbrev serviced : Held
serviced = record { tco = true; sb = true; eb = false; status = X }

-- the state after a reading
abbrev before : Supervision
before = opening line authority

abbrev held_at : ℕ → Held → Supervision
held_at time held = record before { last_time = Some time; commands = held }

-- a reading whose row is covered and orders nothing, with the state after it
record IsFree (s : Supervision) (r : OdometerReading) (t : Supervision) : Type 0 where
  leads : after_reading s r ≡ t
  covered : (row_of s r).covered ≡ true
  no_order : is_ordered (row_of s r) ≡ false

-- of a state with no restriction in force
computed : (held next : Held) (last : Option ℕ) (r : OdometerReading) →
    let now = situation_with line authority [] r in
    let s : Supervision = record before { last_time = last; commands = held } in
    commands_in line held r now ≡ next → is_covered_in line r now ≡ true → is_ordered (row_in line held r now) ≡ false →
    IsFree s r (held_at r.time next)
unfolding after_reading row_in
computed held next last r commands covered no_order =
    let s : Supervision = record before { last_time = last; commands = held } in
    let e = situation_in s r refl in
    record {
      leads = ap (λ now. record before { last_time = Some r.time; commands = commands_in line held r now }) e
          ∙ ap (held_at r.time) commands;
      covered = ap (λ now. is_covered_in line r now) e ∙ covered;
      no_order = ap (λ now. is_ordered (row_in line held r now)) e ∙ no_order;
    }

first_free : IsFree before first (held_at 0 serviced)
unfolding ride_line plain_train_and_track plain_national plain_band reading_at situation_with targets_of mrsp row_in
    is_covered_in state_in commands_in commands_after emergency_after triggers_of limits_of release_start
    reaction_times slopes_of slope_at stepped place_at corner arc arc_back back
first_free = computed nothing_held serviced None first refl refl refl

second_free : IsFree (held_at 0 serviced) second (held_at 1 serviced)
unfolding ride_line plain_train_and_track plain_national plain_band reading_at situation_with targets_of mrsp row_in
    is_covered_in state_in commands_in commands_after emergency_after triggers_of limits_of release_start
    reaction_times slopes_of slope_at stepped place_at corner arc arc_back back
second_free = computed serviced serviced (Some 0) second refl refl refl

third_free : IsFree (held_at 1 serviced) third (held_at 2 serviced)
unfolding ride_line plain_train_and_track plain_national plain_band reading_at situation_with targets_of mrsp row_in
    is_covered_in state_in commands_in commands_after emergency_after triggers_of limits_of release_start
    reaction_times slopes_of slope_at stepped place_at corner arc arc_back back
third_free = computed serviced serviced (Some 1) third refl refl refl

fourth_free : IsFree (held_at 2 serviced) fourth (held_at 3 nothing_held)
unfolding ride_line plain_train_and_track plain_national plain_band reading_at situation_with targets_of mrsp row_in
    is_covered_in state_in commands_in commands_after emergency_after triggers_of limits_of release_start
    reaction_times slopes_of slope_at stepped place_at corner arc arc_back back
fourth_free = computed serviced nothing_held (Some 2) fourth refl refl refl

-- ---- what happens

-- a moment with no order
abbrev moment : Supervision → ℤ → ℕ → ℕ → Option Promise → Moment
moment s place speed silence promise = record {
  supervision = s;
  place = place;
  speed = speed;
  silence = silence;
  order = None;
  promise = promise;
}

-- the promise of a reading, so many ticks ago
abbrev of_reading : Supervision → OdometerReading → ℕ → Option Promise
of_reading s r age = Some (record { under = s; reading = r; age = age })

-- a free reading in time gives its promise and no order
to_free : (s t : Supervision) (r : OdometerReading) (place : ℤ) (speed silence : ℕ) (last : Option Promise) →
    time_fault s.last_time r.time ≡ None → IsFree s r t →
    after by_rows (moment s place speed silence last) (Record (record_kinds.Read r))
    ≡ moment t place speed 0 (of_reading s r 0)
unfolding after step
to_free s t r place speed silence last in_time free =
    let m = moment s place speed silence last in
    let new : Promise = record { under = s; reading = r; age = 0 } in
    let orders = is_ordered (row_of s r) in
    ap (λ f. after_record by_rows m (record_kinds.Read r) (unless time_cause f (after_reading s r))) in_time
    ∙ ap (λ (b : Bool). record {
      supervision = after_reading s r;
      place = place;
      speed = speed;
      silence = 0;
      order = if orders then Some 0 else None;
      promise = promise_after b orders new last;
    }) free.covered
    ∙ ap (λ (b : Bool). record {
      supervision = after_reading s r;
      place = place;
      speed = speed;
      silence = 0;
      order = if b then Some 0 else None;
      promise = Some new;
    }) free.no_order
    ∙ ap (λ u. moment u place speed 0 (Some new)) free.leads

-- a ride from a moment on, without any order
record Going (m : Moment) (hs : List Happening) : Type 0 where
  ride : IsRide by_rows (IsByOrders (delays 1) 1) 1 m hs
  no_order : All (λ n. n.order ≡ None) (moments by_rows m hs)

nothing_more : (m : Moment) → Going m []
nothing_more m = record { ride = tt; no_order = All-nil (λ (n : Moment). n.order ≡ None) }

-- a happening with the moment that it leads to
go : (m m' : Moment) (h : Happening) (hs : List Happening) → after by_rows m h ≡ m' →
    MayHappen by_rows (IsByOrders (delays 1) 1) 1 m h → m'.order ≡ None → Going m' hs →
    Going m (h ∷ hs)
go m m' h hs e may none rest = record {
  ride = (may, subst (λ n. IsRide by_rows (IsByOrders (delays 1) 1) 1 n hs) (sym e) rest.ride);
  no_order = All-cons (λ n. n.order ≡ None) (after by_rows m h) (moments by_rows (after by_rows m h) hs)
      (subst (λ (n : Moment). n.order ≡ None) (sym e) none)
      (subst (λ n. All (λ n. n.order ≡ None) (moments by_rows n hs)) (sym e) rest.no_order);
}

-- a tick after a reading of 1 ds before
ticks : (s : Supervision) (r : OdometerReading) (t : Supervision) (place : ℤ) (v to length : ℕ) → r.accel ≡ pos 0 →
    to ≤ v → 2 * length ≤ 1_000_000 * (v + to) →
    MayHappen by_rows (IsByOrders (delays 1) 1) 1 (moment t place v 0 (of_reading s r 0)) (Tick to length)
ticks s r t place v to length none slower moves = λ c e.
    subst (λ (c : Promise). IsByOrders (delays 1) 1 c (moment t place v 0 (of_reading s r 0)) to length)
    (same_Some _ c e)
    (record {
      in_time = omega arith;
      traction = record { gains = omega arith; moves = omega arith };
      cut_off = λ o is long. absurd (none-some o is);
      brakes = λ o is long. absurd (none-some o is);
    })

-- 2 cm a ds at 0.2 m/s; then 1.5 cm and 0.5 cm at 1 m/s²
abbrev from_third : List Happening
from_third = Record (record_kinds.Read third) ∷ Tick 0 2_700_000_000 ∷ Record (record_kinds.Read fourth) ∷ []

abbrev from_second : List Happening
from_second = Record (record_kinds.Read second) ∷ Tick 5_400 8_100_000_000 ∷ from_third

abbrev happenings : List Happening
happenings = Record (record_kinds.Read first) ∷ Tick 10_800 10_800_000_000 ∷ from_second

abbrev start : Moment
start = moment before (pos 5_346_000_000_000) 10_800 0 None

abbrev at_second : Moment
at_second = moment (held_at 0 serviced) (pos 5_356_800_000_000) 10_800 1 (of_reading before first 1)

abbrev at_third : Moment
at_third = moment (held_at 1 serviced) (pos 5_364_900_000_000) 5_400 1 (of_reading (held_at 0 serviced) second 1)

abbrev at_fourth : Moment
at_fourth = moment (held_at 2 serviced) (pos 5_367_600_000_000) 0 1 (of_reading (held_at 1 serviced) third 1)

abbrev at_the_end : Moment
at_the_end = moment (held_at 3 nothing_held) (pos 5_367_600_000_000) 0 0 (of_reading (held_at 2 serviced) fourth 0)

after_first : after by_rows start (Record (record_kinds.Read first))
    ≡ moment (held_at 0 serviced) (pos 5_346_000_000_000) 10_800 0 (of_reading before first 0)
after_first = to_free before (held_at 0 serviced) first _ _ _ None refl first_free

after_second : after by_rows at_second (Record (record_kinds.Read second))
    ≡ moment (held_at 1 serviced) (pos 5_356_800_000_000) 10_800 0 (of_reading (held_at 0 serviced) second 0)
unfolding reading_at
after_second = to_free (held_at 0 serviced) (held_at 1 serviced) second _ _ _ _ refl second_free

after_third : after by_rows at_third (Record (record_kinds.Read third))
    ≡ moment (held_at 2 serviced) (pos 5_364_900_000_000) 5_400 0 (of_reading (held_at 1 serviced) third 0)
unfolding reading_at
after_third = to_free (held_at 1 serviced) (held_at 2 serviced) third _ _ _ _ refl third_free

after_fourth : after by_rows at_fourth (Record (record_kinds.Read fourth)) ≡ at_the_end
unfolding reading_at
after_fourth = to_free (held_at 2 serviced) (held_at 3 nothing_held) fourth _ _ _ _ refl fourth_free

-- A RIDE without any order
goes : Going start happenings
unfolding after reading_at ride_line plain_train_and_track plain_national
goes =
    go start _ _ (Tick 10_800 10_800_000_000 ∷ from_second) after_first
    (λ promises. record { front = omega (arith, ints); speed = omega arith }) refl
    (go _ at_second _ from_second refl
    (ticks before first (held_at 0 serviced) _ 10_800 10_800 10_800_000_000 refl (omega arith) (omega arith)) refl
    (go at_second _ _ (Tick 5_400 8_100_000_000 ∷ from_third) after_second
    (λ promises. record { front = omega (arith, ints); speed = omega arith }) refl
    (go _ at_third _ from_third refl
    (ticks (held_at 0 serviced) second (held_at 1 serviced) _ 10_800 5_400 8_100_000_000 refl (omega arith)
    (omega arith))
    refl
    (go at_third _ _ (Tick 0 2_700_000_000 ∷ Record (record_kinds.Read fourth) ∷ []) after_third
    (λ promises. record { front = omega (arith, ints); speed = omega arith }) refl
    (go _ at_fourth _ (Record (record_kinds.Read fourth) ∷ []) refl
    (ticks (held_at 1 serviced) third (held_at 2 serviced) _ 5_400 0 2_700_000_000 refl (omega arith)
    (omega arith)) refl
    (go at_fourth _ _ [] after_fourth
    (λ promises. record { front = omega (arith, ints); speed = omega arith }) refl
    (nothing_more at_the_end)))))))

-- it ends 6 cm before the SvL, at standstill
ends_before_the_svl : last_moment by_rows start happenings ≡ at_the_end
unfolding after
ends_before_the_svl =
    ap (λ m. last_moment by_rows m (Tick 10_800 10_800_000_000 ∷ from_second)) after_first
    ∙ ap (λ m. last_moment by_rows m (Tick 5_400 8_100_000_000 ∷ from_third)) after_second
    ∙ ap (λ m. last_moment by_rows m (Tick 0 2_700_000_000 ∷ Record (record_kinds.Read fourth) ∷ [])) after_third
    ∙ after_fourth
