-- A ride with a covered reading on both sides of a change of data: the promise of the second one is by the new data, and
-- replaces the first one's. A train that is read to run at 0.1 m/s, and may run 0.1 m/s faster, does so. It is read
-- 10 cm before the SvL by data with a cut-off time of 0, and 8 cm before it by data with one of 0.2 s; then readings are
-- missing, and it stops at the SvL to the grain.
use Rattle.std.proofs.Common.{◌≡◌, ◌∙◌, ℕ, ℤ, pos, Bool, true, false, List, [], ◌∷◌, ◌*◌, ◌<◌, ◌+ℤ◌, ◌≤ℤ◌}
use Rattle.std.proofs.Common.{refl, subst, sym, ap, arith}
use Rattle.std.specs.Prelude.{All, Option, Some, None, if◌then◌else◌}
use Rattle.std.proofs.lemmas.Int.{ints}
use Rattle.std.proofs.lemmas.Option.{none-some, same_Some}
use Rattle.std.proofs.lemmas.List.Elements.{All-nil, All-cons}
use Rattle.sdm_num.specs.Readings.{OdometerReading}
use Rattle.sdm_rules.specs.declared.commands.Held.{Held}
use Rattle.sdm_rules.specs.declared.records.Event.TheVariants as record_kinds
use Rattle.sdm_rules.specs.Commands.{commands_after, emergency_after, nothing_held}
use Rattle.sdm_rules.specs.Curves.{place_at, corner, arc, stepped, arc_back, back}
use Rattle.sdm_rules.specs.Data.{TrainAndTrack}
use Rattle.sdm_rules.specs.Decelerations.{slope_at, slopes_of}
use Rattle.sdm_rules.specs.Limits.{limits_of, release_start}
use Rattle.sdm_rules.specs.Motion.{BrakesAtLeast}
use Rattle.sdm_rules.specs.Profile.{mrsp}
use Rattle.sdm_rules.specs.Reaction.{reaction_times}
use Rattle.sdm_rules.specs.Records.{step}
use Rattle.sdm_rules.specs.Supervision.{Supervision, after_reading, commands_in, is_covered_in, opening, row_in, row_of}
use Rattle.sdm_rules.specs.Supervision.{state_in}
use Rattle.sdm_rules.specs.TakeOver.{change, take_over_fault, taken_over, unless_refused}
use Rattle.sdm_rules.specs.Targets.{targets_of}
use Rattle.sdm_rules.specs.Triggers.{triggers_of}
use Rattle.sdm_ride.specs.Happenings.{Happening, Record, Overdue, Change, Tick}
use Rattle.sdm_ride.specs.Moments.{Moment, Promise, after, after_change, by_rows, is_ordered, moments}
use Rattle.sdm_ride.specs.MotionRides.{last_moment}
use Rattle.sdm_ride.specs.Rides.{IsByOrders, IsByTimelyOrders, IsRide, IsTick, IsTrueReading, MayHappen}
use Rattle.sdm_ride.specs.RideLaws.{EndsBy, IsAsCovered, IsNeverPast, IsRideBefore, KeepsPromise, LawOfPlaces, LawOfRides}
use Rattle.sdm_cases.proofs.Journeys.{plain_band, plain_national, plain_train_and_track}
use Rattle.sdm_cases.proofs.Openings.{opening_situation, situation_in, situation_with}
use Rattle.sdm_cases.proofs.RideLine.{authority, braking_step, delays, delays_held, delays_held_at_once, line_open, ride_line}
use Rattle.sdm_cases.proofs.StopCases.{plain_slopes}
use Rattle.sdm_cases.proofs.TakeOverCases.{none_in}

-- ---- the data before and after

abbrev old_line : TrainAndTrack
old_line = ride_line (pos 0) (pos 0)

abbrev new_line : TrainAndTrack
new_line = ride_line (pos 2) (pos 5)

abbrev before : Supervision
before = opening old_line authority

abbrev next : Supervision
next = opening new_line authority

-- ---- the readings, with the max safe front end 10 cm and 8 cm before the SvL

unfoldable first : OdometerReading
first = record {
  time = 0;
  est = pos 5_340_600_000_000;
  min = pos 5_340_600_000_000;
  max = pos 5_346_000_000_000;
  speed = 5_400;
  accel = pos 0;
  under = 5_400;
}

unfoldable second : OdometerReading
second = record {
  time = 1;
  est = pos 5_351_400_000_000;
  min = pos 5_351_400_000_000;
  max = pos 5_356_800_000_000;
  speed = 5_400;
  accel = pos 0;
  under = 5_400;
}

abbrev between : Supervision
between = after_reading before first

abbrev changed : Supervision
changed = taken_over next between

abbrev later : Supervision
later = after_reading changed second

-- ---- their rows

first_covered : (row_of before first).covered ≡ true
unfolding ride_line plain_train_and_track plain_national plain_band first row_in situation_with targets_of mrsp
    is_covered_in limits_of release_start reaction_times slopes_of slope_at stepped place_at corner arc arc_back back
first_covered = ap (λ now. is_covered_in old_line first now) (opening_situation old_line authority first) ∙ refl

first_free : is_ordered (row_of before first) ≡ false
unfolding ride_line plain_train_and_track plain_national plain_band first row_in situation_with targets_of mrsp
    is_covered_in state_in commands_in commands_after emergency_after triggers_of limits_of release_start
    reaction_times slopes_of slope_at stepped place_at corner arc arc_back back
first_free =
    ap (λ now. is_ordered (row_in old_line nothing_held first now)) (opening_situation old_line authority first) ∙ refl

-- what is held over the change
held_over : changed.commands
    ≡ commands_in old_line nothing_held first (situation_with old_line authority [] first)
unfolding after_reading
held_over = ap (λ now. commands_in old_line nothing_held first now) (opening_situation old_line authority first)

-- no restriction is in force
unrestricted : take_over_fault next.train_and_track.track.length_cm between.restrictions ≡ None
unfolding after_reading
unrestricted = rw none_in refl

second_covered : (row_of changed second).covered ≡ true
unfolding ride_line plain_train_and_track plain_national plain_band second row_in situation_with targets_of mrsp
    is_covered_in limits_of release_start reaction_times slopes_of slope_at stepped place_at corner arc arc_back back
    after_reading
second_covered = ap (λ now. is_covered_in new_line second now) (situation_in changed second refl) ∙ refl

second_free : is_ordered (row_of changed second) ≡ false
unfolding ride_line plain_train_and_track plain_national plain_band first second row_in situation_with targets_of mrsp
    is_covered_in state_in commands_in commands_after emergency_after triggers_of limits_of release_start
    reaction_times slopes_of slope_at stepped place_at corner arc arc_back back after_reading
second_free =
    ap (λ now. is_ordered (row_in new_line changed.commands second now)) (situation_in changed second refl)
    ∙ ap (λ (held : Held). is_ordered (row_in new_line held second (situation_with new_line authority [] second)))
    held_over ∙ refl

-- ---- what happens

abbrev start : Moment
start = record {
  supervision = before;
  place = pos 5_346_000_000_000;
  speed = 10_800;
  silence = 0;
  order = None;
  promise = None;
}

-- the promises of both readings, so many ticks ago
abbrev old_promise : ℕ → Promise
old_promise age = record { under = before; reading = first; age = age }

abbrev new_promise : ℕ → Promise
new_promise age = record { under = changed; reading = second; age = age }

abbrev moment : Supervision → ℤ → ℕ → ℕ → Option ℕ → Promise → Moment
moment s place speed silence order c = record {
  supervision = s;
  place = place;
  speed = speed;
  silence = silence;
  order = order;
  promise = Some c;
}

-- 2 cm a ds at 0.2 m/s; then 1.5 cm and 0.5 cm at 1 m/s²
abbrev runs : Happening
runs = Tick 10_800 10_800_000_000

abbrev silent : List Happening
silent = runs ∷ Overdue ∷ runs ∷ Overdue ∷ runs ∷ Overdue ∷ Tick 5_400 8_100_000_000 ∷ Overdue ∷ Tick 0 2_700_000_000 ∷ []

abbrev happenings : List Happening
happenings =
    Record (record_kinds.Read first) ∷ Change next ∷ runs ∷ Record (record_kinds.Read second) ∷ silent

to_first : after by_rows start (Record (record_kinds.Read first))
    ≡ moment between (pos 5_346_000_000_000) 10_800 0 None (old_promise 0)
unfolding after step
to_first =
    ap (λ (b : Bool). record {
      supervision = between;
      place = pos 5_346_000_000_000;
      speed = 10_800;
      silence = 0;
      order = if is_ordered (row_of before first) then Some 0 else None;
      promise = if b then Some (old_promise 0) else if is_ordered (row_of before first) then None else None;
    }) first_covered
    ∙ ap (λ (b : Bool). moment between (pos 5_346_000_000_000) 10_800 0 (if b then Some 0 else None) (old_promise 0))
    first_free

to_change : after by_rows (moment between (pos 5_346_000_000_000) 10_800 0 None (old_promise 0)) (Change next)
    ≡ moment changed (pos 5_346_000_000_000) 10_800 0 None (old_promise 0)
unfolding after change
to_change =
    ap (λ f. after_change (moment between (pos 5_346_000_000_000) 10_800 0 None (old_promise 0))
    (unless_refused f changed)) unrestricted

to_second : after by_rows (moment changed (pos 5_356_800_000_000) 10_800 1 None (old_promise 1))
    (Record (record_kinds.Read second))
    ≡ moment later (pos 5_356_800_000_000) 10_800 0 None (new_promise 0)
unfolding after step after_reading first second
to_second =
    ap (λ (b : Bool). record {
      supervision = later;
      place = pos 5_356_800_000_000;
      speed = 10_800;
      silence = 0;
      order = if is_ordered (row_of changed second) then Some 0 else None;
      promise = if b then Some (new_promise 0)
          else if is_ordered (row_of changed second) then Some (old_promise 1) else None;
    }) second_covered
    ∙ ap (λ (b : Bool). moment later (pos 5_356_800_000_000) 10_800 0 (if b then Some 0 else None) (new_promise 0))
    second_free

-- ---- a ride by orders that work in time

abbrev MayGoOn : Moment → Happening → Type 0
MayGoOn m h = MayHappen by_rows (IsByTimelyOrders (delays 1) 1) 1 m h

-- a ride from a moment on, all of whose authorities end at 1000 cm
record Going (m : Moment) (hs : List Happening) : Type 0 where
  ride : IsRide by_rows (IsByTimelyOrders (delays 1) 1) 1 m hs
  authorities : All (λ n. EndsBy 1000 n.supervision.authority) (moments by_rows m hs)

go : (m m' : Moment) (h : Happening) (hs : List Happening) → after by_rows m h ≡ m' → MayGoOn m h →
    EndsBy 1000 m'.supervision.authority → Going m' hs →
    Going m (h ∷ hs)
go m m' h hs e may ends rest = record {
  ride = (may, subst (λ n. IsRide by_rows (IsByTimelyOrders (delays 1) 1) 1 n hs) (sym e) rest.ride);
  authorities = All-cons (λ n. EndsBy 1000 n.supervision.authority) (after by_rows m h)
      (moments by_rows (after by_rows m h) hs)
      (subst (λ (n : Moment). EndsBy 1000 n.supervision.authority) (sym e) ends)
      (subst (λ (n : Moment). All (λ n. EndsBy 1000 n.supervision.authority) (moments by_rows n hs)) (sym e)
      rest.authorities);
}

-- a tick by the orders is one in time, under either promise
old_timely : (age : ℕ) (m : Moment) (to length : ℕ) → m.promise ≡ Some (old_promise age) →
    IsByOrders (delays 1) 1 (old_promise age) m to length → MayGoOn m (Tick to length)
unfolding first
old_timely age m to length is by = λ c e.
    subst (λ (c : Promise). IsByTimelyOrders (delays 1) 1 c m to length) (same_Some _ c (sym is ∙ e))
    (record { times = delays_held_at_once (pos 0) authority first age (omega arith); orders = by })

new_timely : (age : ℕ) (m : Moment) (to length : ℕ) → m.promise ≡ Some (new_promise age) →
    IsByOrders (delays 1) 1 (new_promise age) m to length → MayGoOn m (Tick to length)
new_timely age m to length is by = λ c e.
    let times = delays_held (pos 5) authority second age in
    subst (λ (c : Promise). IsByTimelyOrders (delays 1) 1 c m to length) (same_Some _ c (sym is ∙ e))
    (record { times = record { traction = times.traction; emergency = times.emergency }; orders = by })

-- before the brake works the train runs on
runs_before : MayGoOn (moment changed (pos 5_346_000_000_000) 10_800 0 None (old_promise 0)) runs
unfolding first
runs_before = old_timely 0 _ _ _ refl (record {
  in_time = omega arith;
  traction = record { gains = omega arith; moves = omega arith };
  cut_off = λ o is long. absurd (none-some o is);
  brakes = λ o is long. absurd (none-some o is);
})

runs_after : (place : ℤ) (age : ℕ) (order : Option ℕ) → ((o : ℕ) → order ≡ Some o → o < 2) →
    MayGoOn (moment later place 10_800 0 order (new_promise age)) runs
unfolding second
runs_after place age order early = new_timely age _ _ _ refl (record {
  in_time = omega arith;
  traction = record { gains = omega arith; moves = omega arith };
  cut_off = λ o is long. record { gains = omega arith; moves = omega arith };
  brakes = λ o is long. absurd (omega (arith, early o is));
})

-- once it works it brakes
brakes_after : (place : ℤ) (v to length age : ℕ) (order : Option ℕ) → IsTick 0 v to length →
    BrakesAtLeast plain_slopes 200_000_000_000 place (v * v) (place +ℤ pos length) (to * to) →
    MayGoOn (moment later place v 0 order (new_promise age)) (Tick to length)
unfolding second
brakes_after place v to length age order tick enough = new_timely age _ _ _ refl (record {
  in_time = omega arith;
  traction = tick;
  cut_off = λ o is long. tick;
  brakes = λ o is long. ([], braking_step (pos 2) (pos 5) _ _ enough);
})

ends_between : EndsBy 1000 between.authority
unfolding after_reading
ends_between = (omega arith, refl)

ends_later : EndsBy 1000 later.authority
unfolding after_reading
ends_later = (omega arith, refl)

-- a missing reading
misses : (place : ℤ) (v age : ℕ) (order : Option ℕ) (o : ℕ) (hs : List Happening) →
    after by_rows (moment later place v 1 order (new_promise age)) Overdue
    ≡ moment later place v 0 (Some o) (new_promise age) →
    Going (moment later place v 0 (Some o) (new_promise age)) hs →
    Going (moment later place v 1 order (new_promise age)) (Overdue ∷ hs)
misses place v age order o hs e rest = go _ _ Overdue hs e tt ends_later rest

-- from the second reading on
silence_rides : Going (moment later (pos 5_356_800_000_000) 10_800 0 None (new_promise 0)) silent
unfolding after plain_slopes
silence_rides =
    go _ (moment later (pos 5_367_600_000_000) 10_800 1 None (new_promise 1)) runs _ refl
    (runs_after (pos 5_356_800_000_000) 0 None (λ o e. absurd (none-some o e))) ends_later
    (misses (pos 5_367_600_000_000) 10_800 1 None 0 _ refl
    (go _ (moment later (pos 5_378_400_000_000) 10_800 1 (Some 1) (new_promise 2)) runs _ refl
    (runs_after (pos 5_367_600_000_000) 1 (Some 0) (λ o e. subst (λ k. k < 2) (same_Some 0 o e) (omega arith)))
    ends_later
    (misses (pos 5_378_400_000_000) 10_800 2 (Some 1) 1 _ refl
    (go _ (moment later (pos 5_389_200_000_000) 10_800 1 (Some 2) (new_promise 3)) runs _ refl
    (runs_after (pos 5_378_400_000_000) 2 (Some 1) (λ o e. subst (λ k. k < 2) (same_Some 1 o e) (omega arith)))
    ends_later
    (misses (pos 5_389_200_000_000) 10_800 3 (Some 2) 2 _ refl
    (go _ (moment later (pos 5_397_300_000_000) 5_400 1 (Some 3) (new_promise 4)) (Tick 5_400 8_100_000_000) _ refl
    (brakes_after (pos 5_389_200_000_000) 10_800 5_400 8_100_000_000 3 (Some 2)
    (record { gains = omega arith; moves = omega arith })
    (record { forward = omega (arith, ints); slower = omega arith; enough = omega (arith, ints) })) ends_later
    (misses (pos 5_397_300_000_000) 5_400 4 (Some 3) 3 _ refl
    (go _ (moment later (pos 5_400_000_000_000) 0 1 (Some 4) (new_promise 5)) (Tick 0 2_700_000_000) [] refl
    (brakes_after (pos 5_397_300_000_000) 5_400 0 2_700_000_000 4 (Some 3)
    (record { gains = omega arith; moves = omega arith })
    (record { forward = omega (arith, ints); slower = omega arith; enough = omega (arith, ints) })) ends_later
    (record { ride = tt; authorities = All-nil (λ (n : Moment). EndsBy 1000 n.supervision.authority) })))))))))

-- the second reading is true by the new data
second_told : IsTrueReading 1 (moment changed (pos 5_356_800_000_000) 10_800 1 None (old_promise 1)) second
unfolding after_reading ride_line plain_train_and_track plain_national second
second_told = record { front = omega (arith, ints); speed = omega arith }

goes : Going start happenings
unfolding after ride_line plain_train_and_track plain_national first
goes =
    go start (moment between (pos 5_346_000_000_000) 10_800 0 None (old_promise 0)) (Record (record_kinds.Read first)) _
    to_first (λ promises. record { front = omega (arith, ints); speed = omega arith }) ends_between
    (go (moment between (pos 5_346_000_000_000) 10_800 0 None (old_promise 0))
    (moment changed (pos 5_346_000_000_000) 10_800 0 None (old_promise 0)) (Change next) _
    to_change (line_open (pos 2) (pos 5)) (omega arith, refl)
    (go (moment changed (pos 5_346_000_000_000) 10_800 0 None (old_promise 0))
    (moment changed (pos 5_356_800_000_000) 10_800 1 None (old_promise 1)) runs _ refl runs_before (omega arith, refl)
    (go (moment changed (pos 5_356_800_000_000) 10_800 1 None (old_promise 1))
    (moment later (pos 5_356_800_000_000) 10_800 0 None (new_promise 0)) (Record (record_kinds.Read second)) silent
    to_second (λ promises. second_told) ends_later silence_rides)))

-- A RIDE WITH COVERED READINGS ON BOTH SIDES OF A CHANGE: all that the law of places asks for is true of it
a_ride : IsRideBefore by_rows (IsByTimelyOrders (delays 1) 1) 1 1000 start happenings
a_ride = record {
  start = record { is_open = line_open (pos 0) (pos 0); none = refl };
  ride = goes.ride;
  authorities = All-cons (λ n. EndsBy 1000 n.supervision.authority) start (moments by_rows start happenings)
      (omega arith, refl) goes.authorities;
}

-- ---- where it ends

from_second : last_moment by_rows start happenings
    ≡ last_moment by_rows (moment later (pos 5_356_800_000_000) 10_800 0 None (new_promise 0)) silent
unfolding after
from_second =
    ap (λ (m : Moment). last_moment by_rows m (Change next ∷ runs ∷ Record (record_kinds.Read second) ∷ silent)) to_first
    ∙ ap (λ (m : Moment). last_moment by_rows m (runs ∷ Record (record_kinds.Read second) ∷ silent)) to_change
    ∙ ap (λ (m : Moment). last_moment by_rows m silent) to_second

-- it stops at the SvL to the grain, by the promise of the second reading under the new data
stops : last_moment by_rows start happenings
    ≡ moment later (pos 5_400_000_000_000) 0 1 (Some 4) (new_promise 5)
unfolding after
stops = from_second ∙ refl

-- its thirteen moments
abbrev its_moments : List Moment
its_moments =
    moment between (pos 5_346_000_000_000) 10_800 0 None (old_promise 0)
    ∷ moment changed (pos 5_346_000_000_000) 10_800 0 None (old_promise 0)
    ∷ moment changed (pos 5_356_800_000_000) 10_800 1 None (old_promise 1)
    ∷ moment later (pos 5_356_800_000_000) 10_800 0 None (new_promise 0)
    ∷ moments by_rows (moment later (pos 5_356_800_000_000) 10_800 0 None (new_promise 0)) silent

moments_are : moments by_rows start happenings ≡ its_moments
unfolding after
moments_are =
    let m1 = moment between (pos 5_346_000_000_000) 10_800 0 None (old_promise 0) in
    let m2 = moment changed (pos 5_346_000_000_000) 10_800 0 None (old_promise 0) in
    let m3 = moment changed (pos 5_356_800_000_000) 10_800 1 None (old_promise 1) in
    ap (λ (m : Moment). m ∷ moments by_rows m (Change next ∷ runs ∷ Record (record_kinds.Read second) ∷ silent)) to_first
    ∙ ap (λ (m : Moment). m1 ∷ m ∷ moments by_rows m (runs ∷ Record (record_kinds.Read second) ∷ silent)) to_change
    ∙ ap (λ (m : Moment). m1 ∷ m2 ∷ m3 ∷ m ∷ moments by_rows m silent) to_second

-- by the law of places the last of them is at or before 1000 cm
stops_by_law : LawOfPlaces → (last_moment by_rows start happenings).place ≤ℤ pos 5_400_000_000_000
unfolding after
stops_by_law law =
    let all = subst (λ (ns : List Moment). IsNeverPast 1 1000 ns) moments_are
    (law.rows (delays 1) 1 1000 start happenings (omega arith) a_ride) in
    let by = all 12 start (omega arith) in
    subst (λ (m : Moment). m.place ≤ℤ pos 5_400_000_000_000) (sym from_second) (omega (arith, ints, by))

-- and by the law of rides what the second reading promised is true of it
kept_by_law : LawOfRides → (last_moment by_rows start happenings).place ≤ℤ pos 5_400_000_000_000
unfolding after
kept_by_law law =
    let all = subst (λ (ns : List Moment). All (KeepsPromise IsAsCovered 1) ns) moments_are
    (law.rows (delays 1) 1 start happenings (omega arith) a_ride.start a_ride.ride) in
    let by = (all 12 start (omega arith) (new_promise 5) refl).stops 1000 1000 0 refl in
    subst (λ (m : Moment). m.place ≤ℤ pos 5_400_000_000_000) (sym from_second) (omega (arith, ints, by))
