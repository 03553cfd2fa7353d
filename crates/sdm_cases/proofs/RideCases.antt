-- There are rides: a train that is read to run at 0.1 m/s, and may run 0.1 m/s faster, does so. Its reading 8 cm before
-- the SvL is covered and the next one, 0.1 s later, isn't; from then on readings are missing. The brake works 0.2 s
-- after the order, and the train stops at the SvL to the grain. It is the train of README, whose T_traction is 0, but for
-- an emergency time of 0.3 s: with none, no time passes in a ride while a promise stands.
use Rattle.std.proofs.Common.{◌≡◌, ℕ, ℤ, suc, pos, List, [], ◌∷◌, ◌+◌, ◌*◌, ◌<◌, ◌+ℤ◌, refl, subst}
use Rattle.std.proofs.Common.{sym, ap, ◌∙◌, arith}
use Rattle.std.specs.Prelude.{Option, Some, None}
use Rattle.std.proofs.lemmas.Int.{ints}
use Rattle.std.proofs.lemmas.Option.{none-some, same_Some}
use Rattle.std.proofs.lemmas.List.Elements.{All-nil, All-cons}
use Rattle.sdm_rules.specs.declared.records.Event.TheVariants as record_kinds
use Rattle.sdm_rules.specs.Motion.{BrakesAtLeast}
use Rattle.sdm_rules.specs.Supervision.{Supervision, after_reading}
use Rattle.sdm_ride.specs.Happenings.{Happening, Record, Overdue, Change, Tick}
use Rattle.sdm_ride.specs.Moments.{Moment, Promise, after, by_rows, moments}
use Rattle.sdm_ride.specs.Rides.{IsByOrders, IsByTimelyOrders, IsRide, IsTick, IsTrueReading, MayHappen, TickRule}
use Rattle.sdm_ride.specs.RideLaws.{EndsBy, IsRideBefore}
use Rattle.sdm_ride.specs.MotionRides.{last_moment}
use Rattle.sdm_cases.proofs.Journeys.{plain_national, plain_train_and_track}
use Rattle.sdm_cases.proofs.RideLine.{authority, braking_step, delays, delays_held_at_once}
use Rattle.sdm_cases.proofs.RideLine.{ride_line}
use Rattle.sdm_cases.proofs.StopCases.{plain_slopes}
use Rattle.sdm_cases.proofs.RideBeginning.{Allows, AreEnding, before, between, braked, brakes, changed, ends_between}
use Rattle.sdm_cases.proofs.RideBeginning.{ends_changed, ends_later, first, from_first, from_second, later, moment}
use Rattle.sdm_cases.proofs.RideBeginning.{next, next_open, over_a_change, runs, second, start, start_is_one, stops}
use Rattle.sdm_cases.proofs.RideBeginning.{to_change, to_first, to_second}

-- ---- from moment to moment

module _ (b : ℕ) (rule : TickRule) (allows : Allows b rule) where
  abbrev MayGoOn : Moment → Happening → Type 0
  MayGoOn m h = MayHappen by_rows rule 1 m h

  -- a ride from a moment on
  record Going (m : Moment) (hs : List Happening) : Type 0 where
    ride : IsRide by_rows rule 1 m hs
    authorities : AreEnding (moments by_rows m hs)

  nothing_more : (m : Moment) → Going m []
  nothing_more m = record { ride = tt; authorities = All-nil (λ (n : Moment). EndsBy 1000 n.supervision.authority) }

  -- a happening with the moment that it leads to
  go : (m m' : Moment) (h : Happening) (hs : List Happening) → after by_rows m h ≡ m' → MayGoOn m h →
      EndsBy 1000 m'.supervision.authority → Going m' hs →
      Going m (h ∷ hs)
  go m m' h hs e may ends rest = record {
    ride = (may, subst (λ n. IsRide by_rows rule 1 n hs) (sym e) rest.ride);
    authorities = All-cons (λ n. EndsBy 1000 n.supervision.authority) (after by_rows m h)
        (moments by_rows (after by_rows m h) hs)
        (subst (λ (n : Moment). EndsBy 1000 n.supervision.authority) (sym e) ends)
        (subst (λ n. AreEnding (moments by_rows n hs)) (sym e) rest.authorities);
  }

  -- a tick of running, before the brake works
  running : (s : Supervision) (place : ℤ) (age : ℕ) (order : Option ℕ) →
      ((o : ℕ) → order ≡ Some o → o < 1 + b) →
      MayGoOn (moment s place 10_800 0 age order) runs
  unfolding first
  running s place age order early = λ c e.
      subst (λ (c : Promise). rule c (moment s place 10_800 0 age order) 10_800 10_800_000_000) (same_Some _ c e)
      (allows age _ _ _ (record {
        in_time = omega arith;
        traction = record { gains = omega arith; moves = omega arith };
        cut_off = λ o is long. record { gains = omega arith; moves = omega arith };
        brakes = λ o is long. absurd (omega (arith, early o is));
      }))

  -- a tick of braking
  braking : (s : Supervision) (place : ℤ) (v to length age : ℕ) (order : Option ℕ) → IsTick 0 v to length →
      BrakesAtLeast plain_slopes 200_000_000_000 place (v * v) (place +ℤ pos length) (to * to) →
      MayGoOn (moment s place v 0 age order) (Tick to length)
  unfolding first
  braking s place v to length age order tick enough = λ c e.
      subst (λ (c : Promise). rule c (moment s place v 0 age order) to length) (same_Some _ c e)
      (allows age _ _ _ (record {
        in_time = omega arith;
        traction = tick;
        cut_off = λ o is long. tick;
        brakes = λ o is long. ([], braking_step (pos 0) (pos 0) _ _ enough);
      }))

  not_yet : (o : ℕ) → None ≡ Some o → o < 1 + b
  not_yet o e = absurd (none-some o e)

  still : (n : ℕ) → n < 1 + b → (o : ℕ) → Some n ≡ Some o → o < 1 + b
  still n lt o e = subst (λ k. k < 1 + b) (same_Some n o e) lt

  -- of a supervisor whose authority ends at 1000 cm
  module _ (t : Supervision) (ends : EndsBy 1000 t.authority) where
    -- from where the brake works, anywhere
    to_the_stop : (p : ℤ) (age o : ℕ) → Going (moment t p 10_800 0 age (Some o)) braked
    unfolding after plain_slopes
    to_the_stop p age o =
        let q = p +ℤ pos 8_100_000_000 in
        go (moment t p 10_800 0 age (Some o)) (moment t q 5_400 1 (suc age) (Some (suc o))) brakes
        (Overdue ∷ stops ∷ []) refl
        (braking t p 10_800 5_400 8_100_000_000 age (Some o) (record { gains = omega arith; moves = omega arith })
        (record { forward = omega (arith, ints); slower = omega arith; enough = omega (arith, ints) })) ends
        (go (moment t q 5_400 1 (suc age) (Some (suc o))) (moment t q 5_400 0 (suc age) (Some (suc o))) Overdue
        (stops ∷ []) refl tt ends
        (go (moment t q 5_400 0 (suc age) (Some (suc o)))
        (moment t (q +ℤ pos 2_700_000_000) 0 1 (suc (suc age)) (Some (suc (suc o)))) stops [] refl
        (braking t q 5_400 0 2_700_000_000 (suc age) (Some (suc o))
        (record { gains = omega arith; moves = omega arith })
        (record { forward = omega (arith, ints); slower = omega arith; enough = omega (arith, ints) })) ends
        (nothing_more _)))

    -- a ds of running and a missing reading
    runs_on : (p : ℤ) (age o : ℕ) (rest : List Happening) → o < 1 + b →
        Going (moment t (p +ℤ pos 10_800_000_000) 10_800 0 (suc age) (Some (suc o))) rest →
        Going (moment t p 10_800 0 age (Some o)) (runs ∷ Overdue ∷ rest)
    unfolding after
    runs_on p age o rest lt on =
        let q = p +ℤ pos 10_800_000_000 in
        go (moment t p 10_800 0 age (Some o)) (moment t q 10_800 1 (suc age) (Some (suc o))) runs
        (Overdue ∷ rest) refl (running t p age (Some o) (still o lt)) ends
        (go (moment t q 10_800 1 (suc age) (Some (suc o))) (moment t q 10_800 0 (suc age) (Some (suc o))) Overdue
        rest refl tt ends on)

  -- the second reading is true, too
  second_told : IsTrueReading 1 (moment between (pos 5_367_600_000_000) 10_800 1 1 None) second
  unfolding after_reading ride_line plain_train_and_track plain_national second
  second_told = record { front = omega (arith, ints); speed = omega arith }

  -- from the start
  goes : (rest : List Happening) → 0 < b →
      Going (moment later (pos 5_389_200_000_000) 10_800 0 3 (Some 2)) rest →
      Going start (from_first rest)
  unfolding after ride_line plain_train_and_track plain_national first second
  goes rest b_pos on =
      go start (moment between (pos 5_356_800_000_000) 10_800 0 0 None) (Record (record_kinds.Read first))
      (runs ∷ Record (record_kinds.Read second) ∷ from_second rest) to_first
      (λ promises. record { front = omega (arith, ints); speed = omega arith }) ends_between
      (go (moment between (pos 5_356_800_000_000) 10_800 0 0 None)
      (moment between (pos 5_367_600_000_000) 10_800 1 1 None) runs (Record (record_kinds.Read second) ∷ from_second rest)
      refl (running between (pos 5_356_800_000_000) 0 None not_yet) ends_between
      (go (moment between (pos 5_367_600_000_000) 10_800 1 1 None)
      (moment later (pos 5_367_600_000_000) 10_800 0 1 (Some 0)) (Record (record_kinds.Read second)) (from_second rest)
      to_second (λ promises. second_told) ends_later
      (runs_on later ends_later (pos 5_367_600_000_000) 1 0 (runs ∷ Overdue ∷ rest) (omega arith)
      (runs_on later ends_later (pos 5_378_400_000_000) 2 1 rest (omega arith) on))))

  -- the same over a change of data after the first reading, and with no second one
  goes_over : (rest : List Happening) → 0 < b →
      Going (moment changed (pos 5_389_200_000_000) 10_800 0 3 (Some 2)) rest →
      Going start (over_a_change rest)
  unfolding after ride_line plain_train_and_track plain_national first
  goes_over rest b_pos on =
      go start (moment between (pos 5_356_800_000_000) 10_800 0 0 None) (Record (record_kinds.Read first))
      (Change next ∷ runs ∷ Overdue ∷ from_second rest) to_first
      (λ promises. record { front = omega (arith, ints); speed = omega arith }) ends_between
      (go (moment between (pos 5_356_800_000_000) 10_800 0 0 None)
      (moment changed (pos 5_356_800_000_000) 10_800 0 0 None) (Change next) (runs ∷ Overdue ∷ from_second rest)
      to_change next_open ends_changed
      (go (moment changed (pos 5_356_800_000_000) 10_800 0 0 None)
      (moment changed (pos 5_367_600_000_000) 10_800 1 1 None) runs (Overdue ∷ from_second rest)
      refl (running changed (pos 5_356_800_000_000) 0 None not_yet) ends_changed
      (go (moment changed (pos 5_367_600_000_000) 10_800 1 1 None)
      (moment changed (pos 5_367_600_000_000) 10_800 0 1 (Some 0)) Overdue (from_second rest) refl tt ends_changed
      (runs_on changed ends_changed (pos 5_367_600_000_000) 1 0 (runs ∷ Overdue ∷ rest) (omega arith)
      (runs_on changed ends_changed (pos 5_378_400_000_000) 2 1 rest (omega arith) on)))))

-- by orders that work in time
timely : Allows 1 (IsByTimelyOrders (delays 1) 1)
unfolding first
timely age m to length by =
    record { times = delays_held_at_once (pos 0) authority first age (omega arith); orders = by }

-- A RIDE before 1000 cm: all that the law of places asks for is true of it
a_ride : IsRideBefore by_rows (IsByTimelyOrders (delays 1) 1) 1 1000 start (from_first braked)
a_ride =
    let rule = IsByTimelyOrders (delays 1) 1 in
    let g = goes 1 rule timely braked (omega arith) (to_the_stop 1 rule timely later ends_later (pos 5_389_200_000_000) 3 2) in
    record {
      start = start_is_one;
      ride = g.ride;
      authorities = All-cons (λ n. EndsBy 1000 n.supervision.authority) start
          (moments by_rows start (from_first braked)) (omega arith, refl) g.authorities;
    }

-- A RIDE OVER A CHANGE OF DATA before 1000 cm
a_changed_ride : IsRideBefore by_rows (IsByTimelyOrders (delays 1) 1) 1 1000 start (over_a_change braked)
a_changed_ride =
    let rule = IsByTimelyOrders (delays 1) 1 in
    let g = goes_over 1 rule timely braked (omega arith)
    (to_the_stop 1 rule timely changed ends_changed (pos 5_389_200_000_000) 3 2) in
    record {
      start = start_is_one;
      ride = g.ride;
      authorities = All-cons (λ n. EndsBy 1000 n.supervision.authority) start
          (moments by_rows start (over_a_change braked)) (omega arith, refl) g.authorities;
    }

-- THE SAME with a brake that works 1 ds later is a ride by the orders, too
a_late_ride : IsRide by_rows (IsByOrders (delays 2) 1) 1 start (from_first (runs ∷ Overdue ∷ braked))
a_late_ride =
    let rule = IsByOrders (delays 2) 1 in
    let allows : Allows 2 rule = λ age m to length by. by in
    (goes 2 rule allows (runs ∷ Overdue ∷ braked) (omega arith)
    (runs_on 2 rule allows later ends_later (pos 5_389_200_000_000) 3 2 braked (omega arith)
    (to_the_stop 2 rule allows later ends_later (pos 5_400_000_000_000) 4 3))).ride

-- ---- where they end

from_the_start : (rest : List Happening) → (last_moment by_rows start (from_first rest)).place
    ≡ (last_moment by_rows (moment later (pos 5_389_200_000_000) 10_800 0 3 (Some 2)) rest).place
unfolding after
from_the_start rest =
    ap (λ (m : Moment).
    (last_moment by_rows m (runs ∷ Record (record_kinds.Read second) ∷ from_second rest)).place) to_first
    ∙ ap (λ (m : Moment). (last_moment by_rows m (from_second rest)).place) to_second

-- the first at the SvL, to the grain
stops_at_the_svl : (last_moment by_rows start (from_first braked)).place ≡ pos 5_400_000_000_000
unfolding after
stops_at_the_svl = from_the_start braked ∙ refl

-- and the late one 2 cm past it: the times that were handed in must hold the delays
passes_the_svl : (last_moment by_rows start (from_first (runs ∷ Overdue ∷ braked))).place ≡ pos 5_410_800_000_000
unfolding after
passes_the_svl = from_the_start (runs ∷ Overdue ∷ braked) ∙ refl

-- over the change at the SvL of the first reading, to the grain
changed_stops_at_the_svl : (last_moment by_rows start (over_a_change braked)).place ≡ pos 5_400_000_000_000
unfolding after
changed_stops_at_the_svl =
    ap (λ (m : Moment). (last_moment by_rows m (Change next ∷ runs ∷ Overdue ∷ from_second braked)).place) to_first
    ∙ ap (λ (m : Moment). (last_moment by_rows m (runs ∷ Overdue ∷ from_second braked)).place) to_change

-- ---- what a tick may gain

-- a promise of a reading that may gain 1 m/s², at 0.2 m/s
abbrev gaining : Moment
gaining = record start {
  promise = Some (record { under = before; reading = record first { accel = pos 100 }; age = 0 });
}

-- before an order works, the train gains that in a tick, which is more than the 0.4 m/s² that count after the cut-off
gains_at_first : MayHappen by_rows (IsByOrders (delays 1) 1) 1 gaining (Tick 16_200 13_500_000_000)
unfolding first
gains_at_first = λ c e.
    subst (λ (c : Promise). IsByOrders (delays 1) 1 c gaining 16_200 13_500_000_000) (same_Some _ c e)
    (record {
      in_time = omega arith;
      traction = record { gains = omega arith; moves = omega arith };
      cut_off = λ o is long. absurd (none-some o is);
      brakes = λ o is long. absurd (none-some o is);
    })
