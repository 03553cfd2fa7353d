-- Rides by the orders: the reading of the promise that stands is at most a period older than the first order after it,
-- so what an order makes the train do in time is what the clock asks.
use Rattle.std.proofs.Common.{◌≡◌, ℕ, suc, List, [], ◌∷◌, ◌+◌, ◌*◌, ◌<◌, ◌≤◌, Option, Some, None, refl, subst, sym}
use Rattle.std.proofs.Common.{arith, inl, inr}
use Rattle.std.specs.Prelude.{IfOk, Result, Ok, Err, option_map, Bool, true, false, if◌then◌else◌}
use Rattle.std.proofs.lemmas.Bool.{cases_lt}
use Rattle.std.proofs.lemmas.Option.{none-some, same_Some}
use Rattle.std.proofs.Math.Nat.{mul-le-mul_left}
use Rattle.sdm_num.specs.Readings.{OdometerReading}
use Rattle.sdm_rules.specs.declared.faults.EventCause.{EventCause}
use Rattle.sdm_rules.specs.declared.faults.TakeOverFault.{TakeOverFault}
use Rattle.sdm_rules.specs.declared.records.Event.{Event}
use Rattle.sdm_rules.specs.declared.records.Event.TheVariants as record_kinds
use Rattle.sdm_rules.specs.Records.{step}
use Rattle.sdm_rules.specs.Supervision.{Supervision, after_reading}
use Rattle.sdm_rules.specs.TakeOver.{change}
use Rattle.sdm_laws.proofs.Rows.Headline.{over_kinds}
use Rattle.sdm_ride.specs.Happenings.{Happening, Record, Unread, Overdue, Change, Tick}
use Rattle.sdm_ride.specs.Moments.{Judging, Moment, Promise, after, after_change, after_record, after_taken, aged}
use Rattle.sdm_ride.specs.Moments.{by_free_rows, by_rows, by_svl, ordered, promise_after}
use Rattle.sdm_ride.specs.Rides.{Delays, IsByClock, IsByTimelyOrders, IsRide, IsTick, MayHappen, start_of}
use Rattle.sdm_ride.specs.RideLaws.{AreKeptByClock, AreKeptByOrders, IsAsCovered, IsAsFree, IsByItsSvl, LawOfClocks}
use Rattle.sdm_ride.specs.RideLaws.{LawOfRides, Promised}
use Rattle.sdm_ride.proofs.Promises.{mapped, timed_rides}

-- ---- what an order does in time

-- the reading of the promise is no older than the silence, or at most a period older than the order
pub record IsTimely (w : Delays) (s silence : ℕ) (order : Option ℕ) (c : Promise) : Type 0 where
  pub heard : silence ≤ s * w.period
  pub none : order ≡ None → c.age ≤ silence
  pub some : (o : ℕ) → order ≡ Some o → c.age ≤ s * w.period + o

-- times at a scale
too_old : (s p c k t age silence : ℕ) → p + c + k ≤ t → s * t ≤ age → silence < s * p → age ≤ silence → ⊥
too_old s p c k t age silence h from quiet le = omega (arith, mul-le-mul_left s h)

order_works : (s p c k t age o : ℕ) → p + c + k ≤ t → s * t ≤ age → age ≤ s * p + o → s * (c + k) ≤ o
order_works s p c k t age o h from le = omega (arith, mul-le-mul_left s h)

-- an order that has stood long enough
pub record IsOrdered (s c k : ℕ) (order : Option ℕ) : Type 0 where
  pub since : ℕ
  pub is : order ≡ Some since
  pub long : s * (c + k) ≤ since

-- one has from the time on that holds the delays
pub long_ordered : (s p c k t age silence : ℕ) (order : Option ℕ) → p + c + k ≤ t → s * t ≤ age → silence < s * p →
    (order ≡ None → age ≤ silence) →
    ((o : ℕ) → order ≡ Some o → age ≤ s * p + o) → IsOrdered s c k order
long_ordered s p c k t age silence None h from quiet none some =
    absurd (too_old s p c k t age silence h from quiet (none refl))
long_ordered s p c k t age silence (Some o) h from quiet none some =
    record { since = o; is = refl; long = order_works s p c k t age o h from (some o refl) }

-- what a tick may gain by one acceleration it may gain by a greater one
gains_more : (a b v to length : ℕ) → a ≤ b → IsTick a v to length → IsTick b v to length
gains_more a b v to length le tick = let gains = tick.gains in record { gains = omega arith; moves = tick.moves }

-- a tick by the orders is one by the clock
by_clock : (w : Delays) (s : ℕ) (c : Promise) (m : Moment) (to length : ℕ) → IsTimely w s m.silence m.order c →
    IsByTimelyOrders w s c m to length → IsByClock s c m to length
by_clock w s c m to length timely h =
    let by = h.orders in
    let start = start_of c in
    record {
      traction = λ _. by.traction;
      build = λ from _. elim (cases_lt start.accel2 start.accel1) [
        | inl lower ↦ (
            let o = long_ordered s w.period w.latency w.cut_off start.traction c.age m.silence m.order
            (h.times.traction lower) from by.in_time timely.none timely.some in
            by.cut_off o.since o.is o.long)
        | inr same ↦ gains_more start.accel1 start.accel2 m.speed to length same by.traction
      ];
      brakes = λ from.
          let o = long_ordered s w.period w.latency w.build_up (start.traction + start.berem) c.age m.silence m.order
          h.times.emergency from by.in_time timely.none timely.some in
          by.brakes o.since o.is o.long;
    }

-- ---- along the ride

-- the reading of the promise that stands is timely
abbrev pub AreTimely : Delays → ℕ → Moment → Type 0
AreTimely w s m = (c : Promise) → m.promise ≡ Some c → IsTimely w s m.silence m.order c

-- an order after any silence keeps it timely
pub order_timely : (w : Delays) (s silence : ℕ) (order : Option ℕ) (c : Promise) → IsTimely w s silence order c →
    IsTimely w s 0 (ordered order) c
order_timely w s silence None c h =
    let heard = h.heard in
    let age = h.none refl in
    record {
      heard = omega arith;
      none = λ n. absurd (none-some _ (sym n));
      some = λ o is. omega arith;
    }
order_timely w s silence (Some o) c h =
    record { heard = omega arith; none = λ n. absurd (none-some _ (sym n)); some = h.some }

-- a tick in time keeps it timely
pub tick_timely : (w : Delays) (s silence : ℕ) (order : Option ℕ) (c : Promise) → silence < s * w.period →
    IsTimely w s silence order c →
    IsTimely w s (suc silence) (option_map (λ o. suc o) order) (aged c)
tick_timely w s silence order c quiet h = record {
  heard = omega arith;
  none = λ n. let age = h.none (unmapped order n) in omega arith;
  some = λ o is.
      let x = mapped (λ o. suc o) order o is in
      let age = h.some x.0 x.1 in
      let e = x.2 in
      omega arith;
}
  where
    unmapped : (o : Option ℕ) → option_map (λ o. suc o) o ≡ None → o ≡ None
    unmapped None n = refl
    unmapped (Some o) n = absurd (none-some _ (sym n))

-- a new promise is timely
new_timely : (w : Delays) (s : ℕ) (order : Option ℕ) (c : Promise) → c.age ≡ 0 → IsTimely w s 0 order c
new_timely w s order c new =
    record { heard = omega arith; none = λ _. omega arith; some = λ o is. omega arith }

-- the promise after a reading is timely
pub read_timely_if : (w : Delays) (s silence : ℕ) (order : Option ℕ) (promises orders : Bool) (new : Promise)
    (last : Option Promise) (c : Promise) → new.age ≡ 0 →
    ((c : Promise) → last ≡ Some c → IsTimely w s silence order c) →
    promise_after promises orders new last ≡ Some c →
    IsTimely w s 0 (if orders then ordered order else None) c
read_timely_if w s silence order true orders new last c age h e =
    subst (λ (y : Promise). IsTimely w s 0 (if orders then ordered order else None) y) (same_Some _ _ e)
    (new_timely w s _ new age)
read_timely_if w s silence order false true new last c age h e = order_timely w s silence order c (h c e)
read_timely_if w s silence order false false new last c age h e = absurd (none-some c e)

module _ (j : Judging) (w : Delays) (s : ℕ) where
  -- after a reading
  read_timely : (m : Moment) (r : OdometerReading) → AreTimely w s m →
      AreTimely w s (after_taken j m (record_kinds.Read r) (after_reading m.supervision r))
  unfolding after_reading
  read_timely m r h = λ c e.
      let under = m.supervision in
      read_timely_if w s m.silence m.order (j.promises under r) (j.orders under r)
      (record { under = under; reading = r; age = 0 }) m.promise c refl h e

  -- after a record that is taken
  taken_timely : (m : Moment) (e : Event) → AreTimely w s m →
      IfOk (step m.supervision e) (λ t. AreTimely w s (after_taken j m e t))
  taken_timely m e h =
      over_kinds (λ e t. AreTimely w s (after_taken j m e t)) m.supervision (λ r. read_timely m r h) (λ a. h)
      (λ eoa svl trip none. h) (λ r. h) (λ id. h) e

  -- after a record
  record_timely : (m : Moment) (e : Event) (t : Result Supervision EventCause) →
      AreTimely w s m → IfOk t (λ t. AreTimely w s (after_taken j m e t)) →
      AreTimely w s (after_record j m e t)
  record_timely m e (Ok t) h k = k
  record_timely m e (Err cause) h k = h

  -- after a change of data
  change_timely : (m : Moment) (t : Result Supervision TakeOverFault) → AreTimely w s m →
      AreTimely w s (after_change m t)
  change_timely m (Ok t) h = h
  change_timely m (Err fault) h = h

  -- after whatever happens
  goes_timely : (m : Moment) (h : Happening) → AreTimely w s m → MayHappen j (IsByTimelyOrders w s) s m h →
      AreTimely w s (after j m h)
  unfolding after
  goes_timely m (Record e) h may = record_timely m e (step m.supervision e) h (taken_timely m e h)
  goes_timely m Unread h may = h
  goes_timely m Overdue h may = λ c e. order_timely w s m.silence m.order c (h c e)
  goes_timely m (Change next) h may = change_timely m (change next m.supervision) h
  goes_timely m (Tick to length) h may = λ c e.
      let x = mapped aged m.promise c e in
      subst (λ (y : Promise). IsTimely w s (suc m.silence) (option_map (λ o. suc o) m.order) y) (sym x.2)
      (tick_timely w s m.silence m.order x.0 (may x.0 x.1).orders.in_time (h x.0 x.1))

  -- what may happen by the orders may happen by the clock
  may_by_clock : (m : Moment) (h : Happening) → AreTimely w s m → MayHappen j (IsByTimelyOrders w s) s m h →
      MayHappen j (IsByClock s) s m h
  may_by_clock m (Record e) h may = may
  may_by_clock m Unread h may = tt
  may_by_clock m Overdue h may = tt
  may_by_clock m (Change next) h may = may
  may_by_clock m (Tick to length) h may = λ c e. by_clock w s c m to length (h c e) (may c e)

  -- so a ride by the orders is one by the clock
  ride_by_clock : (m : Moment) (hs : List Happening) → AreTimely w s m → IsRide j (IsByTimelyOrders w s) s m hs →
      IsRide j (IsByClock s) s m hs
  ride_by_clock m [] h ride = tt
  ride_by_clock m (x ∷ xs) h ride =
      (may_by_clock m x h ride.0, ride_by_clock (after j m x) xs (goes_timely m x h ride.0) ride.1)

-- the law of clocks: where no promise stands none is late
pub clocks : LawOfClocks
clocks j w s m hs none ride =
    ride_by_clock j w s m hs (λ c e. absurd (none-some c (subst (λ (o : Option Promise). o ≡ Some c) none e))) ride

-- what is kept by the clock is kept by the orders
pub kept_by_orders : (j : Judging) (what : Promised) → AreKeptByClock j what → AreKeptByOrders j what
kept_by_orders j what timed w s m hs s_pos start ride = timed s m hs s_pos start (clocks j w s m hs start.none ride)

-- the law of rides
pub rides : LawOfRides
rides = record {
  rows = kept_by_orders by_rows IsAsCovered timed_rides.rows;
  free_rows = kept_by_orders by_free_rows IsAsFree timed_rides.free_rows;
  svl = kept_by_orders by_svl IsByItsSvl timed_rides.svl;
}
