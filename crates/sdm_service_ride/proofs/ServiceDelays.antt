-- Rides under the service brake by the orders: the reading of the promise that stands is at most a period older than the
-- first order after it, so T_bs after the reading the brake works.
use Rattle.std.proofs.Common.{◌≡◌, ℕ, suc, List, [], ◌∷◌, ◌<◌, Option, Some, None, refl, subst, sym}
use Rattle.std.specs.Prelude.{All, IfOk, Result, Ok, Err, option_map, Bool, true, false, if◌then◌else◌}
use Rattle.std.proofs.lemmas.Option.{none-some}
use Rattle.std.proofs.lemmas.List.Elements.{All-weaker}
use Rattle.sdm_num.specs.Readings.{OdometerReading}
use Rattle.sdm_rules.specs.declared.faults.EventCause.{EventCause}
use Rattle.sdm_rules.specs.declared.faults.TakeOverFault.{TakeOverFault}
use Rattle.sdm_rules.specs.declared.records.Event.{Event}
use Rattle.sdm_rules.specs.declared.records.Event.TheVariants as record_kinds
use Rattle.sdm_rules.specs.Records.{step}
use Rattle.sdm_rules.specs.Supervision.{Supervision, after_reading, row_of}
use Rattle.sdm_rules.specs.TakeOver.{change}
use Rattle.sdm_laws.proofs.Rows.Headline.{over_kinds}
use Rattle.sdm_ride.specs.Happenings.{Happening, Record, Unread, Overdue, Change, Tick}
use Rattle.sdm_ride.specs.Moments.{Moment, Promise, after, after_change, after_record, after_taken, after_tick, aged}
use Rattle.sdm_ride.specs.Rides.{Delays}
use Rattle.sdm_ride.specs.RideLaws.{IsRideStart, KeepsPromise}
use Rattle.sdm_ride.proofs.Orders.{AreTimely, IsTimely, long_ordered, order_timely, read_timely_if, tick_timely}
use Rattle.sdm_ride.proofs.Promises.{mapped}
use Rattle.sdm_service_ride.specs.ServiceMoments.{Allowance, by_eoa, commands_brake, is_steady, no_allowance}
use Rattle.sdm_service_ride.specs.ServiceMoments.{promises_eoa, steady_after, steady_moments}
use Rattle.sdm_service_ride.specs.ServiceRides.{IsByServiceClock, IsByTimelyServiceOrders, IsServiceRide}
use Rattle.sdm_service_ride.specs.ServiceRides.{MayFollow, service_time}
use Rattle.sdm_service_ride.specs.ServiceRideLaws.{IsByItsEoa, LawOfAllowedRides, LawOfServiceRides, StaysClear}
use Rattle.sdm_service_ride.proofs.ServicePromises.{KeepsStops, clear_kept, eoa_kept, stops_kept}

-- a tick by the orders is one by the clock
by_clock : (w : Delays) (s : ℕ) (c : Promise) (m : Moment) (to length : ℕ) → IsTimely w s m.silence m.order c →
    IsByTimelyServiceOrders w s c m to length → IsByServiceClock s c m to length
by_clock w s c m to length timely h = record {
  moves = h.orders.moves;
  brakes = λ from.
      let o = long_ordered s w.period w.latency w.build_up (service_time c) c.age m.silence m.order h.times from
      h.orders.in_time timely.none timely.some in
      h.orders.brakes o.since o.is o.long;
}

module _ (w : Delays) (a : Allowance) (s : ℕ) where
  -- after a reading
  read_timely : (m : Moment) (r : OdometerReading) → AreTimely w s m →
      AreTimely w s (after_taken by_eoa m (record_kinds.Read r) (after_reading m.supervision r))
  unfolding after_reading
  read_timely m r h = λ c e.
      let under = m.supervision in
      read_timely_if w s m.silence m.order (promises_eoa under r) (commands_brake (row_of under r))
      (record { under = under; reading = r; age = 0 }) m.promise c refl h e

  -- after a record that is taken
  taken_timely : (m : Moment) (e : Event) → AreTimely w s m →
      IfOk (step m.supervision e) (λ t. AreTimely w s (after_taken by_eoa m e t))
  taken_timely m e h =
      over_kinds (λ e t. AreTimely w s (after_taken by_eoa m e t)) m.supervision (λ r. read_timely m r h) (λ x. h)
      (λ eoa svl trip none. h) (λ r. h) (λ id. h) e

  -- after a record
  record_timely : (m : Moment) (e : Event) (t : Result Supervision EventCause) → AreTimely w s m →
      IfOk t (λ t. AreTimely w s (after_taken by_eoa m e t)) →
      AreTimely w s (after_record by_eoa m e t)
  record_timely m e (Ok t) h k = k
  record_timely m e (Err cause) h k = h

  -- after a change of data
  change_timely : (m : Moment) (t : Result Supervision TakeOverFault) → AreTimely w s m →
      AreTimely w s (after_change m t)
  change_timely m (Ok t) h = h
  change_timely m (Err fault) h = h

  -- after a tick, which may end the promise
  tick_timely_if : (m : Moment) (to length : ℕ) (steady : Bool) → AreTimely w s m →
      MayFollow (IsByTimelyServiceOrders w s) a s m (Tick to length) →
      AreTimely w s (let next = after_tick m to length in if steady then next else record next { promise = None })
  tick_timely_if m to length false h may = λ c e. absurd (none-some c e)
  tick_timely_if m to length true h may = λ c e.
      let x = mapped aged m.promise c e in
      subst (λ (y : Promise). IsTimely w s (suc m.silence) (option_map (λ o. suc o) m.order) y) (sym x.2)
      (tick_timely w s m.silence m.order x.0 (may x.0 x.1).orders.in_time (h x.0 x.1))

  -- after whatever happens
  goes_timely : (m : Moment) (h : Happening) → AreTimely w s m → MayFollow (IsByTimelyServiceOrders w s) a s m h →
      AreTimely w s (steady_after a m h)
  unfolding after
  goes_timely m (Record e) h may = record_timely m e (step m.supervision e) h (taken_timely m e h)
  goes_timely m Unread h may = h
  goes_timely m Overdue h may = λ c e. order_timely w s m.silence m.order c (h c e)
  goes_timely m (Change next) h may = change_timely m (change next m.supervision) h
  goes_timely m (Tick to length) h may = tick_timely_if m to length (is_steady a m (Tick to length)) h may

  -- what may happen by the orders may happen by the clock
  may_by_clock : (m : Moment) (h : Happening) → AreTimely w s m → MayFollow (IsByTimelyServiceOrders w s) a s m h →
      MayFollow (IsByServiceClock s) a s m h
  may_by_clock m (Record e) h may = may
  may_by_clock m Unread h may = tt
  may_by_clock m Overdue h may = tt
  may_by_clock m (Change next) h may = may
  may_by_clock m (Tick to length) h may = λ c e. by_clock w s c m to length (h c e) (may c e)

  -- so a ride by the orders is one by the clock
  ride_by_clock : (m : Moment) (hs : List Happening) → AreTimely w s m →
      IsServiceRide (IsByTimelyServiceOrders w s) a s m hs →
      IsServiceRide (IsByServiceClock s) a s m hs
  ride_by_clock m [] h ride = tt
  ride_by_clock m (x ∷ xs) h ride =
      (may_by_clock m x h ride.0, ride_by_clock (steady_after a m x) xs (goes_timely m x h ride.0) ride.1)

-- every ride by the orders keeps each place by which every motion from the reading of its promise stops
stops_by_orders : (w : Delays) (a : Allowance) (s : ℕ) (m : Moment) (hs : List Happening) → 0 < s → IsRideStart m →
    IsServiceRide (IsByTimelyServiceOrders w s) a s m hs →
    All (KeepsStops a s) (steady_moments a m hs)
stops_by_orders w a s m hs s_pos start ride =
    stops_kept a s s_pos m hs start (ride_by_clock w a s m hs
    (λ c e. absurd (none-some c (subst (λ (o : Option Promise). o ≡ Some c) start.none e))) ride)

-- THE RIDE OF THE SERVICE BRAKE
pub service_rides : LawOfServiceRides
service_rides w s m hs s_pos start ride =
    All-weaker (KeepsStops no_allowance s) (KeepsPromise IsByItsEoa s) (λ n h. eoa_kept s n h)
    (steady_moments no_allowance m hs) (stops_by_orders w no_allowance s m hs s_pos start ride)

-- with an allowance
pub allowed_rides : LawOfAllowedRides
allowed_rides w a s m hs s_pos start ride =
    All-weaker (KeepsStops a s) (StaysClear a s) (λ n h. clear_kept a s n h) (steady_moments a m hs)
    (stops_by_orders w a s m hs s_pos start ride)
