-- What must be true of a ride under the service brake: of the readings that promise the EOA, and of how the train moves
-- while such a promise stands (own).
use Rattle.std.specs.Prelude.{◌≡◌, ℕ, pos, ⊤, IsTrue, List, [], ◌∷◌, Some, ◌+◌, ◌*◌, ◌<◌, ◌≤◌, ◌*ℤ◌, ◌≤ℤ◌, ◌+ℤ◌}
use Rattle.sdm_num.specs.Readings.{OdometerReading}
use Rattle.sdm_rules.specs.declared.data.SlopeKind.TheVariants.{Expected}
use Rattle.sdm_rules.specs.declared.motions.Point.{Point}
use Rattle.sdm_rules.specs.declared.records.Event.{Event}
use Rattle.sdm_rules.specs.declared.records.Event.TheVariants as record_kinds
use Rattle.sdm_rules.specs.Decelerations.{slopes_of}
use Rattle.sdm_rules.specs.Opening.{IsOpen}
use Rattle.sdm_rules.specs.Reaction.{reaction_times}
use Rattle.sdm_ride.specs.Happenings.{Happening, Record, Unread, Overdue, Change, Tick}
use Rattle.sdm_ride.specs.Moments.{Moment, Promise, after_tick}
use Rattle.sdm_ride.specs.Rides.{BrakesBy, Delays, TickRule, point_of}
use Rattle.sdm_service_ride.specs.ServiceMoments.{Allowance, promises_eoa, steady_after}

-- ---- readings

-- the estimate is true, with the allowance: the true front end is at most the estimated one, the true speed at most
-- V_est (own)
pub record IsTrueEstimate (a : Allowance) (s : ℕ) (m : Moment) (r : OdometerReading) : Type 0 where
  pub front : m.place ≤ℤ (pos (s * s) *ℤ (r.est +ℤ pos a.front))
  pub speed : m.speed ≤ s * (r.speed + a.speed)

-- the estimate of a reading that promises the EOA is true; of no other record anything is asked (own)
abbrev pub IsEstimatedRecord : Allowance → ℕ → Moment → Event → Type 0
IsEstimatedRecord a s m (record_kinds.Read r) = IsTrue (promises_eoa m.supervision r) → IsTrueEstimate a s m r
IsEstimatedRecord a s m (record_kinds.Authority x) = ⊤
IsEstimatedRecord a s m (record_kinds.Calculated eoa svl trip) = ⊤
IsEstimatedRecord a s m (record_kinds.Restrict r) = ⊤
IsEstimatedRecord a s m (record_kinds.Revoke id) = ⊤

-- ---- a tick

-- the train moves at most its mean speed (own)
abbrev pub Moves : ℕ → ℕ → ℕ → Type 0
Moves v to length = 2 * length ≤ 1_000_000 * (v + to)

-- in the tick the train brakes at least with A_expected (own)
abbrev pub IsServiceBraked : ℕ → Promise → Moment → ℕ → ℕ → Type 0
IsServiceBraked s c m to length =
    (via : List Point)
    × BrakesBy (slopes_of Expected c.under.train_and_track) (s * s) (point_of m) via
    (point_of (after_tick m to length))

-- T_bs of the reading that gave a promise, in ds (SUBSET-026-3 3.13.9.3.3)
abbrev pub service_time : Promise → ℕ
service_time c = (reaction_times c.under.train_and_track).bs

-- ---- by the orders

-- THE ORDERS. In each tick in which a promise stands: no reading is overdue; the train moves at most its mean speed; and
-- once the ordered service brake works, the train brakes at least with A_expected (own)
pub record IsByServiceOrders (w : Delays) (s : ℕ) (c : Promise) (m : Moment) (to length : ℕ) : Type 0 where
  pub in_time : m.silence < s * w.period
  pub moves : Moves m.speed to length
  pub brakes : (o : ℕ) → m.order ≡ Some o → s * (w.latency + w.build_up) ≤ o → IsServiceBraked s c m to length

-- the T_bs that was handed in holds the delays for a promise, of which the build-up is that of the service brake (own)
abbrev pub HoldsServiceDelays : Delays → Promise → Type 0
HoldsServiceDelays w c = w.period + w.latency + w.build_up ≤ service_time c

-- by orders that work in time: the T_bs that was handed in holds the delays for the promise that stands (own)
pub record IsByTimelyServiceOrders (w : Delays) (s : ℕ) (c : Promise) (m : Moment) (to length : ℕ) : Type 0 where
  pub times : HoldsServiceDelays w c
  pub orders : IsByServiceOrders w s c m to length

-- ---- by the clock

-- THE CLOCK. In each tick in which a promise stands the train moves at most its mean speed, and from T_bs after the
-- reading that gave the promise on it brakes at least with A_expected (own)
pub record IsByServiceClock (s : ℕ) (c : Promise) (m : Moment) (to length : ℕ) : Type 0 where
  pub moves : Moves m.speed to length
  pub brakes : s * service_time c ≤ c.age → IsServiceBraked s c m to length

-- ---- a ride

-- what may happen: the estimate of a reading that promises the EOA is true; data that are changed to are accepted; and
-- each tick in which a promise stands keeps the rule (own)
abbrev pub MayFollow : TickRule → Allowance → ℕ → Moment → Happening → Type 0
MayFollow rule a s m (Record e) = IsEstimatedRecord a s m e
MayFollow rule a s m Unread = ⊤
MayFollow rule a s m Overdue = ⊤
MayFollow rule a s m (Change next) = IsOpen next
MayFollow rule a s m (Tick to length) = (c : Promise) → m.promise ≡ Some c → rule c m to length

-- a ride under the service brake: one thing after another that may happen (own)
abbrev pub IsServiceRide : TickRule → Allowance → ℕ → Moment → List Happening → Type 0
IsServiceRide rule a s m [] = ⊤
IsServiceRide rule a s m (h ∷ hs) = MayFollow rule a s m h × IsServiceRide rule a s (steady_after a m h) hs
