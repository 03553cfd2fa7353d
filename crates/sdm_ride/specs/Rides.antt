-- What must be true of a ride: of its readings, and of how the train moves while a promise stands (own).
use Rattle.std.specs.Prelude.{◌≡◌, ℕ, pos, ⊤, List, [], ◌∷◌, Some, IsTrue, ◌+◌, ◌*◌, ◌<◌, ◌≤◌, ◌*ℤ◌, ◌≤ℤ◌}
use Rattle.sdm_num.specs.Readings.{OdometerReading, estimate_of}
use Rattle.sdm_rules.specs.declared.data.SlopeKind.TheVariants.{Safe}
use Rattle.sdm_rules.specs.declared.motions.Point.{Point}
use Rattle.sdm_rules.specs.declared.motions.Start.{Start}
use Rattle.sdm_rules.specs.declared.records.Event.{Event}
use Rattle.sdm_rules.specs.declared.records.Event.TheVariants as record_kinds
use Rattle.sdm_rules.specs.Decelerations.{slopes_of}
use Rattle.sdm_rules.specs.Motion.{IsStep}
use Rattle.sdm_rules.specs.Opening.{IsOpen}
use Rattle.sdm_rules.specs.Reaction.{reaction_start, v_est_delta0}
use Rattle.sdm_rules.specs.Slopes.{Slopes}
use Rattle.sdm_ride.specs.Happenings.{Happening, Record, Unread, Overdue, Change, Tick}
use Rattle.sdm_ride.specs.Moments.{Judging, Moment, Promise, after, after_tick}

-- ---- readings

-- the reading is true of a moment, the one for which it holds: there the true front end is at most the max safe one, and
-- the true speed at most V_est + V_delta0. A ride has a reading at that moment, however late it is judged; what the
-- supervisor takes ahead of it comes before it in the ride (own)
pub record IsTrueReading (s : ℕ) (m : Moment) (r : OdometerReading) : Type 0 where
  pub front : m.place ≤ℤ (pos (s * s) *ℤ r.max)
  pub speed : m.speed ≤ s * v_est_delta0 m.supervision.train_and_track (estimate_of r)

-- a reading that gives a promise is true; of no other record anything is asked (own)
abbrev pub IsTrueRecord : Judging → ℕ → Moment → Event → Type 0
IsTrueRecord j s m (record_kinds.Read r) = IsTrue (j.promises m.supervision r) → IsTrueReading s m r
IsTrueRecord j s m (record_kinds.Authority a) = ⊤
IsTrueRecord j s m (record_kinds.Calculated eoa svl trip) = ⊤
IsTrueRecord j s m (record_kinds.Restrict r) = ⊤
IsTrueRecord j s m (record_kinds.Revoke id) = ⊤

-- ---- a tick

-- from the speed `v` the train gains and moves no more than the acceleration `a`, in cm/s², allows: 54 * `a` notches in
-- a ds, and its mean speed (own)
pub record IsTick (a v to length : ℕ) : Type 0 where
  pub gains : to ≤ v + 54 * a
  pub moves : 2 * length ≤ 1_000_000 * (v + to)

-- step by step the train brakes at least as the slopes ask, from a point over others to a last one (own)
abbrev pub BrakesBy : Slopes → ℕ → Point → List Point → Point → Type 0
BrakesBy on m x [] y = IsStep on m x y
BrakesBy on m x (z ∷ zs) y = IsStep on m x z × BrakesBy on m z zs y

-- where the train is, with the square of its speed (own)
abbrev pub point_of : Moment → Point
point_of m = record { place = m.place; square = m.speed * m.speed }

-- in the tick the train brakes at least with A_safe (own)
abbrev pub IsBraked : ℕ → Promise → Moment → ℕ → ℕ → Type 0
IsBraked s c m to length =
    (via : List Point)
    × BrakesBy (slopes_of Safe c.under.train_and_track) (s * s) (point_of m) via (point_of (after_tick m to length))

-- A_est1, A_est2, T_traction and T_berem of the reading that gave a promise (SUBSET-026-3 3.13.9.3.2)
abbrev pub start_of : Promise → Start
start_of c = reaction_start c.under.train_and_track c.reading

-- ---- by the orders

-- times of the computer and the train, in ds (own)
pub record Delays : Type 0 where
  pub period : ℕ  -- p: at most from a reading that is judged or found missing to the next one
  pub latency : ℕ  -- c: at most from the moment for which a reading holds until what it orders stands at the interface
  pub cut_off : ℕ  -- K: at most from there until the traction is off
  pub build_up : ℕ  -- E: at most from there until the brake gives the whole deceleration

-- THE ORDERS. In each tick in which a promise stands: no reading is overdue; the acceleration is at most A_est1; it is
-- at most A_est2 once an order has cut the traction off; and once the ordered brake works, the train brakes at least
-- with A_safe (own)
pub record IsByOrders (w : Delays) (s : ℕ) (c : Promise) (m : Moment) (to length : ℕ) : Type 0 where
  pub in_time : m.silence < s * w.period
  pub traction : IsTick (start_of c).accel1 m.speed to length
  pub cut_off : (o : ℕ) → m.order ≡ Some o → s * (w.latency + w.cut_off) ≤ o →
      IsTick (start_of c).accel2 m.speed to length
  pub brakes : (o : ℕ) → m.order ≡ Some o → s * (w.latency + w.build_up) ≤ o → IsBraked s c m to length

-- the times that were handed in hold the delays for a promise: the ordered brake works by T_traction + T_berem after its
-- reading; and where A_est2 is lower than A_est1, the traction is cut off by T_traction (own)
pub record HoldsDelays (w : Delays) (c : Promise) : Type 0 where
  pub traction : (start_of c).accel2 < (start_of c).accel1 →
      w.period + w.latency + w.cut_off ≤ (start_of c).traction
  pub emergency : w.period + w.latency + w.build_up ≤ (start_of c).traction + (start_of c).berem

-- by orders that work in time: the times that were handed in hold the delays for the promise that stands (own)
pub record IsByTimelyOrders (w : Delays) (s : ℕ) (c : Promise) (m : Moment) (to length : ℕ) : Type 0 where
  pub times : HoldsDelays w c
  pub orders : IsByOrders w s c m to length

-- ---- by the clock

-- THE CLOCK. In each tick in which a promise stands, by the time since its reading: for T_traction the acceleration is
-- at most A_est1, then for T_berem at most A_est2, and from then on the train brakes at least with A_safe (own)
pub record IsByClock (s : ℕ) (c : Promise) (m : Moment) (to length : ℕ) : Type 0 where
  pub traction : c.age < s * (start_of c).traction → IsTick (start_of c).accel1 m.speed to length
  pub build :
      s * (start_of c).traction ≤ c.age → c.age < s * ((start_of c).traction + (start_of c).berem) →
      IsTick (start_of c).accel2 m.speed to length
  pub brakes : s * ((start_of c).traction + (start_of c).berem) ≤ c.age → IsBraked s c m to length

-- ---- a ride

-- what is asked of a tick while a promise stands (own)
abbrev pub TickRule : Type 1
TickRule = Promise → Moment → ℕ → ℕ → Type 0

-- what may happen: a reading that gives a promise is true; data that are changed to are accepted; and each tick in which a
-- promise stands keeps the rule (own)
abbrev pub MayHappen : Judging → TickRule → ℕ → Moment → Happening → Type 0
MayHappen j rule s m (Record e) = IsTrueRecord j s m e
MayHappen j rule s m Unread = ⊤
MayHappen j rule s m Overdue = ⊤
MayHappen j rule s m (Change next) = IsOpen next
MayHappen j rule s m (Tick to length) = (c : Promise) → m.promise ≡ Some c → rule c m to length

-- a ride: one thing after another that may happen (own)
abbrev pub IsRide : Judging → TickRule → ℕ → Moment → List Happening → Type 0
IsRide j rule s m [] = ⊤
IsRide j rule s m (h ∷ hs) = MayHappen j rule s m h × IsRide j rule s (after j m h) hs
