-- The laws of rides, as statements over their definitions alone (own).
use Rattle.std.specs.Prelude.{◌≡◌, ℕ, ℤ, pos, All, Contains, List, [], ◌∷◌, Some, None, ◌+◌, ◌<◌, ◌≤◌}
use Rattle.std.specs.Prelude.{Result, is_some, map, ⊤, if◌then◌else◌}
use Rattle.std.specs.List.{cons_option}
use Rattle.sdm_num.specs.Readings.{OdometerReading}
use Rattle.sdm_rules.specs.declared.authorities.Authority.{Authority}
use Rattle.sdm_rules.specs.declared.authorities.Authority.TheVariants.{Stop, Limit}
use Rattle.sdm_rules.specs.declared.faults.EventFault.{EventFault}
use Rattle.sdm_rules.specs.declared.motions.Point.{Point}
use Rattle.sdm_rules.specs.declared.records.Event.{Event}
use Rattle.sdm_rules.specs.declared.rows.Row.{Row}
use Rattle.sdm_rules.specs.declared.targets.Target.{Target}
use Rattle.sdm_rules.specs.Cells.{place_of_cell}
use Rattle.sdm_rules.specs.Motion.{IsBy, KeepsTo}
use Rattle.sdm_rules.specs.Opening.{IsOpen}
use Rattle.sdm_rules.specs.Records.{journey_from, row_at, rows_of}
use Rattle.sdm_rules.specs.Stop.{IsSpeedTarget}
use Rattle.sdm_rules.specs.Supervision.{Supervision, profile_of, row_of, situation_of}
use Rattle.sdm_rules.specs.Targets.{fall_at, foot_speed_of}
use Rattle.sdm_laws.specs.Falls.{IsFallAhead, allowance}
use Rattle.sdm_ride.specs.Happenings.{Happening, Record, Unread, Overdue, Change, Tick}
use Rattle.sdm_ride.specs.Moments.{Judging, Moment, Promise, after, by_free_rows, by_rows, by_svl, moments}
use Rattle.sdm_ride.specs.Rides.{Delays, IsByClock, IsByTimelyOrders, IsRide, TickRule, point_of}

-- ---- what a promise says of where the train is

-- of a scale, a supervision state and a reading, what is promised of a point (own)
abbrev pub Promised : Type 1
Promised = ℕ → Supervision → OdometerReading → Point → Type 0

-- the point is at or before the SvL of the reading's authority, where it had one (own)
abbrev pub IsByItsSvl : Promised
IsByItsSvl s under r x =
    (eoa svl release : ℕ) → under.authority ≡ Stop eoa svl release → IsBy s (place_of_cell (pos svl)) x

-- the point is as a covered row promises: at or before the SvL, and at or past each speed target of the reading with at
-- most its foot speed (own)
pub record IsAsCovered (s : ℕ) (under : Supervision) (r : OdometerReading) (x : Point) : Type 0 where
  pub stops : IsByItsSvl s under r x
  pub meets : (t : Target) → Contains (situation_of under r).targets t → IsSpeedTarget t →
      KeepsTo s t.place (foot_speed_of t) x

-- the point is as a free row promises: as a covered one does, and at or past each fall that isn't behind the min safe
-- front end with at most its foot speed and the allowance (own)
pub record IsAsFree (s : ℕ) (under : Supervision) (r : OdometerReading) (x : Point) : Type 0 where
  pub covered : IsAsCovered s under r x
  pub falls : (cell : ℤ) → IsFallAhead under r cell →
      KeepsTo s (place_of_cell cell)
      (foot_speed_of (fall_at (profile_of under) cell) + allowance under.train_and_track r cell) x

-- where a promise stands, what was promised is true of the train (own)
abbrev pub KeepsPromise : Promised → ℕ → Moment → Type 0
KeepsPromise what s m = (c : Promise) → m.promise ≡ Some c → what s c.under c.reading (point_of m)

-- ---- at every moment

-- the start of a ride: the data are accepted, and no promise stands yet (own)
pub record IsRideStart (m : Moment) : Type 0 where
  pub is_open : IsOpen m.supervision
  pub none : m.promise ≡ None

-- on every ride by orders that work in time, at every scale, the promise that stands is true of the train at every
-- moment (own)
abbrev pub AreKeptByOrders : Judging → Promised → Type 0
AreKeptByOrders j what =
    (w : Delays) (s : ℕ) (m : Moment) (hs : List Happening) → 0 < s → IsRideStart m →
    IsRide j (IsByTimelyOrders w s) s m hs → All (KeepsPromise what s) (moments j m hs)

-- the same of every ride by the clock, whatever is ordered (own)
abbrev pub AreKeptByClock : Judging → Promised → Type 0
AreKeptByClock j what =
    (s : ℕ) (m : Moment) (hs : List Happening) → 0 < s → IsRideStart m → IsRide j (IsByClock s) s m hs →
    All (KeepsPromise what s) (moments j m hs)

-- THE RIDE: at every moment of every ride by the orders what the last covered row promised is true of the train; what
-- the last free row promised, falls included; and by the SvL alone, that the train is at or before that of the last
-- reading within it
pub record LawOfRides : Type 0 where
  pub rows : AreKeptByOrders by_rows IsAsCovered
  pub free_rows : AreKeptByOrders by_free_rows IsAsFree
  pub svl : AreKeptByOrders by_svl IsByItsSvl

-- the same of every ride by the clock
pub record LawOfTimedRides : Type 0 where
  pub rows : AreKeptByClock by_rows IsAsCovered
  pub free_rows : AreKeptByClock by_free_rows IsAsFree
  pub svl : AreKeptByClock by_svl IsByItsSvl

-- THE CLOCK IS OWED BY THE ORDERS: however readings are judged, each ride by orders that work in time is one by the clock,
-- from every moment at which no promise stands
abbrev pub LawOfClocks : Type 0
LawOfClocks =
    (j : Judging) (w : Delays) (s : ℕ) (m : Moment) (hs : List Happening) → m.promise ≡ None →
    IsRide j (IsByTimelyOrders w s) s m hs → IsRide j (IsByClock s) s m hs

-- where the train moves, under a stop without a release speed, a ride by the SvL orders the emergency brake exactly
-- where the supervisor commands it
abbrev pub LawOfSvlOrders : Type 0
LawOfSvlOrders =
    (s : Supervision) (r : OdometerReading) (eoa svl : ℕ) → s.authority ≡ Stop eoa svl 0 → 0 < r.speed →
    by_svl.orders s r ≡ (row_of s r).held.eb

-- ---- one place

-- the authority is a stop without a release speed, with its SvL at or before the place, in cm (own)
abbrev pub EndsBy : ℕ → Authority → Type 0
EndsBy place (Stop eoa svl release) = (svl ≤ place) × (release ≡ 0)
EndsBy place (Limit loa speed) = ⊥

-- the moments from the first promise on (own)
abbrev pub since_promised : List Moment → List Moment
since_promised [] = []
since_promised (m ∷ ms) = if is_some m.promise then m ∷ ms else since_promised ms

-- from the first promise on the true front end is at every moment at or before the place, in cm (own)
abbrev pub IsNeverPast : ℕ → ℕ → List Moment → Type 0
IsNeverPast s place ms = All (λ n. IsBy s (place_of_cell (pos place)) (point_of n)) (since_promised ms)

-- a ride on which every authority in force ends by the place (own)
pub record IsRideBefore (j : Judging) (rule : TickRule) (s place : ℕ) (m : Moment) (hs : List Happening) : Type 0 where
  pub start : IsRideStart m
  pub ride : IsRide j rule s m hs
  pub authorities : All (λ n. EndsBy place n.supervision.authority) (m ∷ moments j m hs)

-- of a ride by the orders before a place the true front end is never past it (own)
abbrev pub StaysBeforeByOrders : Judging → Type 0
StaysBeforeByOrders j =
    (w : Delays) (s place : ℕ) (m : Moment) (hs : List Happening) → 0 < s →
    IsRideBefore j (IsByTimelyOrders w s) s place m hs → IsNeverPast s place (moments j m hs)

-- NEVER PAST: where every authority in force is a stop without a release speed by a place, the true front end never
-- passes it from the first promise on, however readings are judged
pub record LawOfPlaces : Type 0 where
  pub rows : StaysBeforeByOrders by_rows
  pub free_rows : StaysBeforeByOrders by_free_rows
  pub svl : StaysBeforeByOrders by_svl

-- ---- the rows

-- the records that reach the supervisor (own)
abbrev pub records_of : List Happening → List Event
records_of [] = []
records_of (Record e ∷ hs) = e ∷ records_of hs
records_of (Unread ∷ hs) = records_of hs
records_of (Overdue ∷ hs) = records_of hs
records_of (Change next ∷ hs) = records_of hs
records_of (Tick to length ∷ hs) = records_of hs

-- the rows of a ride: those of its readings (own)
abbrev pub rows_on : Judging → Moment → List Happening → List Row
rows_on j m [] = []
rows_on j m (Record e ∷ hs) = cons_option (row_at m.supervision e) (rows_on j (after j m (Record e)) hs)
rows_on j m (Unread ∷ hs) = rows_on j m hs
rows_on j m (Overdue ∷ hs) = rows_on j (after j m Overdue) hs
rows_on j m (Change next ∷ hs) = rows_on j (after j m (Change next)) hs
rows_on j m (Tick to length ∷ hs) = rows_on j (after j m (Tick to length)) hs

-- no data are changed to (own)
abbrev pub HasNoChange : List Happening → Type 0
HasNoChange [] = ⊤
HasNoChange (Record e ∷ hs) = HasNoChange hs
HasNoChange (Unread ∷ hs) = HasNoChange hs
HasNoChange (Overdue ∷ hs) = HasNoChange hs
HasNoChange (Change next ∷ hs) = ⊥
HasNoChange (Tick to length ∷ hs) = HasNoChange hs

-- the rows of a ride over one set of data are those of the journey of its records, by whatever form they are read
abbrev pub LawOfRiddenRows : Type 0 → Type 0
LawOfRiddenRows A =
    (form : ℕ → A → Result Event EventFault) (n : ℕ) (j : Judging) (m : Moment) (records : List A)
    (hs : List Happening) → HasNoChange hs →
    map (λ t. t.event) (journey_from form n m.supervision records).turns ≡ records_of hs →
    rows_of (journey_from form n m.supervision records).turns ≡ rows_on j m hs
