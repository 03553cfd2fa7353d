-- The laws of rides in release speed monitoring, as statements over their definitions alone (own).
use Rattle.std.specs.Prelude.{◌≡◌, ℕ, pos, true, IsTrue, All, ⊤, List, [], ◌∷◌, Some, None, Ok, map, ◌+◌, ◌*◌, ◌<◌, ◌≤◌}
use Rattle.std.specs.Prelude.{◌*ℤ◌}
use Rattle.std.specs.Prelude.{◌+ℤ◌, ◌≤ℤ◌, ◌<ℤ◌}
use Rattle.sdm_num.specs.Units.{centimetre, notches}
use Rattle.sdm_num.specs.Readings.{OdometerReading}
use Rattle.sdm_rules.specs.declared.authorities.Authority.{Authority}
use Rattle.sdm_rules.specs.declared.authorities.Authority.TheVariants.{Stop, Limit}
use Rattle.sdm_rules.specs.declared.commands.State.TheVariants.{R}
use Rattle.sdm_rules.specs.declared.motions.Point.{Point}
use Rattle.sdm_rules.specs.declared.records.Event.TheVariants as record_kinds
use Rattle.sdm_rules.specs.Cells.{place_of_cell}
use Rattle.sdm_rules.specs.Data.{TrainAndTrack}
use Rattle.sdm_rules.specs.Opening.{IsOpen}
use Rattle.sdm_rules.specs.Reaction.{reaction_times}
use Rattle.sdm_rules.specs.Records.{step}
use Rattle.sdm_rules.specs.Release.{calculated, t_be}
use Rattle.sdm_rules.specs.Supervision.{Supervision, row_of}
use Rattle.sdm_rules.specs.Within.{StopsByItsSvl}
use Rattle.sdm_ride.specs.Happenings.{Happening}
use Rattle.sdm_ride.specs.Moments.{Judging, Moment, after, by_rows, moments}
use Rattle.sdm_ride.specs.Orders.{AllGoOn, Computer, judged_in}
use Rattle.sdm_ride.specs.Rides.{Delays, IsByTimelyOrders, IsRide, IsTrueReading}
use Rattle.sdm_ride.specs.RideLaws.{AreKeptByClock, AreKeptByOrders, IsAsCovered, IsByItsSvl, IsNeverPast, IsRideStart}
use Rattle.sdm_release_ride.specs.TripPlaces.{HasTripPlace, IsWithinBounds, TripBounds, by_guarded, by_release}
use Rattle.sdm_release_ride.specs.TripPlaces.{promises_svl, is_untripped}

-- ---- one reading

-- at a true reading under a stop, in whatever state: once the true front end is further past the EOA than from the
-- reading's min to its max safe front end, the emergency brake is commanded; and in release speed monitoring it is
-- above the release speed
pub record IsTripped (s : ℕ) (m : Moment) (r : OdometerReading) (eoa svl release : ℕ) : Type 0 where
  pub place : (width : ℕ) → r.max ≤ℤ (r.min +ℤ pos (width * centimetre)) →
      (pos (s * s) *ℤ place_of_cell (pos (eoa + width))) <ℤ m.place → (row_of m.supervision r).held.eb ≡ true
  pub speed : (row_of m.supervision r).state ≡ R → notches release < r.speed →
      (row_of m.supervision r).held.eb ≡ true

-- THE TRIP: where W lies past the EOA, no true reading finds an untripped train further on
abbrev pub LawOfTrips : Type 0
LawOfTrips =
    (s : ℕ) (m : Moment) (r : OdometerReading) (eoa svl release : ℕ) →
    m.supervision.authority ≡ Stop eoa svl release → IsTrueReading s m r → IsTripped s m r eoa svl release

-- the earlier the trip place, the greater the calculated release speed, or it is the same
abbrev pub LawOfEarlierTrips : Type 0
LawOfEarlierTrips =
    (s : Supervision) (svl trip' trip : ℕ) → trip' ≤ trip → trip ≤ svl →
    calculated s.train_and_track svl trip ≤ calculated s.train_and_track svl trip'

-- from every reading that promises the SvL in release speed monitoring each motion stops at or before it
abbrev pub LawOfReleaseReadings : Type 0
LawOfReleaseReadings =
    (b : TripBounds) (s : Supervision) (r : OdometerReading) → IsOpen s → IsTrue (promises_svl b s r) →
    StopsByItsSvl s r

-- ---- at every moment

-- the point is as a reading by the release speed promises: at or before the SvL; and as a covered row promises, where
-- the row is covered (own)
pub record IsAsByRelease (s : ℕ) (under : Supervision) (r : OdometerReading) (x : Point) : Type 0 where
  pub stops : IsByItsSvl s under r x
  pub covered : IsTrue (row_of under r).covered → IsAsCovered s under r x

-- THE RIDE with a release speed: at every moment of every ride what the last reading promised that was covered, or was
-- in release speed monitoring and kept the bounds, is true of the train
pub record LawOfReleaseRides : Type 0 where
  pub by_orders : (b : TripBounds) → AreKeptByOrders (by_release b) IsAsByRelease
  pub by_clock : (b : TripBounds) → AreKeptByClock (by_release b) IsAsByRelease

-- ---- one place

-- the authority is a stop with its SvL at or before the place, in cm, and a release speed has a trip place (own)
abbrev pub EndsWithTripBy : TripBounds → TrainAndTrack → ℕ → Authority → Type 0
EndsWithTripBy b d place (Stop eoa svl release) = (svl ≤ place) × (0 < release → HasTripPlace b d eoa svl release)
EndsWithTripBy b d place (Limit loa speed) = ⊥

-- the reading keeps the bounds, where it finds an untripped train (own)
abbrev pub KeepsBounds : TripBounds → Supervision → OdometerReading → Type 0
KeepsBounds b s r = IsTrue (is_untripped (row_of s r)) → IsWithinBounds b s.train_and_track r

-- each reading that is judged in a list of happenings has a property (own)
abbrev pub AllJudged : Judging → (Supervision → OdometerReading → Type 0) → Moment → List Happening → Type 0
AllJudged j P m [] = ⊤
AllJudged j P m (h ∷ hs) =
    ((r : OdometerReading) → judged_in m.supervision h ≡ Some r → P m.supervision r) × AllJudged j P (after j m h) hs

-- a ride before a place, with release speeds; at each moment the trip place is by the data then in force, so a change of
-- data asks it anew, of the authority that comes with them (own)
pub record IsReleaseRide (b : TripBounds) (w : Delays) (s place : ℕ) (m : Moment) (hs : List Happening) : Type 0 where
  pub start : IsRideStart m
  pub ride : IsRide (by_release b) (IsByTimelyOrders w s) s m hs
  pub authorities :
      All (λ n. EndsWithTripBy b n.supervision.train_and_track place n.supervision.authority)
      (m ∷ moments (by_release b) m hs)
  pub readings : AllJudged (by_release b) (KeepsBounds b) m hs

-- NEVER PAST, IN RELEASE SPEED MONITORING TOO: where every authority in force is a stop by a place, and each release
-- speed has a trip place by the data in force, the true front end never passes the place from the first promise on, in
-- whatever state, over changes of data too
abbrev pub LawOfReleasePlaces : Type 0
LawOfReleasePlaces =
    (b : TripBounds) (w : Delays) (s place : ℕ) (m : Moment) (hs : List Happening) → 0 < s →
    IsReleaseRide b w s place m hs →
    IsNeverPast s place (moments (by_release b) m hs)

-- the authority is a stop with its SvL at or before the place, in cm, whatever its release speed (own)
abbrev pub StopsBefore : ℕ → Authority → Type 0
StopsBefore place (Stop eoa svl release) = svl ≤ place
StopsBefore place (Limit loa speed) = ⊥

-- a guarded ride before a place (own)
pub record IsGuardedRide (b : TripBounds) (w : Delays) (s place : ℕ) (m : Moment) (hs : List Happening) : Type 0 where
  pub start : IsRideStart m
  pub ride : IsRide (by_guarded b) (IsByTimelyOrders w s) s m hs
  pub authorities : All (λ n. StopsBefore place n.supervision.authority) (m ∷ moments (by_guarded b) m hs)

-- GUARDED: where the brake is ordered also after each reading that gives no promise, the same of every stop by the
-- place, whatever its release speed and however wide the readings are
abbrev pub LawOfGuardedPlaces : Type 0
LawOfGuardedPlaces =
    (b : TripBounds) (w : Delays) (s place : ℕ) (m : Moment) (hs : List Happening) → 0 < s →
    IsGuardedRide b w s place m hs →
    IsNeverPast s place (moments (by_guarded b) m hs)

-- ---- the record

-- what is true after the record of a stop with a trip place: its release speed has that trip place, for every W that
-- fits before it and with no U
pub record IsCalculatedStop (t : Supervision) (eoa svl trip : ℕ) : Type 0 where
  pub release : ℕ
  pub authority : t.authority ≡ Stop eoa svl release
  pub has_trip : (width : ℕ) → eoa + width ≤ trip →
      HasTripPlace (record { width = width; excess = 0 }) t.train_and_track eoa svl release

-- so it is after each such record that is taken, where T_traction is at most T_be
abbrev pub LawOfCalculatedStops : Type 0
LawOfCalculatedStops =
    (s t : Supervision) (eoa svl trip : ℕ) → (reaction_times s.train_and_track).traction ≤ t_be s.train_and_track →
    step s (record_kinds.Calculated eoa svl trip) ≡ Ok t → IsCalculatedStop t eoa svl trip

-- ---- the same train

-- a moment but for what is promised (own)
abbrev pub unpromised : Moment → Moment
unpromised m = record m { promise = None }

-- judged by the release speed a ride is the same as by the rows, but for what is promised: the supervisor, the train
-- and the orders are the same at each moment
abbrev pub LawOfSameTrains : Type 0
LawOfSameTrains =
    (b : TripBounds) (m : Moment) (hs : List Happening) →
    map unpromised (moments by_rows m hs) ≡ map unpromised (moments (by_release b) m hs)

-- ---- the computer

-- a computer that goes on as a ride by the rows does goes on as one by the release speed does, over every list of
-- happenings
abbrev pub LawOfReleaseOrders : Type 0
LawOfReleaseOrders =
    (b : TripBounds) (c : Computer) (hs : List Happening) (cs : List Computer) → AllGoOn by_rows c hs cs →
    AllGoOn (by_release b) c hs cs
