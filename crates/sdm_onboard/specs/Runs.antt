-- The computer over lists of messages, changes of data and ticks, and what is true along each of them (own).
use Rattle.std.specs.Prelude.{◌≡◌, ◌⊎◌, ℕ, ⊤, IsTrue, All, List, [], ◌∷◌, None, ◌<◌, Result, map}
use Rattle.sdm_rules.specs.declared.records.Event.{Event}
use Rattle.sdm_rules.specs.declared.records.Event.TheVariants as record_kinds
use Rattle.sdm_rules.specs.Supervision.{Supervision}
use Rattle.sdm_rules.specs.TakeOver.{take_over_fault}
use Rattle.sdm_ride.specs.Happenings.{Happening, Record, Unread, Overdue, Change, Tick}
use Rattle.sdm_ride.specs.Moments.{Moment, by_rows}
use Rattle.sdm_ride.specs.Rides.{Delays, IsByTimelyOrders}
use Rattle.sdm_ride.specs.RideLaws.{EndsBy, IsAsCovered, IsNeverPast, IsRideStart, KeepsPromise}
use Rattle.sdm_ride.specs.Orders.{AllOrderAs, OrdersAs, judged_in}
use Rattle.sdm_ride.specs.ComputerRides.{IsRideBeside, moments_beside}
use Rattle.sdm_release_ride.specs.ReleaseRideLaws.{StopsBefore}
use Rattle.sdm_release_ride.specs.TripPlaces.{by_guarded}
use Rattle.sdm_service_ride.specs.ServiceMoments.{Allowance}
use Rattle.sdm_service_ride.specs.ServiceOrders.{AllServeAs}
use Rattle.sdm_onboard.specs.declared.messages.Message.{Message}
use Rattle.sdm_onboard.specs.declared.onboard.Onboard.{Onboard}
use Rattle.sdm_onboard.specs.declared.opening.OpeningFault.{OpeningFault}
use Rattle.sdm_onboard.specs.Guard.{bounds}
use Rattle.sdm_onboard.specs.Messages.{Changes, Takes, computer_of, service_of}
use Rattle.sdm_onboard.specs.Missing.{HoldsBrakes, Remembers, RemembersOver, TakesAuthority}

-- ---- a run

-- the computer over a happening: it takes a message; it changes to new data; or a tick passes, in which it stays as it is
-- (own)
abbrev pub IsOver : Onboard → Happening → Onboard → Type 0
IsOver before h now =
    ((message : Message) × Takes before message h now × Remembers before message now)
    ⊎ (((opened : Result Supervision OpeningFault) × Changes before opened h now × RemembersOver before opened now)
    ⊎ ((to : ℕ) × (length : ℕ) × (h ≡ Tick to length) × (now ≡ before)))

-- the computer over happenings one after the other, each a message, a change of data or a tick (own)
abbrev pub IsRun : Onboard → List Happening → List Onboard → Type 0
IsRun o [] [] = ⊤
IsRun o [] (p ∷ ps) = ⊥
IsRun o (h ∷ hs) [] = ⊥
IsRun o (h ∷ hs) (p ∷ ps) = IsOver o h p × IsRun p hs ps

-- ---- the orders

-- over every list of messages and changes of data, with any ticks between them, the emergency brake stands at the
-- interface wherever the ride counts an order of it
abbrev pub LawOfMessages : Type 0
LawOfMessages =
    (m : Moment) (o : Onboard) (hs : List Happening) (os : List Onboard) → OrdersAs m (computer_of o) →
    IsRun o hs os → AllOrderAs by_rows m hs (map computer_of os)

-- over every list of messages and changes of data, with any ticks between them, the service brake stands at the
-- interface wherever a ride under the service brake counts an order of it
abbrev pub LawOfServiceMessages : Type 0
LawOfServiceMessages =
    (a : Allowance) (m : Moment) (o : Onboard) (hs : List Happening) (os : List Onboard) →
    OrdersAs m (service_of o) → IsRun o hs os → AllServeAs a m hs (map service_of os)

-- ---- the train

-- THE RIDE OF THE COMPUTER: over every list of messages and changes of data, with any ticks between them, of a train that
-- does in time what the emergency brake at the interface makes it do, the promise of the last covered reading is true at
-- every moment
abbrev pub LawOfMessageRides : Type 0
LawOfMessageRides =
    (w : Delays) (s : ℕ) (m : Moment) (o : Onboard) (hs : List Happening) (os : List Onboard) → 0 < s →
    IsRideStart m → o.supervisor ≡ m.supervision → IsRun o hs os →
    IsRideBeside by_rows (IsByTimelyOrders w s) s m hs (map computer_of os) →
    All (KeepsPromise IsAsCovered s) (moments_beside by_rows m hs (map computer_of os))

-- FROM MESSAGES TO THE PLACE: where each authority of the computer besides is a stop without a release speed that ends by
-- a place, the true front end never passes that place from the first covered reading on
abbrev pub LawOfMessagePlaces : Type 0
LawOfMessagePlaces =
    (w : Delays) (s place : ℕ) (m : Moment) (o : Onboard) (hs : List Happening) (os : List Onboard) → 0 < s →
    IsRideStart m → o.supervisor ≡ m.supervision → IsRun o hs os →
    IsRideBeside by_rows (IsByTimelyOrders w s) s m hs (map computer_of os) →
    All (λ p. EndsBy place p.supervisor.authority) (o ∷ os) →
    IsNeverPast s place (moments_beside by_rows m hs (map computer_of os))

-- GUARDED: so it is where each authority is any stop that ends by the place, whatever its release speed, and the readings
-- that give a promise are those that the guard relies on, too
abbrev pub LawOfGuardedMessages : Type 0
LawOfGuardedMessages =
    (w : Delays) (s place : ℕ) (m : Moment) (o : Onboard) (hs : List Happening) (os : List Onboard) → 0 < s →
    IsRideStart m → o.supervisor ≡ m.supervision → IsRun o hs os →
    IsRideBeside (by_guarded bounds) (IsByTimelyOrders w s) s m hs (map computer_of os) →
    All (λ p. StopsBefore place p.supervisor.authority) (o ∷ os) →
    IsNeverPast s place (moments_beside (by_guarded bounds) m hs (map computer_of os))

-- ---- the brakes

-- in a run no reading is judged (own)
abbrev pub IsUnjudged : Onboard → List Happening → List Onboard → Type 0
IsUnjudged o [] os = ⊤
IsUnjudged o (h ∷ hs) [] = ⊤
IsUnjudged o (h ∷ hs) (p ∷ ps) = (judged_in o.supervisor h ≡ None) × IsUnjudged p hs ps

-- with a record the supervisor takes an authority (own)
abbrev pub IsAuthorityTaken : Supervision → Event → Type 0
IsAuthorityTaken s (record_kinds.Authority a) = TakesAuthority s a
IsAuthorityTaken s (record_kinds.Read r) = ⊥
IsAuthorityTaken s (record_kinds.Calculated eoa svl trip) = ⊥
IsAuthorityTaken s (record_kinds.Restrict r) = ⊥
IsAuthorityTaken s (record_kinds.Revoke id) = ⊥

-- an authority comes into force: one that is taken, or that of new data that are taken over to (own)
abbrev pub RenewsAuthority : Supervision → Happening → Type 0
RenewsAuthority s (Record e) = IsAuthorityTaken s e
RenewsAuthority s Unread = ⊥
RenewsAuthority s Overdue = ⊥
RenewsAuthority s (Change next) = take_over_fault next.train_and_track.track.length_cm s.restrictions ≡ None
RenewsAuthority s (Tick to length) = ⊥

-- in a run none does (own)
abbrev pub HasNoNewAuthority : Onboard → List Happening → List Onboard → Type 0
HasNoNewAuthority o [] os = ⊤
HasNoNewAuthority o (h ∷ hs) [] = ⊤
HasNoNewAuthority o (h ∷ hs) (p ∷ ps) = (RenewsAuthority o.supervisor h → ⊥) × HasNoNewAuthority p hs ps

-- the emergency brake stands at the interface (own)
abbrev pub IsStopped : Onboard → Type 0
IsStopped o = IsTrue o.orders.emergency

-- THE BRAKES, over every list of messages and changes of data, with any ticks between them: from a computer that brakes on
-- the emergency brake stands until a reading is judged; no brake works against the traction; and from a refused
-- restriction on, for good, or from a refused authority on, until another comes into force, the emergency brake stands
pub record LawOfBrakes : Type 0 where
  pub begins : (o : Onboard) (hs : List Happening) (os : List Onboard) → IsStopped o → IsRun o hs os →
      IsUnjudged o hs os → All IsStopped os
  pub holds : (o : Onboard) (hs : List Happening) (os : List Onboard) → HoldsBrakes o → IsRun o hs os →
      All HoldsBrakes os
  pub restriction : (o : Onboard) (hs : List Happening) (os : List Onboard) → HoldsBrakes o →
      IsTrue o.is_restriction_missing → IsRun o hs os → All IsStopped os
  pub authority : (o : Onboard) (hs : List Happening) (os : List Onboard) → HoldsBrakes o →
      IsTrue o.is_authority_missing → IsRun o hs os → HasNoNewAuthority o hs os → All IsStopped os
