-- A computer in C beside a ride: what its calls are for the ride, what its builder owes it, and where the train is then
-- (own).
use Rattle.std.specs.Prelude.{◌≡◌, ◌⊎◌, ⊤, ℕ, Bool, true, false, not, IsTrue, All, List, [], ◌∷◌, Option, Some, None, ◌<◌, ◌==◌}
use Rattle.std.specs.Prelude.{◌&&◌, ◌||◌, map, if◌then◌else◌}
use Rattle.sdm_rules.specs.declared.commands.State.TheVariants.{R}
use Rattle.sdm_rules.specs.declared.records.Event.{Event}
use Rattle.sdm_rules.specs.Supervision.{Supervision}
use Rattle.sdm_ride.specs.Happenings.{Happening, Record, Unread, Overdue, Change, Tick}
use Rattle.sdm_ride.specs.Moments.{Moment, by_rows}
use Rattle.sdm_ride.specs.Rides.{Delays, IsByTimelyOrders}
use Rattle.sdm_ride.specs.RideLaws.{EndsBy, IsAsCovered, IsNeverPast, IsRideStart, KeepsPromise}
use Rattle.sdm_ride.specs.Orders.{AllGoOn, Computer}
use Rattle.sdm_ride.specs.ComputerRides.{IsRideBeside, moments_beside}
use Rattle.sdm_supervisor.specs.TakeOvers.{is_fresh}
use Rattle.sdm_c.specs.declared.call_lists.Call.{Call}
use Rattle.sdm_c.specs.declared.call_lists.Call.TheVariants as calls
use Rattle.sdm_c.specs.declared.call_lists.Written.{Written}
use Rattle.sdm_c.specs.declared.handle.Handle.{Handle}
use Rattle.sdm_c.specs.declared.structs.RowC.{RowC}
use Rattle.sdm_c.specs.Codes.{state_code}
use Rattle.sdm_c.specs.CallLists.{IsMade, Made, record_of, supervisor_in}
use Rattle.sdm_c.specs.CallRows.{keeps_data}
use Rattle.sdm_c.specs.Statuses.{IsOpen, done}

-- ---- WHAT A CALL IS FOR THE RIDE

-- the record that is handed over; without one the supervisor stays as it is (own)
abbrev pub happening_with : Option Event → Happening
happening_with (Some e) = Record e
happening_with None = Unread

-- a call on the handle that runs (own)
abbrev pub happening_of : Call → Happening
happening_of c = happening_with (record_of c)

-- a change to the supervisor of another handle, which takes over only where it had no reading and no restriction (own)
abbrev pub change_to : Supervision → Happening
change_to next = if is_fresh next then Change next else Unread

-- ---- WHAT THE BUILDER OWES

-- what a builder has: the handle of the supervisor that runs, and whether the emergency brake stands at the interface (own)
pub record CallingComputer : Type 0 where
  pub handle : Handle
  pub orders_brake : Bool

-- a row asks for the emergency brake: where it is commanded, and where the row isn't covered, but in release speed
-- monitoring (own)
abbrev pub asks_brake : RowC → Bool
asks_brake row = row.eb == 1 || (row.covered == 0 && not (row.state == state_code R))

-- with a status the call judges a reading (own)
abbrev pub judges : Call → ℕ → Bool
judges (calls.Cycle r) status = status == done
judges other status = false

-- a call on the handle that runs, which it leaves open: after a reading that is judged the brake is ordered where its row
-- asks for it, and nothing else takes an order away (own)
pub record CallsOnce (before : CallingComputer) (h : Happening) (now : CallingComputer) : Type 0 where
  pub written : Written
  pub made : Made
  pub is_made : IsMade before.handle written made
  pub keeps : IsTrue (keeps_data made.asked.call)
  pub is_for : h ≡ happening_of made.asked.call
  pub handle : now.handle ≡ made.handle
  pub row : judges made.asked.call made.status ≡ true → asks_brake made.written.row ≡ true → now.orders_brake ≡ true
  pub stands : judges made.asked.call made.status ≡ false → before.orders_brake ≡ true → now.orders_brake ≡ true

-- a change of data: another handle takes over from the one that runs, and runs then; where that is refused the old one
-- does. No order is taken away (own)
pub record ChangesHandle (before : CallingComputer) (h : Happening) (now : CallingComputer) : Type 0 where
  pub next : Handle
  pub written : Written
  pub made : Made
  pub is_open : IsOpen next
  pub is_made : IsMade next written made
  pub takes_over : made.asked.call ≡ calls.TakeOver
  pub from : made.asked.before ≡ supervisor_in before.handle
  pub is_for : h ≡ change_to next.state
  pub handle : now.handle ≡ (if made.status == done then made.handle else before.handle)
  pub stands : before.orders_brake ≡ true → now.orders_brake ≡ true

-- no call: a reading is missing, and the brake is ordered; or a tick passes, in which an order stands (own)
pub record Waits (before : CallingComputer) (h : Happening) (now : CallingComputer) : Type 0 where
  pub is_for : (h ≡ Overdue) ⊎ ((to : ℕ) × (length : ℕ) × (h ≡ Tick to length))
  pub handle : now.handle ≡ before.handle
  pub overdue : h ≡ Overdue → now.orders_brake ≡ true
  pub stands : before.orders_brake ≡ true → now.orders_brake ≡ true

-- one step (own)
abbrev pub IsStep : CallingComputer → Happening → CallingComputer → Type 0
IsStep before h now = CallsOnce before h now ⊎ (ChangesHandle before h now ⊎ Waits before h now)

-- one after the other (own)
abbrev pub AreSteps : CallingComputer → List Happening → List CallingComputer → Type 0
AreSteps c [] [] = ⊤
AreSteps c [] (d ∷ ds) = ⊥
AreSteps c (h ∷ hs) [] = ⊥
AreSteps c (h ∷ hs) (d ∷ ds) = IsStep c h d × AreSteps d hs ds

-- ---- THE TRAIN

-- what the ride sees of it (own)
abbrev pub seen : CallingComputer → Computer
seen c = record { supervision = c.handle.state; orders_brake = c.orders_brake }

-- the ride's computer: over every list of calls, changes of data, missing readings and ticks it goes on as a ride does
abbrev pub LawOfCallOrders : Type 0
LawOfCallOrders =
    (c : CallingComputer) (hs : List Happening) (cs : List CallingComputer) → IsOpen c.handle → AreSteps c hs cs →
    AllGoOn by_rows (seen c) hs (map seen cs)

-- THE RIDE OF C: of a train that does in time what the emergency brake at the interface makes it do, the promise of the
-- last covered reading is true at every moment
abbrev pub LawOfCallRides : Type 0
LawOfCallRides =
    (w : Delays) (s : ℕ) (m : Moment) (c : CallingComputer) (hs : List Happening) (cs : List CallingComputer) → 0 < s →
    IsRideStart m → IsOpen c.handle → c.handle.state ≡ m.supervision → AreSteps c hs cs →
    IsRideBeside by_rows (IsByTimelyOrders w s) s m hs (map seen cs) →
    All (KeepsPromise IsAsCovered s) (moments_beside by_rows m hs (map seen cs))

-- FROM CALLS TO THE PLACE: where each authority besides is a stop without a release speed that ends by a place, the true
-- front end never passes that place from the first covered reading on
abbrev pub LawOfCallPlaces : Type 0
LawOfCallPlaces =
    (w : Delays) (s place : ℕ) (m : Moment) (c : CallingComputer) (hs : List Happening) (cs : List CallingComputer) →
    0 < s → IsRideStart m → IsOpen c.handle → c.handle.state ≡ m.supervision → AreSteps c hs cs →
    IsRideBeside by_rows (IsByTimelyOrders w s) s m hs (map seen cs) →
    All (λ d. EndsBy place d.handle.state.authority) (c ∷ cs) →
    IsNeverPast s place (moments_beside by_rows m hs (map seen cs))
