-- A computer beside a ride: what it holds and orders after each happening, and what its builder owes the ride (own).
use Rattle.std.specs.Prelude.{◌≡◌, Bool, true, List, [], ◌∷◌, Option, Some, None, Result, Ok, Err, is_some, ⊤}
use Rattle.sdm_num.specs.Readings.{OdometerReading}
use Rattle.sdm_rules.specs.declared.faults.EventCause.{EventCause}
use Rattle.sdm_rules.specs.declared.faults.TakeOverFault.{TakeOverFault}
use Rattle.sdm_rules.specs.declared.records.Event.{Event}
use Rattle.sdm_rules.specs.declared.records.Event.TheVariants as record_kinds
use Rattle.sdm_rules.specs.Records.{step}
use Rattle.sdm_rules.specs.Supervision.{Supervision}
use Rattle.sdm_rules.specs.TakeOver.{change}
use Rattle.sdm_ride.specs.Happenings.{Happening, Record, Unread, Overdue, Change, Tick}
use Rattle.sdm_ride.specs.Moments.{Judging, Moment, after}

-- what the supervisor of a computer holds, and whether the computer orders the brake of the ride, the emergency brake or
-- the service brake (own)
pub record Computer : Type 0 where
  pub supervision : Supervision
  pub orders_brake : Bool

-- the supervision state after a record: one that is refused changes nothing (own)
abbrev pub taken_or : Supervision → Result Supervision EventCause → Supervision
taken_or s (Ok t) = t
taken_or s (Err cause) = s

-- the supervision state after a change of data: one that is refused changes nothing (own)
abbrev pub changed_or : Supervision → Result Supervision TakeOverFault → Supervision
changed_or s (Ok t) = t
changed_or s (Err fault) = s

-- the supervision state after a happening (own)
abbrev pub supervision_after : Supervision → Happening → Supervision
supervision_after s (Record e) = taken_or s (step s e)
supervision_after s Unread = s
supervision_after s Overdue = s
supervision_after s (Change next) = changed_or s (change next s)
supervision_after s (Tick to length) = s

-- the reading of a record that is one and is taken (own)
abbrev pub reading_if : Event → Result Supervision EventCause → Option OdometerReading
reading_if (record_kinds.Read r) (Ok t) = Some r
reading_if (record_kinds.Read r) (Err cause) = None
reading_if (record_kinds.Authority a) t = None
reading_if (record_kinds.Calculated eoa svl trip) t = None
reading_if (record_kinds.Restrict r) t = None
reading_if (record_kinds.Revoke id) t = None

-- the reading that is judged in a happening, if one is (own)
abbrev pub judged_in : Supervision → Happening → Option OdometerReading
judged_in s (Record e) = reading_if e (step s e)
judged_in s Unread = None
judged_in s Overdue = None
judged_in s (Change next) = None
judged_in s (Tick to length) = None

-- a computer goes on as a ride does: its supervisor takes what happens; it orders the brake after a reading that orders
-- it, and where a reading is missing; and nothing but a reading that is judged takes an order away (own)
pub record GoesOn (j : Judging) (before : Computer) (h : Happening) (now : Computer) : Type 0 where
  pub supervision : now.supervision ≡ supervision_after before.supervision h
  pub judged : (r : OdometerReading) → judged_in before.supervision h ≡ Some r →
      j.orders before.supervision r ≡ true → now.orders_brake ≡ true
  pub overdue : h ≡ Overdue → now.orders_brake ≡ true
  pub stands : judged_in before.supervision h ≡ None → before.orders_brake ≡ true → now.orders_brake ≡ true

-- a computer goes on so over a list of happenings, from what it was before the first (own)
abbrev pub AllGoOn : Judging → Computer → List Happening → List Computer → Type 0
AllGoOn j c [] [] = ⊤
AllGoOn j c [] (d ∷ ds) = ⊥
AllGoOn j c (h ∷ hs) [] = ⊥
AllGoOn j c (h ∷ hs) (d ∷ ds) = GoesOn j c h d × AllGoOn j d hs ds

-- the computer's supervisor is that of the ride, and it orders the brake where the ride counts an order (own)
pub record OrdersAs (m : Moment) (c : Computer) : Type 0 where
  pub supervision : c.supervision ≡ m.supervision
  pub ordered : is_some m.order ≡ true → c.orders_brake ≡ true

-- so it is after each happening (own)
abbrev pub AllOrderAs : Judging → Moment → List Happening → List Computer → Type 0
AllOrderAs j m [] cs = ⊤
AllOrderAs j m (h ∷ hs) [] = ⊤
AllOrderAs j m (h ∷ hs) (c ∷ cs) = OrdersAs (after j m h) c × AllOrderAs j (after j m h) hs cs

-- a computer that goes on as a ride does orders the brake after each happening after which the ride counts an order, over
-- every list of happenings
abbrev pub LawOfOrders : Type 0
LawOfOrders =
    (j : Judging) (m : Moment) (c : Computer) (hs : List Happening) (cs : List Computer) → OrdersAs m c →
    AllGoOn j c hs cs → AllOrderAs j m hs cs
