-- The order of a ride stands only where a computer's does: a reading gives both, and nothing but a reading takes either
-- away. So it is after each happening, one after the other.
use Rattle.std.proofs.Common.{◌≡◌, ℕ, suc, Bool, true, false, [], ◌∷◌, Option, Some, None, refl, sym, ◌∙◌}
use Rattle.std.proofs.Common.{if◌then◌else◌, subst, ap}
use Rattle.std.specs.Prelude.{Result, Ok, Err, is_some, option_map}
use Rattle.sdm_num.specs.Readings.{OdometerReading}
use Rattle.sdm_rules.specs.declared.faults.EventCause.{EventCause}
use Rattle.sdm_rules.specs.declared.faults.TakeOverFault.{TakeOverFault}
use Rattle.sdm_rules.specs.declared.records.Event.{Event}
use Rattle.sdm_rules.specs.declared.records.Event.TheVariants as record_kinds
use Rattle.sdm_rules.specs.Records.{step}
use Rattle.sdm_rules.specs.Supervision.{Supervision}
use Rattle.sdm_rules.specs.TakeOver.{change}
use Rattle.sdm_ride.specs.Happenings.{Happening, Record, Unread, Overdue, Change, Tick}
use Rattle.sdm_ride.specs.Moments.{Judging, Moment, after, after_change, after_record, ordered}
use Rattle.sdm_ride.specs.Orders.{Computer, GoesOn, LawOfOrders, OrdersAs, judged_in, reading_if}
use Rattle.sdm_ride.specs.Orders.{changed_or, supervision_after, taken_or}

-- ---- the supervisor

-- a record leads the ride to the state that the supervisor takes
leads_to : (j : Judging) (m : Moment) (e : Event) (t : Result Supervision EventCause) →
    (after_record j m e t).supervision ≡ taken_or m.supervision t
leads_to j m (record_kinds.Read r) (Ok t) = refl
leads_to j m (record_kinds.Authority a) (Ok t) = refl
leads_to j m (record_kinds.Calculated eoa svl trip) (Ok t) = refl
leads_to j m (record_kinds.Restrict r) (Ok t) = refl
leads_to j m (record_kinds.Revoke id) (Ok t) = refl
leads_to j m e (Err cause) = refl

-- so does a change of data
leads_over : (m : Moment) (t : Result Supervision TakeOverFault) →
    (after_change m t).supervision ≡ changed_or m.supervision t
leads_over m (Ok t) = refl
leads_over m (Err fault) = refl

-- so does each happening
pub leads : (j : Judging) (m : Moment) (h : Happening) →
    (after j m h).supervision ≡ supervision_after m.supervision h
unfolding after
leads j m (Record e) = leads_to j m e (step m.supervision e)
leads j m Unread = refl
leads j m Overdue = refl
leads j m (Change next) = leads_over m (change next m.supervision)
leads j m (Tick to length) = refl

-- ---- the order

-- an order that was counted on was there before the tick
was_there : (o : Option ℕ) → is_some (option_map (λ o. suc o) o) ≡ true → is_some o ≡ true
was_there (Some o) e = refl
was_there None e = e

-- an order after a reading was asked for
asked_for : (asked : Bool) (o : Option ℕ) → is_some (if asked then ordered o else None) ≡ true → asked ≡ true
asked_for true o e = refl
asked_for false o e = absurd cc

-- after a record, taken or refused
record_orders : (j : Judging) (m : Moment) (e : Event) (t : Result Supervision EventCause) (before now : Bool) →
    ((r : OdometerReading) → reading_if e t ≡ Some r → j.orders m.supervision r ≡ true → now ≡ true) →
    (reading_if e t ≡ None → before ≡ true → now ≡ true) →
    (is_some m.order ≡ true → before ≡ true) → is_some (after_record j m e t).order ≡ true →
    now ≡ true
record_orders j m (record_kinds.Read r) (Err cause) before now asks stands both is = stands refl (both is)
record_orders j m (record_kinds.Authority a) (Err cause) before now asks stands both is = stands refl (both is)
record_orders j m (record_kinds.Calculated eoa svl trip) (Err cause) before now asks stands both is =
    stands refl (both is)
record_orders j m (record_kinds.Restrict r) (Err cause) before now asks stands both is = stands refl (both is)
record_orders j m (record_kinds.Revoke id) (Err cause) before now asks stands both is = stands refl (both is)
record_orders j m (record_kinds.Read r) (Ok t) before now asks stands both is =
    asks r refl (asked_for (j.orders m.supervision r) m.order is)
record_orders j m (record_kinds.Authority a) (Ok t) before now asks stands both is = stands refl (both is)
record_orders j m (record_kinds.Calculated eoa svl trip) (Ok t) before now asks stands both is =
    stands refl (both is)
record_orders j m (record_kinds.Restrict r) (Ok t) before now asks stands both is = stands refl (both is)
record_orders j m (record_kinds.Revoke id) (Ok t) before now asks stands both is = stands refl (both is)

-- over a change of data the order stays
same_order : (m : Moment) (t : Result Supervision TakeOverFault) → (after_change m t).order ≡ m.order
same_order m (Ok t) = refl
same_order m (Err fault) = refl

-- after a happening, of a computer whose supervisor is that of the ride
still_ordered : (j : Judging) (m : Moment) (c : Computer) (h : Happening) (d : Computer) →
    c.supervision ≡ m.supervision → GoesOn j c h d → (is_some m.order ≡ true → c.orders_brake ≡ true) →
    is_some (after j m h).order ≡ true → d.orders_brake ≡ true
unfolding after
still_ordered j m c (Record e) d same g both is =
    record_orders j m e (step m.supervision e) c.orders_brake d.orders_brake
    (subst (λ (s : Supervision). (r : OdometerReading) → judged_in s (Record e) ≡ Some r →
    j.orders s r ≡ true → d.orders_brake ≡ true) same g.judged)
    (subst (λ (s : Supervision). judged_in s (Record e) ≡ None → c.orders_brake ≡ true → d.orders_brake ≡ true) same
    g.stands)
    both is
still_ordered j m c Unread d same g both is = g.stands refl (both is)
still_ordered j m c Overdue d same g both is = g.overdue refl
still_ordered j m c (Change next) d same g both is =
    g.stands refl (both (ap (λ o. is_some o) (sym (same_order m (change next m.supervision))) ∙ is))
still_ordered j m c (Tick to length) d same g both is = g.stands refl (both (was_there m.order is))

-- one happening
pub orders_on : (j : Judging) (m : Moment) (c : Computer) (h : Happening) (d : Computer) → OrdersAs m c →
    GoesOn j c h d → OrdersAs (after j m h) d
orders_on j m c h d same g = record {
  supervision = g.supervision ∙ ap (λ s. supervision_after s h) same.supervision ∙ sym (leads j m h);
  ordered = still_ordered j m c h d same.supervision g same.ordered;
}

-- the law of orders
pub orders : LawOfOrders
orders j m c [] [] same all = tt
orders j m c [] (d ∷ ds) same all = tt
orders j m c (h ∷ hs) [] same all = tt
orders j m c (h ∷ hs) (d ∷ ds) same all =
    let next = orders_on j m c h d same all.0 in
    (next, orders j (after j m h) d hs ds next all.1)
