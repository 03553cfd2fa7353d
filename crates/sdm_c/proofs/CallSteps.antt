-- A call does to the supervisor what its record does in the ride, and a row in C's codes asks for the brake where the
-- row of the definitions does. So each step goes on as the ride, and each list of them.
use Rattle.std.proofs.Common.{◌≡◌, ◌⊎◌, ◌∙◌, ap, refl, sym, subst, ℕ, Bool, true, false, List, [], ◌∷◌, inl, inr, not, arith}
use Rattle.std.proofs.lemmas.Bool.Decides.{eqb_tells}
use Rattle.std.proofs.lemmas.Option.{none-some, same_Some}
use Rattle.std.proofs.lemmas.List.Elements.{All-nil, All-cons}
use Rattle.std.specs.Prelude.{All, Option, Some, None, Ok, ◌==◌, ◌&&◌, ◌||◌, map, suc, if◌then◌else◌}
use Rattle.sdm_num.specs.Readings.{OdometerReading}
use Rattle.sdm_rules.specs.declared.commands.State.{State}
use Rattle.sdm_rules.specs.declared.commands.State.TheVariants.{C, T, R}
use Rattle.sdm_rules.specs.declared.faults.CycleFault.{CycleFault}
use Rattle.sdm_rules.specs.declared.faults.TakeOverFault.{TakeOverFault}
use Rattle.sdm_rules.specs.declared.records.Event.{Event}
use Rattle.sdm_rules.specs.declared.records.Event.TheVariants as record_kinds
use Rattle.sdm_rules.specs.declared.rows.Row.{Row}
use Rattle.sdm_rules.specs.Records.{step, time_cause, time_fault, unless}
use Rattle.sdm_rules.specs.Supervision.{Supervision, after_reading, row_of}
use Rattle.sdm_rules.specs.TakeOver.{change, take_over_fault, taken_over, unless_refused}
use Rattle.sdm_supervisor.specs.TakeOvers.{is_fresh}
use Rattle.sdm_ride.specs.Happenings.{Happening, Record, Unread, Overdue, Change}
use Rattle.sdm_ride.specs.Moments.{by_rows, is_ordered, is_release}
use Rattle.sdm_ride.specs.Orders.{Computer, GoesOn, changed_or, judged_in, reading_if, supervision_after}
use Rattle.sdm_ride.specs.RideLaws.{EndsBy}
use Rattle.sdm_ride.proofs.ComputerRides.{computer_places, computer_rides}
use Rattle.sdm_c.specs.declared.call_lists.Call.{Call}
use Rattle.sdm_c.specs.declared.call_lists.Call.TheVariants as calls
use Rattle.sdm_c.specs.declared.call_lists.Written.{Written}
use Rattle.sdm_c.specs.declared.handle.Handle.{Handle}
use Rattle.sdm_c.specs.declared.structs.ReadingC.{ReadingC}
use Rattle.sdm_c.specs.Codes.{flag, row_in_c, state_code}
use Rattle.sdm_c.specs.Numbers.{is_identity, is_reading, is_restriction, reading_from, restriction_from}
use Rattle.sdm_c.specs.CallLists.{Answer, after_change, after_record, answer, answer_in, answer_of}
use Rattle.sdm_c.specs.CallLists.{left, record_of, supervisor_in, told}
use Rattle.sdm_c.specs.CallRides.{CallingComputer, CallsOnce, ChangesHandle, IsStep, LawOfCallOrders}
use Rattle.sdm_c.specs.CallRides.{LawOfCallPlaces, LawOfCallRides, Waits, asks_brake, change_to, happening_of, happening_with}
use Rattle.sdm_c.specs.CallRides.{judges, seen}
use Rattle.sdm_c.specs.Statuses.{IsOpen, change_status, done, in_range, not_fresh, take_over_answer, time_status}
use Rattle.sdm_c.proofs.CallJourneys.{stays}

-- ---- handles

-- the supervisor of an open handle
of_open : (h : Handle) → IsOpen h → supervisor_in h ≡ Some h.state
of_open h is = ap (λ n. if n == 1 then Some h.state else None) is

-- a handle with a supervisor is open, and has its state
opened_by : (h : Handle) (s : Supervision) → supervisor_in h ≡ Some s → IsOpen h × (h.state ≡ s)
opened_by h s is = elim (eqb_tells h.is_open 1) [
  | inl e ↦ (e.1, same_Some h.state s (sym (ap (λ (b : Bool). if b then Some h.state else None) e.0) ∙ is))
  | inr e ↦ absurd (none-some s (sym (ap (λ (b : Bool). if b then Some h.state else None) e.0) ∙ is))
]

-- ---- rows

asks_in : (eb covered : Bool) (state : State) →
    (flag eb == 1 || (flag covered == 0 && not (state_code state == state_code R)))
    ≡ (eb || (not covered && not (is_release state)))
asks_in true covered state = refl
asks_in false true state = refl
asks_in false false C = refl
asks_in false false T = refl
asks_in false false R = refl

-- a row in C's codes asks for the brake where the row does
asks_same : (row : Row) → asks_brake (row_in_c row) ≡ is_ordered row
asks_same row = asks_in row.held.eb row.covered row.state

-- ---- calls and records

same_state : (s : Supervision) (e : Option Event) → after_record s e ≡ supervision_after s (happening_with e)
same_state s None = refl
same_state s (Some e) = refl

-- a reading that is judged in a call
record JudgedBy (s : Supervision) (r : ReadingC) (q : OdometerReading) (status : ℕ) : Type 0 where
  same : reading_from r ≡ q
  is_done : status ≡ done

module _ (s : Supervision) (r : ReadingC) where
  by_fault : (q : OdometerReading) (f : Option CycleFault) →
      reading_if (record_kinds.Read (reading_from r)) (unless time_cause f (after_reading s (reading_from r))) ≡ Some q →
      JudgedBy s r q (time_status f)
  by_fault q None is = record { same = same_Some _ q is; is_done = refl }
  by_fault q (Some fault) is = absurd (none-some q is)

  judged_reading : (b : Bool) (q : OdometerReading) →
      judged_in s (happening_with (if b then Some (record_kinds.Read (reading_from r)) else None)) ≡ Some q →
      JudgedBy s r q (in_range b (time_status (time_fault s.last_time r.time_ds)))
  unfolding step
  judged_reading true q is = by_fault q (time_fault s.last_time r.time_ds) is
  judged_reading false q is = absurd (none-some q is)

  unjudged_fault : (f : Option CycleFault) →
      reading_if (record_kinds.Read (reading_from r)) (unless time_cause f (after_reading s (reading_from r))) ≡ None →
      (time_status f == done) ≡ false
  unjudged_fault None is = absurd (none-some _ (sym is))
  unjudged_fault (Some fault) is = refl

  unjudged_reading : (b : Bool) →
      judged_in s (happening_with (if b then Some (record_kinds.Read (reading_from r)) else None)) ≡ None →
      (in_range b (time_status (time_fault s.last_time r.time_ds)) == done) ≡ false
  unfolding step
  unjudged_reading true is = unjudged_fault (time_fault s.last_time r.time_ds) is
  unjudged_reading false is = refl

module _ (s : Supervision) (before : Option Supervision) where
  -- a record of another kind, where its numbers are in range
  none_judged_if : (b : Bool) (e : Event) → ((t : Supervision) → reading_if e (Ok t) ≡ None) →
      ((q : OdometerReading) → judged_in s (Record e) ≡ Some q → ⊥) → (q : OdometerReading) →
      judged_in s (happening_with (if b then Some e else None)) ≡ Some q → ⊥
  none_judged_if true e other none q is = none q is
  none_judged_if false e other none q is = none-some q is

  -- a reading that is judged in a call is one that is done, and its row is told
  judged_call : (c : Call) (q : OdometerReading) (w : Written) → judged_in s (happening_of c) ≡ Some q →
      (judges c (answer s before c) ≡ true)
      × ((if answer s before c == done then told s c w else w).row ≡ row_in_c (row_of s q))
  judged_call calls.Open q w is = absurd (none-some q is)
  judged_call (calls.Cycle r) q w is =
      let j = judged_reading s r (is_reading r) q is in (
        ap (λ n. n == done) j.is_done,
        ap (λ n. (if n == done then told s (calls.Cycle r) w else w).row) j.is_done
            ∙ ap (λ (x : OdometerReading). row_in_c (row_of s x)) j.same,
      )
  judged_call (calls.End eoa svl release) q w is = absurd (none-some q is)
  judged_call (calls.EndCalculated eoa svl trip) q w is = absurd (none-some q is)
  judged_call (calls.Limit loa speed) q w is = absurd (none-some q is)
  judged_call (calls.Restrict r) q w is =
      absurd (none_judged_if (is_restriction r) (record_kinds.Restrict (restriction_from r)) (λ t. refl)
      (λ q is. none-some q is) q is)
  judged_call (calls.Revoke id) q w is =
      absurd (none_judged_if (is_identity id) (record_kinds.Revoke id) (λ t. refl) (λ q is. none-some q is) q is)
  judged_call calls.TakeOver q w is = absurd (none-some q is)
  judged_call (calls.Display r) q w is = absurd (none-some q is)
  judged_call (calls.Causes r) q w is = absurd (none-some q is)
  judged_call (calls.WouldCover r) q w is = absurd (none-some q is)
  judged_call (calls.WouldCoverUpTo r) q w is = absurd (none-some q is)
  judged_call (calls.HasTripPlace width excess) q w is = absurd (none-some q is)
  judged_call (calls.ClearOf r a) q w is = absurd (none-some q is)
  judged_call calls.Close q w is = absurd (none-some q is)

  -- and where none is judged, none is done
  unjudged_call : (c : Call) → judged_in s (happening_of c) ≡ None → judges c (answer s before c) ≡ false
  unjudged_call calls.Open is = refl
  unjudged_call (calls.Cycle r) is = unjudged_reading s r (is_reading r) is
  unjudged_call (calls.End eoa svl release) is = refl
  unjudged_call (calls.EndCalculated eoa svl trip) is = refl
  unjudged_call (calls.Limit loa speed) is = refl
  unjudged_call (calls.Restrict r) is = refl
  unjudged_call (calls.Revoke id) is = refl
  unjudged_call calls.TakeOver is = refl
  unjudged_call (calls.Display r) is = refl
  unjudged_call (calls.Causes r) is = refl
  unjudged_call (calls.WouldCover r) is = refl
  unjudged_call (calls.WouldCoverUpTo r) is = refl
  unjudged_call (calls.HasTripPlace width excess) is = refl
  unjudged_call (calls.ClearOf r a) is = refl
  unjudged_call calls.Close is = refl

-- ---- one step

-- a step leaves a handle open, and goes on as the ride
record StepsOn (before : CallingComputer) (h : Happening) (now : CallingComputer) : Type 0 where
  is_open : IsOpen now.handle
  goes_on : GoesOn by_rows (seen before) h (seen now)

not_overdue : (e : Option Event) → happening_with e ≡ Overdue → ⊥
not_overdue None is = cc
not_overdue (Some e) is = cc

calls_on : (before : CallingComputer) (h : Happening) (now : CallingComputer) → IsOpen before.handle →
    CallsOnce before h now → StepsOn before h now
calls_on before h now is_open x =
    let s = before.handle.state in
    let c = x.made.asked.call in
    let a = x.made.asked in
    let here : answer_in x.made ≡ answer_of (Some s) x.written a =
    x.is_made.answer ∙ ap (λ (o : Option Supervision). answer_of o x.written a) (of_open before.handle is_open) in
    let next : supervisor_in x.made.handle ≡ Some (after_record s (record_of c)) =
    ap (λ (z : Answer). z.supervisor) here ∙ stays s x.written a.opening a.before c x.keeps in
    let made = opened_by x.made.handle (after_record s (record_of c)) next in
    let status : x.made.status ≡ answer s a.before c = ap (λ (z : Answer). z.status) here in
    let row : x.made.written.row ≡ (if answer s a.before c == done then told s c x.written else x.written).row =
    ap (λ (z : Answer). z.written.row) here in
    record {
      is_open = subst IsOpen (sym x.handle) made.0;
      goes_on = record {
        supervision = ap (λ (z : Handle). z.state) x.handle ∙ made.1 ∙ same_state s (record_of c)
            ∙ ap (supervision_after s) (sym x.is_for);
        judged = λ q judged orders.
            let is : judged_in s (happening_of c) ≡ Some q = ap (judged_in s) (sym x.is_for) ∙ judged in
            let told_row = judged_call s a.before c q x.written is in
            x.row (ap (judges c) status ∙ told_row.0)
            (ap asks_brake (row ∙ told_row.1) ∙ asks_same (row_of s q) ∙ orders);
        overdue = λ is. absurd (not_overdue (record_of c) (sym x.is_for ∙ is));
        stands = λ none stood.
            x.stands (ap (judges c) status ∙ unjudged_call s a.before c (ap (judged_in s) (sym x.is_for) ∙ none)) stood;
      };
    }

-- what comes of a change of data: the next supervisor has taken over, or the old one stands
module _ (n s : Supervision) where
  comes_of : (fresh : Bool) (f : Option TakeOverFault) →
      take_over_fault n.train_and_track.track.length_cm s.restrictions ≡ f →
      (((if fresh then change_status f else not_fresh) ≡ done)
      × (supervision_after s (if fresh then Change n else Unread) ≡ taken_over n s))
      ⊎ ((((if fresh then change_status f else not_fresh) == done) ≡ false)
      × (supervision_after s (if fresh then Change n else Unread) ≡ s))
  unfolding change
  comes_of true None is = inl (refl, ap (λ f. changed_or s (unless_refused f (taken_over n s))) is)
  comes_of true (Some fault) is = inr (refl, ap (λ f. changed_or s (unless_refused f (taken_over n s))) is)
  comes_of false f is = inr (refl, refl)

  none_judged : (fresh : Bool) → judged_in s (if fresh then Change n else Unread) ≡ None
  none_judged true = refl
  none_judged false = refl

  none_missing : (fresh : Bool) → (if fresh then Change n else Unread) ≡ Overdue → ⊥
  none_missing true is = cc
  none_missing false is = cc

changes_on : (before : CallingComputer) (h : Happening) (now : CallingComputer) → IsOpen before.handle →
    ChangesHandle before h now → StepsOn before h now
changes_on before h now is_open x =
    let s = before.handle.state in
    let n = x.next.state in
    let a = x.made.asked in
    let here : answer_in x.made ≡ answer_of (Some n) x.written a =
    x.is_made.answer ∙ ap (λ (o : Option Supervision). answer_of o x.written a) (of_open x.next x.is_open) in
    let from : a.before ≡ Some s = x.from ∙ of_open before.handle is_open in
    let status : x.made.status ≡ take_over_answer n s =
    ap (λ (z : Answer). z.status) here ∙ ap (answer n a.before) x.takes_over ∙ ap (λ o. answer n o calls.TakeOver) from in
    let left_is : supervisor_in x.made.handle ≡ Some (after_change n (Some s)) =
    ap (λ (z : Answer). z.supervisor) here ∙ ap (left n a.before) x.takes_over ∙ ap (λ o. left n o calls.TakeOver) from in
    let made = opened_by x.made.handle (after_change n (Some s)) left_is in
    let runs : IsOpen now.handle × (now.handle.state ≡ supervision_after s (change_to n)) =
    elim (comes_of n s (is_fresh n) (take_over_fault n.train_and_track.track.length_cm s.restrictions) refl) [
      | inl taken ↦ (
          let is : now.handle ≡ x.made.handle =
          x.handle ∙ ap (λ k. if k == done then x.made.handle else before.handle) (status ∙ taken.0) in (
            subst IsOpen (sym is) made.0,
            ap (λ (z : Handle). z.state) is ∙ made.1 ∙ ap (λ k. if k == done then taken_over n s else n) taken.0
                ∙ sym taken.1,
          ))
      | inr kept ↦ (
          let is : now.handle ≡ before.handle =
          x.handle ∙ ap (λ b. if b then x.made.handle else before.handle) (ap (λ k. k == done) status ∙ kept.0) in
          (subst IsOpen (sym is) is_open, ap (λ (z : Handle). z.state) is ∙ sym kept.1))
    ] in
    record {
      is_open = runs.0;
      goes_on = record {
        supervision = runs.1 ∙ ap (supervision_after s) (sym x.is_for);
        judged = λ q judged orders.
            absurd (none-some q (sym (none_judged n s (is_fresh n)) ∙ ap (judged_in s) (sym x.is_for) ∙ judged));
        overdue = λ is. absurd (none_missing n s (is_fresh n) (sym x.is_for ∙ is));
        stands = λ none stood. x.stands stood;
      };
    }

waits_on : (before : CallingComputer) (h : Happening) (now : CallingComputer) → IsOpen before.handle →
    Waits before h now → StepsOn before h now
waits_on before h now is_open x =
    let s = before.handle.state in
    let quiet : (supervision_after s h ≡ s) × (judged_in s h ≡ None) = elim x.is_for [
      | inl is ↦ (ap (supervision_after s) is, ap (judged_in s) is)
      | inr tick ↦ (ap (supervision_after s) tick.2, ap (judged_in s) tick.2)
    ] in
    record {
      is_open = subst IsOpen (sym x.handle) is_open;
      goes_on = record {
        supervision = ap (λ (z : Handle). z.state) x.handle ∙ sym quiet.0;
        judged = λ q judged orders. absurd (none-some q (sym quiet.1 ∙ judged));
        overdue = x.overdue;
        stands = λ none stood. x.stands stood;
      };
    }

steps_on : (before : CallingComputer) (h : Happening) (now : CallingComputer) → IsOpen before.handle →
    IsStep before h now → StepsOn before h now
steps_on before h now is_open (inl x) = calls_on before h now is_open x
steps_on before h now is_open (inr (inl x)) = changes_on before h now is_open x
steps_on before h now is_open (inr (inr x)) = waits_on before h now is_open x

-- ---- lists of them

pub call_orders : LawOfCallOrders
call_orders c [] [] is_open steps = tt
call_orders c [] (d ∷ ds) is_open steps = absurd steps
call_orders c (h ∷ hs) [] is_open steps = absurd steps
call_orders c (h ∷ hs) (d ∷ ds) is_open steps =
    let next = steps_on c h d is_open steps.0 in
    (next.goes_on, call_orders d hs ds next.is_open steps.1)

pub call_rides : LawOfCallRides
call_rides w s m c hs cs s_pos start is_open same steps ride =
    computer_rides.rows w s m (seen c) hs (map seen cs) s_pos start same (call_orders c hs cs is_open steps) ride

-- what holds of each computer holds of what is seen of it
all_seen : (place : ℕ) (cs : List CallingComputer) → All (λ d. EndsBy place d.handle.state.authority) cs →
    All (λ d. EndsBy place d.supervision.authority) (map seen cs)
all_seen place [] all = All-nil (λ (d : Computer). EndsBy place d.supervision.authority)
all_seen place (c ∷ cs) all =
    All-cons (λ (d : Computer). EndsBy place d.supervision.authority) (seen c) (map seen cs) (all 0 c (omega arith))
    (all_seen place cs (λ k d lt. all (suc k) d (omega arith)))

pub call_places : LawOfCallPlaces
call_places w s place m c hs cs s_pos start is_open same steps ride ends =
    computer_places.rows w s place m (seen c) hs (map seen cs) s_pos start same (call_orders c hs cs is_open steps) ride
    (all_seen place (c ∷ cs) ends)
