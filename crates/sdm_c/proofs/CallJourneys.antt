-- A reading is done exactly where its record is taken, so each call adds to the rows what its record adds to the journey.
use Rattle.std.proofs.Common.{◌≡◌, ◌∙◌, ap, refl, sym, subst, ℕ, suc, Bool, true, false, List, [], ◌∷◌, IsTrue}
use Rattle.std.specs.List.{cons_option}
use Rattle.std.specs.Prelude.{Option, Some, None, Result, Ok, Err, ◌==◌, ◌&&◌, map, if◌then◌else◌}
use Rattle.sdm_rules.specs.declared.faults.CycleFault.{CycleFault}
use Rattle.sdm_rules.specs.declared.faults.EventCause.{EventCause}
use Rattle.sdm_rules.specs.declared.faults.EventFault.{EventFault}
use Rattle.sdm_rules.specs.declared.records.Event.{Event}
use Rattle.sdm_rules.specs.declared.records.Event.TheVariants as record_kinds
use Rattle.sdm_rules.specs.declared.rows.Row.{Row}
use Rattle.sdm_rules.specs.Records.{Journey, Turn, go_on, journey_from, row_at, rows_of, step, time_cause, time_fault}
use Rattle.sdm_rules.specs.Records.{turn_to, unless}
use Rattle.sdm_rules.specs.Supervision.{Supervision, after_reading, row_of}
use Rattle.sdm_ride.specs.Orders.{taken_or}
use Rattle.sdm_rules.specs.declared.authorities.Authority.TheVariants.{Stop, Limit}
use Rattle.sdm_rules.specs.Opening as accepted_states
use Rattle.sdm_row_laws.proofs.OpenTurns.{promised_turns}
use Rattle.sdm_train.proofs.Accepted.{IsTrain_of}
use Rattle.sdm_data.proofs.ReadData as data_read
use Rattle.sdm_opening.specs.Openings.{IsOpeningOf}
use Rattle.sdm_c.specs.declared.call_lists.Call.{Call}
use Rattle.sdm_c.specs.declared.call_lists.Call.TheVariants as calls
use Rattle.sdm_c.specs.declared.call_lists.Written.{Written}
use Rattle.sdm_c.specs.declared.handle.Handle.{Handle}
use Rattle.sdm_c.specs.declared.structs.RowC.{RowC}
use Rattle.sdm_c.specs.declared.structs.ReadingC.{ReadingC}
use Rattle.sdm_c.specs.Codes.{row_in_c}
use Rattle.sdm_c.specs.CallRows.{LawOfCallRows, all_keep_data, keeps_data, records_taken, rows_in, with_record, with_row}
use Rattle.sdm_c.specs.CallRows.{with_taken}
use Rattle.sdm_c.specs.CallLists.{Answer, AreMade, Made, after_record, answer_in, answer_of, left, record_of}
use Rattle.sdm_c.specs.CallLists.{supervisor_in, told}
use Rattle.sdm_c.specs.Numbers.{is_identity, is_reading, is_restriction, reading_from, restriction_from}
use Rattle.sdm_c.specs.Statuses.{done, in_range, time_status}

abbrev pub itself : ℕ → Event → Result Event EventFault
itself n e = Ok e

-- the rows in C's codes of the journey of records from a number and a state on
abbrev pub told_rows : ℕ → Supervision → List Event → List RowC
told_rows n s records = map row_in_c (rows_of (journey_from itself n s records).turns)

-- the row of a record that is taken, if it has one, before later rows
abbrev pub with_told : Result Supervision EventCause → Option Row → List RowC → List RowC
with_told (Ok t) (Some row) more = row_in_c row ∷ more
with_told (Ok t) None more = more
with_told (Err cause) row more = more

module _ (s : Supervision) (e : Event) (later : List Event) where
  -- a record that is taken begins the journey
  first : (n : ℕ) (t : Supervision) → step s e ≡ Ok t →
      journey_from itself n s (e ∷ later)
      ≡ go_on n (Ok (record { before = s; event = e; after = t })) (λ u. journey_from itself (suc n) u later)
  first n t is = ap (λ r. go_on n (turn_to s e r) (λ u. journey_from itself (suc n) u later)) is

  -- its row comes before theirs
  row_first : (t : Supervision) (row : Option Row) (turns : List Turn) → row_at s e ≡ row →
      map row_in_c (rows_of (record { before = s; event = e; after = t } ∷ turns))
      ≡ with_told (Ok t) row (map row_in_c (rows_of turns))
  row_first t None turns is = ap (λ o. map row_in_c (cons_option o (rows_of turns))) is
  row_first t (Some row) turns is = ap (λ o. map row_in_c (cons_option o (rows_of turns))) is

  -- what a record adds to the journey
  by_result : (n : ℕ) (r : Result Supervision EventCause) (row : Option Row) (rest : List RowC) → step s e ≡ r →
      row_at s e ≡ row → ((m : ℕ) → rest ≡ told_rows m (taken_or s r) later) →
      with_told r row rest ≡ told_rows n s (with_taken e r later)
  by_result n (Ok t) row rest is row_is same =
      ap (with_told (Ok t) row) (same (suc n))
      ∙ sym (row_first t row (journey_from itself (suc n) t later).turns row_is)
      ∙ sym (ap (λ (j : Journey). map row_in_c (rows_of j.turns)) (first n t is))
  by_result n (Err cause) row rest is row_is same = same n

  -- a record without a row
  none_told : (r : Result Supervision EventCause) (rest : List RowC) → rest ≡ with_told r None rest
  none_told (Ok t) rest = refl
  none_told (Err cause) rest = refl

  pub no_row : (n : ℕ) (rest : List RowC) → row_at s e ≡ None →
      ((m : ℕ) → rest ≡ told_rows m (taken_or s (step s e)) later) →
      rest ≡ told_rows n s (with_taken e (step s e) later)
  no_row n rest row_is same = none_told (step s e) rest ∙ by_result n (step s e) None rest refl row_is same

  pub no_row_if : (b : Bool) (n : ℕ) (rest : List RowC) → row_at s e ≡ None →
      ((m : ℕ) → rest ≡ told_rows m (after_record s (if b then Some e else None)) later) →
      rest ≡ told_rows n s (with_record s (if b then Some e else None) later)
  no_row_if true n rest row_is same = no_row n rest row_is same
  no_row_if false n rest row_is same = same n

  -- no record is refused in the journey of those that are taken
  accepted_by : (n : ℕ) (r : Result Supervision EventCause) → step s e ≡ r →
      ((m : ℕ) → (journey_from itself m (taken_or s r) later).refused ≡ None) →
      (journey_from itself n s (with_taken e r later)).refused ≡ None
  accepted_by n (Ok t) is same = ap (λ (j : Journey). j.refused) (first n t is) ∙ same (suc n)
  accepted_by n (Err cause) is same = same n

accepted_one : (n : ℕ) (s : Supervision) (e : Option Event) (later : List Event) →
    ((m : ℕ) → (journey_from itself m (after_record s e) later).refused ≡ None) →
    (journey_from itself n s (with_record s e later)).refused ≡ None
accepted_one n s None later same = same n
accepted_one n s (Some e) later same = accepted_by s e later n (step s e) refl same

pub accepted : (n : ℕ) (s : Supervision) (asked : List Call) →
    (journey_from itself n s (records_taken s asked)).refused ≡ None
accepted n s [] = refl
accepted n s (c ∷ more) =
    accepted_one n s (record_of c) _ (λ m. accepted m (after_record s (record_of c)) more)

-- ---- A READING

module _ (s : Supervision) (r : ReadingC) (w : Written) (later : List Event) (rest : List RowC) where
  abbrev e : Event
  e = record_kinds.Read (reading_from r)

  abbrev row : RowC
  row = row_in_c (row_of s (reading_from r))

  -- what it writes, by its status
  abbrev written : ℕ → List RowC
  written status = if status == done then (if status == done then told s (calls.Cycle r) w else w).row ∷ rest else rest

  by_fault : (f : Option CycleFault) →
      written (time_status f) ≡ with_told (unless time_cause f (after_reading s (reading_from r)))
      (Some (row_of s (reading_from r))) rest
  by_fault None = refl
  by_fault (Some f) = refl

  reading_row : (b : Bool) (n : ℕ) → ((m : ℕ) → rest ≡ told_rows m (after_record s (if b then Some e else None)) later) →
      written (in_range b (time_status (time_fault s.last_time r.time_ds)))
      ≡ told_rows n s (with_record s (if b then Some e else None) later)
  unfolding step
  reading_row true n same = by_fault (time_fault s.last_time r.time_ds)
      ∙ by_result s e later n (step s e) (Some (row_of s (reading_from r))) rest refl refl same
  reading_row false n same = same n

-- ---- A CALL

module _ (s : Supervision) (w : Written) (opening : Result Supervision ℕ) (before : Option Supervision) where
  one : (n : ℕ) (c : Call) (later : List Event) (rest : List RowC) →
      ((m : ℕ) → rest ≡ told_rows m (after_record s (record_of c)) later) →
      with_row c (answer_of (Some s) w (record { call = c; opening = opening; before = before })) rest
      ≡ told_rows n s (with_record s (record_of c) later)
  one n calls.Open later rest same = same n
  one n (calls.Cycle r) later rest same = reading_row s r w later rest (is_reading r) n same
  one n (calls.End eoa svl release) later rest same =
      no_row s (record_kinds.Authority (Stop eoa svl release)) later n rest refl same
  one n (calls.EndCalculated eoa svl trip) later rest same =
      no_row s (record_kinds.Calculated eoa svl trip) later n rest refl same
  one n (calls.Limit loa speed) later rest same =
      no_row s (record_kinds.Authority (Limit loa speed)) later n rest refl same
  one n (calls.Restrict r) later rest same =
      no_row_if s (record_kinds.Restrict (restriction_from r)) later (is_restriction r) n rest refl same
  one n (calls.Revoke id) later rest same =
      no_row_if s (record_kinds.Revoke id) later (is_identity id) n rest refl same
  one n calls.TakeOver later rest same = same n
  one n (calls.Display r) later rest same = same n
  one n (calls.Causes r) later rest same = same n
  one n (calls.WouldCover r) later rest same = same n
  one n (calls.WouldCoverUpTo r) later rest same = same n
  one n (calls.HasTripPlace width excess) later rest same = same n
  one n (calls.ClearOf r a) later rest same = same n
  one n calls.Close later rest same = same n

  -- which supervisor it leaves
  pub stays : (c : Call) → IsTrue (keeps_data c) → left s before c ≡ Some (after_record s (record_of c))
  stays calls.Open is = refl
  stays (calls.Cycle r) is = refl
  stays (calls.End eoa svl release) is = refl
  stays (calls.EndCalculated eoa svl trip) is = refl
  stays (calls.Limit loa speed) is = refl
  stays (calls.Restrict r) is = refl
  stays (calls.Revoke id) is = refl
  stays calls.TakeOver is = absurd cc
  stays (calls.Display r) is = refl
  stays (calls.Causes r) is = refl
  stays (calls.WouldCover r) is = refl
  stays (calls.WouldCoverUpTo r) is = refl
  stays (calls.HasTripPlace width excess) is = refl
  stays (calls.ClearOf r a) is = refl
  stays calls.Close is = absurd cc

both : (a b : Bool) → IsTrue (a && b) → IsTrue a × IsTrue b
both true b is = (refl, is)
both false b is = absurd cc

-- what an opening opens
is_open : (s : Supervision) (given : List ℕ) → IsOpeningOf given s → accepted_states.IsOpen s
is_open s given o = subst accepted_states.IsOpen (sym o.state) (record {
  bands = (IsTrain_of o.train_and_track.train
      (data_read.accepted o.given.members o.train_and_track o.authority o.given.read).train).bands;
  usable = o.accepted.0;
})

-- ---- A LIST OF CALLS

abbrev pub calls_in : List Made → List Call
calls_in made = map (λ m. m.asked.call) made

pub journey_rows : (n : ℕ) (s : Supervision) (h : Handle) (w : Written) (made : List Made) → supervisor_in h ≡ Some s →
    AreMade h w made → IsTrue (all_keep_data made) → rows_in made ≡ told_rows n s (records_taken s (calls_in made))
journey_rows n s h w [] is made keep = refl
journey_rows n s h w (m ∷ more) is made keep =
    let c = m.asked.call in
    let e = record_of c in
    let here : answer_in m ≡ answer_of (Some s) w m.asked =
    made.0.answer ∙ ap (λ (o : Option Supervision). answer_of o w m.asked) is in
    let kept = both (keeps_data c) (all_keep_data more) keep in
    let next : supervisor_in m.handle ≡ Some (after_record s e) =
    ap (λ (a : Answer). a.supervisor) here ∙ stays s w m.asked.opening m.asked.before c kept.0 in
    ap (λ (a : Answer). with_row c a (rows_in more)) here
    ∙ one s w m.asked.opening m.asked.before n c (records_taken (after_record s e) (calls_in more)) (rows_in more)
    (λ k. journey_rows k (after_record s e) m.handle m.written more next made.1 kept.1)

-- THE ROWS OF C
pub call_rows : LawOfCallRows
call_rows given h w made is o are keep =
    let s = h.state in
    let opened : supervisor_in h ≡ Some s = ap (λ n. if n == 1 then Some s else None) is in
    record {
      rows = journey_rows 1 s h w made opened are keep;
      accepted = accepted 1 s (calls_in made);
      promised = promised_turns itself 1 s (records_taken s (calls_in made)) (is_open s given o)
          (ap (λ (x : Supervision). x.commands) o.state);
    }
