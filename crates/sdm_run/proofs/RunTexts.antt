-- The output of records, record by record, and the outcomes that it may end with.
use Rattle.std.proofs.Common.{◌≡◌, ℕ, zero, suc, ◌≤◌, List, [], ◌∷◌, Option, Some, None, refl, ap, ◌∙◌, sym}
use Rattle.std.proofs.Common.{subst}
use Rattle.std.specs.Prelude.{Result, Ok, Err, OnOk, OnErr, is_err, Bool, true, false, not, IsTrue}
use Rattle.std.proofs.lemmas.Bool.{le-ltb}
use Rattle.std.proofs.KnownBytes.{Appends-nil}
use Rattle.std.specs.Io.KnownBytes.{Appends}
use Rattle.sdm_num.specs.Readings.{OdometerReading}
use Rattle.sdm_rules.specs.declared.faults.EventFault.{EventFault}
use Rattle.sdm_rules.specs.declared.faults.EventCause.{EventCause}
use Rattle.sdm_rules.specs.declared.faults.EventCause.TheVariants as causes
use Rattle.sdm_rules.specs.declared.faults.TripFault.{TripFault}
use Rattle.sdm_rules.specs.declared.faults.TripFault.TheVariants as trip_faults
use Rattle.sdm_rules.specs.declared.faults.CycleFault.{CycleFault}
use Rattle.sdm_rules.specs.declared.faults.CycleFault.TheVariants.{TimeBack}
use Rattle.sdm_rules.specs.declared.records.Event.{Event}
use Rattle.sdm_rules.specs.declared.records.Event.TheVariants as record_kinds
use Rattle.sdm_rules.specs.declared.rows.Row.{Row}
use Rattle.sdm_rules.specs.Records.{Turn, row_at, authority_fault, restrict_fault, revoke_fault, time_fault, time_cause}
use Rattle.sdm_rules.specs.Records.{trip_cause, trip_fault, unless, step, turn_of, turn_to, event_at, journey_from}
use Rattle.sdm_rules.specs.Records.{most_records}
use Rattle.sdm_rules.specs.Supervision.{Supervision, after_reading, row_of}
use Rattle.sdm_formats.specs.Flat.{Output}
use Rattle.sdm_formats.specs.Forms.{event_of}
use Rattle.sdm_formats.specs.Input as ends
use Rattle.sdm_formats.specs.Text.{display_text, row_text}
use Rattle.sdm_causes.specs.Text.{causes_text}
use Rattle.sdm_report.specs.declared.outcome.InputFault.TheVariants.{NoSplit, Toml, Data}
use Rattle.sdm_report.specs.declared.outcome.Outcome.{Outcome}
use Rattle.sdm_report.specs.declared.outcome.Outcome.TheVariants.{Done, Usage, ReadFault, WriteFault, TooLong, BadData}
use Rattle.sdm_report.specs.declared.outcome.Outcome.TheVariants.{Refused, BadEvent, Memory, Undrivable}
use Rattle.sdm_events.specs.Journey.{Record}
use Rattle.sdm_run.specs.Answers.{ComesOfReadingAlone, IsAnswer, LeavesOutUntouched}
use Rattle.sdm_run.specs.declared.endings.Ended.{Ended}
use Rattle.sdm_run.specs.declared.journey_records.Taken.TheVariants.{Told, Cut}
use Rattle.sdm_run.specs.declared.tellers.Teller.{Teller}
use Rattle.sdm_run.specs.declared.tellers.Teller.TheVariants.{Rows, Displays, Causes, Certificates}
use Rattle.sdm_run.specs.RunParts.{IsTakenRecord, IsToldReading, IsToldRecord, IsToldTurn, output_of_records}
use Rattle.sdm_run.specs.RunParts.{TellsEach, turns_text}
use Rattle.sdm_run.specs.Shapes.{IsOutcomeIn, is_of_line, records_shape}
use Rattle.sdm_run.proofs.CertifyTexts.{none_told}
use Rattle.sdm_run.proofs.OutputLeft.{IsLeftOf, cut_off, empty_left, left_empty, line_some, wrote}

-- ---- one record

-- no turns have no text
pub none_of_none : (teller : Teller) → turns_text teller [] ≡ []
none_of_none Rows = refl
none_of_none Displays = refl
none_of_none Causes = refl
none_of_none (Certificates zero) = refl
none_of_none (Certificates (suc left)) = refl

-- the state after a reading that was taken
pub state_is : (s t : Supervision) (n : ℕ) (x : Record) (r : OdometerReading) (row : Row) →
    IsTakenRecord s t (event_at event_of n x) (Some (r, row)) → t ≡ after_reading s r
unfolding step
state_is s t n x r row taken = by_time (time_fault s.last_time r.time) taken.1
  where
    by_time : (o : Option CycleFault) → unless time_cause o (after_reading s r) ≡ Ok t → t ≡ after_reading s r
    by_time None is = cc
    by_time (Some fault) is = absurd cc

-- where a line is told of each reading, turns that begin with one have a text
reading_line : (teller : Teller) → TellsEach teller → (s t : Supervision) (r : OdometerReading) (more : List Turn) →
    turns_text teller (record { before = s; event = record_kinds.Read r; after = t } ∷ more) ≡ [] → ⊥
unfolding row_text display_text causes_text
reading_line Rows each s t r more none = line_some _ (empty_left _ _ none)
reading_line Displays each s t r more none = line_some _ (empty_left _ _ none)
reading_line Causes each s t r more none = line_some _ (empty_left _ _ none)
reading_line (Certificates left) each s t r more none = each

module _ (teller : Teller) (n : ℕ) (s : Supervision) where
  -- the output of no records
  pub none_left : (records : List Record) → records ≡ [] →
      output_of_records teller n s records ≡ record { text = []; end = ends.Done }
  none_left records none = rw (none, none_of_none teller) refl

  module _ (records more : List Record) (x : Record) (first : records ≡ x ∷ more) where
    -- the output of records of which the first is refused
    pub first_refused : (cause : EventCause) → turn_of s (event_at event_of n x) ≡ Err cause →
        output_of_records teller n s records ≡ record { text = []; end = ends.BadEvent n cause }
    first_refused cause is = rw (first, is, none_of_none teller) refl

    module _ (old mid new : Option (List ℕ)) (whole : Output)
        (so_far : IsLeftOf old mid whole (output_of_records teller n s records)) (t : Supervision) where
      -- the output of records of which the first is taken
      first_taken : (e : Event) → event_at event_of n x ≡ Ok e → step s e ≡ Ok t →
          output_of_records teller n s records ≡ record {
            text = turns_text teller
                (record { before = s; event = e; after = t } ∷ (journey_from (event_at event_of) (suc n) t more).turns);
            end = (output_of_records teller (suc n) t more).end;
          }
      first_taken e form accepted = rw (first, form, accepted) refl

      -- what is left after a turn that was told
      left_after : (e : Event) → event_at event_of n x ≡ Ok e → step s e ≡ Ok t → (after : Teller) (text : List ℕ) →
          IsToldTurn teller after (record { before = s; event = e; after = t }) text → Appends mid new text →
          IsLeftOf old new whole (output_of_records after (suc n) t more)
      left_after e form accepted after text told taken =
          let later = journey_from (event_at event_of) (suc n) t more in
          let next = output_of_records after (suc n) t more in
          wrote old mid new whole (output_of_records teller n s records) so_far text next
          (first_taken e form accepted ∙ (λ k. record { text = told.rest later.turns k; end = next.end }))
          told.whole_lines taken

      -- an event that has no row
      pub event_told : IsTakenRecord s t (event_at event_of n x) None → mid ≡ new →
          IsLeftOf old new whole (output_of_records teller (suc n) t more)
      event_told (e, form, accepted, none) same =
          left_after e form accepted teller [] (none_told teller s t e none)
          (subst (λ taken. Appends mid taken []) same (Appends-nil mid))

      module _ (r : OdometerReading) (row : Row)
          (taken : IsTakenRecord s t (event_at event_of n x) (Some (r, row))) where
        -- where a line is told of each reading, the whole has a text
        pub reading_some : TellsEach teller → whole.text ≡ [] → ⊥
        reading_some each none =
            let later = journey_from (event_at event_of) (suc n) t more in
            let texts = ap (λ (o : Output). o.text) (first_taken (record_kinds.Read r) taken.0 taken.1) in
            reading_line teller each s t r later.turns
            (sym texts ∙ left_empty old mid whole (output_of_records teller n s records) so_far none)

        -- a reading that was told
        pub reading_told : (after : Teller) → IsToldReading teller r row t mid new (Ok after) →
            IsLeftOf old new whole (output_of_records after (suc n) t more)
        reading_told after h =
            let told = h s taken.2 (state_is s t n x r row taken) in
            left_after (record_kinds.Read r) taken.0 taken.1 after told.0 told.1 told.2

        -- or not to its end
        pub reading_cut : (ended : Ended) → (ComesOfReadingAlone ended.outcome → ⊥) →
            IsToldReading teller r row t mid new (Err ended) → IsAnswer whole old new ended.outcome
        reading_cut ended never h = cut_off old mid new whole (output_of_records teller n s records) so_far
            ended.outcome never (rw (first_taken (record_kinds.Read r) taken.0 taken.1) (h s taken.2 (state_is s t n x r row taken) _ _))

-- what is said of an answer that is no failure
pub where_ok : {A B : Type 0} (answer : Result A B) (P : Type 0) → is_err answer ≡ false → OnOk answer P → P
where_ok (Ok x) P is h = h
where_ok (Err fault) P is h = cc is

-- what is said of a failure
pub where_err : {A B : Type 0} (answer : Result A B) (P : Type 0) → is_err answer ≡ true → OnErr answer P → P
where_err (Ok x) P is h = cc is
where_err (Err fault) P is h = h

-- ---- a record that is taken, or refused

module _ (s : Supervision) (n : ℕ) (x : Record) (e : Event) (counted : n ≤ most_records)
    (form : event_of x ≡ Ok e) where
  -- the event at its number
  pub form_at : event_at event_of n x ≡ Ok e
  form_at = rw (le-ltb most_records n counted) form

  -- an event that has no row
  pub taken_event : (t : Supervision) → step s e ≡ Ok t → row_at s e ≡ None →
      IsTakenRecord s t (event_at event_of n x) None
  taken_event t accepted none = (e, form_at, accepted, none)

  -- a reading, with its row
  reading_taken : (r : OdometerReading) → e ≡ record_kinds.Read r → (t : Supervision) → step s e ≡ Ok t →
      (row : Row) → row ≡ row_of s r → IsTakenRecord s t (event_at event_of n x) (Some (r, row))
  reading_taken r is t accepted row row_is =
      (form_at ∙ ap (λ (e : Event). Ok e) is, sym (ap (step s) is) ∙ accepted, row_is)

  -- a reading that was told of
  pub taken_told : (r : OdometerReading) → e ≡ record_kinds.Read r → (t : Supervision) → step s e ≡ Ok t →
      (row : Row) → row ≡ row_of s r → (teller after : Teller) (old new : Option (List ℕ)) →
      IsToldReading teller r row t old new (Ok after) →
      IsToldRecord teller s t (event_at event_of n x) old new (Told after)
  taken_told r is t accepted row row_is teller after old new h =
      (r, row, reading_taken r is t accepted row row_is, h)

  -- or not to its end
  pub taken_cut : (r : OdometerReading) → e ≡ record_kinds.Read r → (t : Supervision) → step s e ≡ Ok t →
      (row : Row) → row ≡ row_of s r → (teller : Teller) (ended : Ended) (old new : Option (List ℕ)) →
      IsToldReading teller r row t old new (Err ended) →
      IsToldRecord teller s t (event_at event_of n x) old new (Cut ended)
  taken_cut r is t accepted row row_is teller ended old new h =
      (r, row, reading_taken r is t accepted row row_is, h)

  -- an event that is refused
  pub refused_event : (cause : EventCause) → step s e ≡ Err cause → turn_of s (event_at event_of n x) ≡ Err cause
  refused_event cause is = rw (form_at, is) refl

-- what comes of a record
pub ruleset taken_records = (form_at, taken_event, taken_told, taken_cut, refused_event)

-- ---- no record is refused as a line

-- where no fault of a check is one of a line, what it refuses isn't refused as a line
turn_no_line : {F : Type 0} (make : F → EventCause) (o : Option F) (s t : Supervision) (e : Event)
    (cause : EventCause) →
    ((f : F) → is_of_line (make f) ≡ false) → turn_to s e (unless make o t) ≡ Err cause → is_of_line cause ≡ false
turn_no_line make None s t e cause never is = cc
turn_no_line make (Some f) s t e cause never is =
    let same : make f ≡ cause = cc in subst (λ (c : EventCause). is_of_line c ≡ false) same (never f)

-- a fault of the time isn't one of a line
time_no_line : (f : CycleFault) → is_of_line (time_cause f) ≡ false
time_no_line (TimeBack last time) = refl

trip_no_line : (f : TripFault) → is_of_line (trip_cause f) ≡ false
trip_no_line (trip_faults.Authority fault) = refl
trip_no_line trip_faults.BadTrip = refl

-- so no record is refused as a line
no_line : (s : Supervision) (e : Result Event EventFault) (cause : EventCause) → turn_of s e ≡ Err cause →
    is_of_line cause ≡ false
unfolding step
no_line s (Err fault) cause e =
    let same : causes.Form fault ≡ cause = cc in subst (λ (c : EventCause). is_of_line c ≡ false) same refl
no_line s (Ok (record_kinds.Read r)) cause e =
    turn_no_line time_cause (time_fault s.last_time r.time) s _ _ cause time_no_line e
no_line s (Ok (record_kinds.Authority a)) cause e =
    turn_no_line causes.Authority (authority_fault s.train_and_track.track.length_cm a) s _ _ cause (λ f. refl) e
no_line s (Ok (record_kinds.Calculated eoa svl trip)) cause e = turn_no_line trip_cause
    (trip_fault s.train_and_track.track.length_cm eoa svl trip) s _ _ cause trip_no_line e
no_line s (Ok (record_kinds.Restrict r)) cause e = turn_no_line causes.Restrict
    (restrict_fault s.train_and_track.track.length_cm s.restrictions r) s _ _ cause (λ f. refl) e
no_line s (Ok (record_kinds.Revoke id)) cause e =
    turn_no_line causes.Revoke (revoke_fault s.restrictions id) s _ _ cause (λ f. refl) e

not_true : (b : Bool) → IsTrue (not b) → b ≡ false
not_true true h = sym h
not_true false h = refl

-- a record that is refused ends a journey with an outcome of records
pub refused_outcome : (n : ℕ) (s : Supervision) (e : Result Event EventFault) (cause : EventCause) → 1 ≤ n →
    turn_of s e ≡ Err cause →
    IsOutcomeIn records_shape (BadEvent n cause)
refused_outcome n s e cause from_1 is = (from_1, ap not (no_line s e cause is))

-- ---- the outcomes of records

-- what holds of the outcomes that records may have
pub of_records :
    (P : Outcome → Type 0) → P Done → P WriteFault →
    ((number : ℕ) (cause : EventCause) → 1 ≤ number → is_of_line cause ≡ false → P (BadEvent number cause)) → P Memory →
    (outcome : Outcome) → IsOutcomeIn records_shape outcome → P outcome
of_records P done write bad memory Done h = done
of_records P done write bad memory Usage h = absurd h
of_records P done write bad memory ReadFault h = absurd cc
of_records P done write bad memory WriteFault h = write
of_records P done write bad memory TooLong h = absurd cc
of_records P done write bad memory (BadData NoSplit) h = absurd cc
of_records P done write bad memory (BadData Toml) h = absurd cc
of_records P done write bad memory (BadData (Data fault)) h = absurd (let no = h.0 in cc)
of_records P done write bad memory (Refused fault) h = absurd (let no = h.0 in cc)
of_records P done write bad memory (BadEvent number cause) h = bad number cause h.0 (not_true (is_of_line cause) h.1)
of_records P done write bad memory Memory h = memory
of_records P done write bad memory (Undrivable cause) h = absurd cc

-- no outcome of records comes before any row
pub not_first : (outcome : Outcome) → IsOutcomeIn records_shape outcome → LeavesOutUntouched outcome → ⊥
not_first = of_records (λ outcome. LeavesOutUntouched outcome → ⊥) (λ h. h) (λ h. h)
    (λ number cause from_1 possible h. h) (λ h. h)

-- nor before the bytes are answered
pub records_not_before : (outcome : Outcome) → IsOutcomeIn records_shape outcome → ComesOfReadingAlone outcome → ⊥
records_not_before = of_records (λ outcome. ComesOfReadingAlone outcome → ⊥) (λ h. h) (λ h. h)
    (λ number cause from_1 possible h. h) (λ h. h)
