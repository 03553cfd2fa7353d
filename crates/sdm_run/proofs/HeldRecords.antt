-- What is told of records holds, record by record: of `certify` the marks of each certificate.
use Rattle.std.proofs.Common.{◌≡◌, ℕ, zero, suc, List, [], ◌∷◌, Option, Some, None, ap, sym, subst, ◌∙◌, inl, inr}
use Rattle.std.specs.Prelude.{Result, Ok, Err}
use Rattle.sdm_num.specs.Readings.{OdometerReading}
use Rattle.sdm_rules.specs.declared.faults.EventCause.{EventCause}
use Rattle.sdm_rules.specs.declared.records.Event.{Event}
use Rattle.sdm_rules.specs.declared.records.Event.TheVariants as record_kinds
use Rattle.sdm_rules.specs.declared.rows.Row.{Row}
use Rattle.sdm_rules.specs.Records.{Turn, event_at, go_on, journey_from, step, turn_of, turn_to}
use Rattle.sdm_rules.specs.Supervision.{Supervision}
use Rattle.sdm_formats.specs.Forms.{event_of}
use Rattle.sdm_formats.specs.Input as ends
use Rattle.sdm_report.specs.declared.outcome.Outcome.{Outcome}
use Rattle.sdm_report.specs.declared.outcome.Outcome.TheVariants.{Done, Usage, ReadFault, WriteFault, TooLong, BadData}
use Rattle.sdm_report.specs.declared.outcome.Outcome.TheVariants.{Refused, BadEvent, Memory, Undrivable}
use Rattle.sdm_events.specs.Journey.{Record}
use Rattle.sdm_run.specs.Answers.{IsAnswer, IsEndOfRecords, IsOutcomeOf}
use Rattle.sdm_run.specs.declared.endings.Ended.{Ended}
use Rattle.sdm_run.specs.declared.tellers.Teller.{Teller}
use Rattle.sdm_run.specs.declared.tellers.Teller.TheVariants.{Rows, Displays, Causes, Certificates}
use Rattle.sdm_run.specs.RunParts.{IsHeldBy, IsTakenRecord, IsToldReading, IsToldTurn, turns_text}
use Rattle.sdm_run.proofs.CertifyTexts.{none_told}
use Rattle.sdm_run.proofs.RunTexts.{state_is}

-- of no turns nothing need hold
pub none_held : (teller : Teller) → IsHeldBy teller []
none_held Rows = tt
none_held Displays = tt
none_held Causes = tt
none_held (Certificates zero) = tt
none_held (Certificates (suc left)) = tt

-- an end that follows whatever is written isn't one
no_end : (teller : Teller) (turn : Turn) (old new : Option (List ℕ)) (outcome : Outcome) →
    ((more : List Turn) (end : ends.End) →
    IsAnswer (record { text = turns_text teller (turn ∷ more); end = end }) old new outcome) →
    IsEndOfRecords outcome → ⊥
no_end teller turn old new Done h end = by_end (h [] ends.TooLong).ended
  where
    by_end : IsOutcomeOf ends.TooLong Done → ⊥
    by_end (inl is) = cc
    by_end (inr (inl is)) = cc
    by_end (inr (inr (inl is))) = cc
    by_end (inr (inr (inr is))) = cc
no_end teller turn old new (BadEvent number cause) h end = by_end (h [] ends.TooLong).ended
  where
    by_end : IsOutcomeOf ends.TooLong (BadEvent number cause) → ⊥
    by_end (inl is) = cc
    by_end (inr (inl is)) = cc
    by_end (inr (inr (inl is))) = cc
    by_end (inr (inr (inr is))) = cc
no_end teller turn old new Usage h end = end
no_end teller turn old new ReadFault h end = end
no_end teller turn old new WriteFault h end = end
no_end teller turn old new TooLong h end = end
no_end teller turn old new (BadData fault) h end = end
no_end teller turn old new (Refused fault) h end = end
no_end teller turn old new Memory h end = end
no_end teller turn old new (Undrivable cause) h end = end

module _ (teller : Teller) (n : ℕ) (s : Supervision) where
  -- the turns of records
  abbrev pub turns_of : List Record → List Turn
  turns_of records = (journey_from (event_at event_of) n s records).turns

  -- of no records there are none
  pub held_none_left : (records : List Record) → records ≡ [] → IsHeldBy teller (turns_of records)
  held_none_left records none = rw none (none_held teller)

  module _ (records more : List Record) (x : Record) (first : records ≡ x ∷ more) where
    -- nor where the first record is refused
    pub held_refused : (cause : EventCause) → turn_of s (event_at event_of n x) ≡ Err cause →
        IsHeldBy teller (turns_of records)
    held_refused cause is = subst (IsHeldBy teller) (sym none) (none_held teller)
      where
        none : turns_of records ≡ []
        none = ap turns_of first ∙ ap (λ (r : Result Turn EventCause).
            (go_on n r (λ t. journey_from (event_at event_of) (suc n) t more)).turns) is

    module _ (t : Supervision) where
      -- the turns are that of the record and the later ones
      turns_taken : (e : Event) → event_at event_of n x ≡ Ok e → step s e ≡ Ok t →
          turns_of records
          ≡ record { before = s; event = e; after = t } ∷ (journey_from (event_at event_of) (suc n) t more).turns
      turns_taken e form accepted =
          let turn : turn_of s (event_at event_of n x) ≡ Ok (record { before = s; event = e; after = t }) =
          ap (turn_of s) form ∙ ap (turn_to s e) accepted in
          ap turns_of first ∙ ap (λ (r : Result Turn EventCause).
          (go_on n r (λ t. journey_from (event_at event_of) (suc n) t more)).turns) turn

      -- what is told of a turn holds, where what is told of the later ones does
      held_after : (e : Event) → event_at event_of n x ≡ Ok e → step s e ≡ Ok t → (after : Teller) (text : List ℕ) →
          IsToldTurn teller after (record { before = s; event = e; after = t }) text →
          IsHeldBy after (journey_from (event_at event_of) (suc n) t more).turns → IsHeldBy teller (turns_of records)
      held_after e form accepted after text told h =
          subst (IsHeldBy teller) (sym (turns_taken e form accepted))
          (told.held (journey_from (event_at event_of) (suc n) t more).turns h)

      -- an event that has no row
      pub event_held : IsTakenRecord s t (event_at event_of n x) None →
          IsHeldBy teller (journey_from (event_at event_of) (suc n) t more).turns → IsHeldBy teller (turns_of records)
      event_held (e, form, accepted, none) = held_after e form accepted teller [] (none_told teller s t e none)

      module _ (r : OdometerReading) (row : Row)
          (taken : IsTakenRecord s t (event_at event_of n x) (Some (r, row))) (old new : Option (List ℕ)) where
        -- a reading
        pub reading_held : (after : Teller) → IsToldReading teller r row t old new (Ok after) →
            IsHeldBy after (journey_from (event_at event_of) (suc n) t more).turns → IsHeldBy teller (turns_of records)
        reading_held after h =
            let told = h s taken.2 (state_is s t n x r row taken) in
            held_after (record_kinds.Read r) taken.0 taken.1 after told.0 told.1

        -- one that isn't told of to its end is no end of the records
        pub reading_no_end : (ended : Ended) → IsToldReading teller r row t old new (Err ended) →
            IsEndOfRecords ended.outcome → ⊥
        reading_no_end ended h = no_end teller (record { before = s; event = record_kinds.Read r; after = t }) old new
            ended.outcome (h s taken.2 (state_is s t n x r row taken))
