-- What comes of a record, by the event that it writes.
use Rattle.std.proofs.Common.{◌≡◌, ◌∙◌, refl, sym, ap, subst, Option, Some, None, Result, Ok, Err, List, ℕ, codes}
use Rattle.sdm_rules.specs.declared.faults.EventCause.{EventCause}
use Rattle.sdm_rules.specs.declared.faults.EventFault.{EventFault}
use Rattle.sdm_rules.specs.declared.records.Event.{Event}
use Rattle.sdm_rules.specs.declared.rows.Row.{Row}
use Rattle.sdm_rules.specs.Records.{Turn, row_at, row_of_turn, step, turn_of}
use Rattle.sdm_rules.specs.Supervision.{Supervision}
use Rattle.sdm_live_records.specs.Live.{IsTakenRecord, answer_to, state_after, taken_text}

-- an event that is taken
pub taken_event : (s t : Supervision) (written : Result Event EventFault) (e : Event) (row : Option Row) →
    written ≡ Ok e → step s e ≡ Ok t → row ≡ row_at s e → IsTakenRecord s t written row
taken_event s t written e row form accepted row_is = (e, form, accepted, row_is)

-- or refused
pub refused_event : (s : Supervision) (written : Result Event EventFault) (e : Event) (cause : EventCause) →
    written ≡ Ok e → step s e ≡ Err cause → turn_of s written ≡ Err cause
refused_event s written e cause form is = rw (form, is) refl

pub ruleset taken_records = (taken_event, refused_event)

-- ---- the answer

taken_turn : (s t : Supervision) (written : Result Event EventFault) (row : Option Row) →
    (taken : IsTakenRecord s t written row) →
    turn_of s written ≡ Ok (record { before = s; event = taken.0; after = t })
taken_turn s t written row taken = rw (taken.1, taken.2) refl

pub taken_state : (s t : Supervision) (written : Result Event EventFault) (row : Option Row) →
    IsTakenRecord s t written row → t ≡ state_after s (turn_of s written)
taken_state s t written row taken = sym (ap (state_after s) (taken_turn s t written row taken))

pub taken_answer : (s t : Supervision) (written : Result Event EventFault) (row : Option Row) →
    IsTakenRecord s t written row → taken_text row ≡ answer_to (turn_of s written)
taken_answer s t written row taken =
    ap taken_text taken.3 ∙ sym (ap answer_to (taken_turn s t written row taken))

pub ruleset answers = (taken_state, taken_answer)
