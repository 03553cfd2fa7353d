-- What `live` answers to a line of the records (own).
use Rattle.std.specs.Prelude.{ℕ, List, ◌++◌, Option, Some, None, Result, Ok, Err, codes, ◌≡◌}
use Rattle.sdm_rules.specs.declared.faults.EventCause.{EventCause}
use Rattle.sdm_rules.specs.declared.faults.EventFault.{EventFault}
use Rattle.sdm_rules.specs.declared.records.Event.{Event}
use Rattle.sdm_rules.specs.declared.rows.Row.{Row}
use Rattle.sdm_rules.specs.Records.{Turn, row_at, row_of_turn, step, turn_of}
use Rattle.sdm_rules.specs.Supervision.{Supervision}
use Rattle.sdm_formats.specs.FaultLines.{cause_text}
use Rattle.sdm_formats.specs.Forms.{event_of}
use Rattle.sdm_formats.specs.Text.{row_text}
use Rattle.sdm_live.specs.Progress.{Rules}
use Rattle.sdm_live_records.specs.Fields.{line_fields}

-- the answer to a record that is taken: of a reading its row
abbrev pub taken_text : Option Row → List ℕ
taken_text None = codes "taken\n"
taken_text (Some row) = row_text row

-- the answer to one that is refused
unfoldable pub refused_text : EventCause → List ℕ
refused_text cause = codes "refused: " ++ cause_text cause ++ codes "\n"

-- the answer to a line that is too long
unfoldable pub too_long_text : List ℕ
too_long_text = codes "refused: line too long\n"

-- THE ANSWER to a record, by its turn or why it is refused (own)
abbrev pub answer_to : Result Turn EventCause → List ℕ
answer_to (Ok t) = taken_text (row_of_turn t)
answer_to (Err cause) = refused_text cause

-- the state after a record: one that is refused changes nothing
abbrev pub state_after : Supervision → Result Turn EventCause → Supervision
state_after s (Ok t) = t.after
state_after s (Err cause) = s

-- the turn of a line, or why it is refused
abbrev pub turn_of_line : Supervision → List ℕ → Result Turn EventCause
turn_of_line s line = turn_of s (event_of (line_fields line))

-- the supervision state, and the answer to the line taken last
pub record LiveState : Type 0 where
  pub supervision : Supervision
  pub text : List ℕ

-- the state after a record, with the answer to it (own)
abbrev pub answered : Supervision → Result Turn EventCause → LiveState
answered s turn = record { supervision = state_after s turn; text = answer_to turn }

-- LIVE: how lines are taken
unfoldable pub live_rules : Rules LiveState
live_rules = record {
  next = λ s line. answered s.supervision (turn_of_line s.supervision line);
  told = λ s. s.text;
  too_long = too_long_text;
}

-- ---- in memory

-- a record was taken to the state `t`: a reading with this row, or an event that has no row
abbrev pub IsTakenRecord : Supervision → Supervision → Result Event EventFault → Option Row → Type 0
IsTakenRecord s t e row = (event : Event) × (e ≡ Ok event) × (step s event ≡ Ok t) × (row ≡ row_at s event)
