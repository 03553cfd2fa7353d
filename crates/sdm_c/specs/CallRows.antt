-- The rows that a list of calls writes are those of a journey, as long as the supervisor keeps its data (own).
use Rattle.std.specs.Prelude.{◌≡◌, ℕ, Bool, true, false, IsTrue, List, [], ◌∷◌, Option, Some, None, Result, Ok, Err}
use Rattle.std.specs.Prelude.{◌==◌, ◌&&◌, map, if◌then◌else◌}
use Rattle.sdm_rules.specs.declared.faults.EventCause.{EventCause}
use Rattle.sdm_rules.specs.declared.records.Event.{Event}
use Rattle.sdm_rules.specs.Records.{Journey, journey_from, rows_of, step}
use Rattle.sdm_rules.specs.Supervision.{Supervision}
use Rattle.sdm_row_laws.specs.OpenTurns.{AreTurnsPromised}
use Rattle.sdm_opening.specs.Openings.{IsOpeningOf}
use Rattle.sdm_c.specs.declared.call_lists.Call.{Call}
use Rattle.sdm_c.specs.declared.call_lists.Call.TheVariants as calls
use Rattle.sdm_c.specs.declared.call_lists.Written.{Written}
use Rattle.sdm_c.specs.declared.handle.Handle.{Handle}
use Rattle.sdm_c.specs.declared.structs.RowC.{RowC}
use Rattle.sdm_c.specs.Codes.{row_in_c}
use Rattle.sdm_c.specs.CallLists.{Answer, AreMade, Made, after_record, answer_in, record_of}
use Rattle.sdm_c.specs.Statuses.{IsOpen, done}

-- a record before later ones, where it is taken (own)
abbrev pub with_taken : Event → Result Supervision EventCause → List Event → List Event
with_taken e (Ok t) more = e ∷ more
with_taken e (Err cause) more = more

-- the same of a call's record, if it hands one over (own)
abbrev pub with_record : Supervision → Option Event → List Event → List Event
with_record s None more = more
with_record s (Some e) more = with_taken e (step s e) more

-- the records that calls hand over, from a state on, and that are taken (own)
abbrev pub records_taken : Supervision → List Call → List Event
records_taken s [] = []
records_taken s (c ∷ more) = with_record s (record_of c) (records_taken (after_record s (record_of c)) more)

-- the journey of these records (own)
abbrev pub journey_of : Supervision → List Call → Journey
journey_of s asked = journey_from (λ n e. Ok e) 1 s (records_taken s asked)

-- the row of a call before later ones, where it is a reading that is done (own)
abbrev pub with_row : Call → Answer → List RowC → List RowC
with_row (calls.Cycle r) a more = if a.status == done then a.written.row ∷ more else more
with_row other a more = more

-- the rows that calls write, in their order (own)
abbrev pub rows_in : List Made → List RowC
rows_in [] = []
rows_in (m ∷ more) = with_row m.asked.call (answer_in m) (rows_in more)

-- the call neither ends the supervisor nor changes its data (own)
abbrev pub keeps_data : Call → Bool
keeps_data calls.TakeOver = false
keeps_data calls.Close = false
keeps_data other = true

-- so do all of a list (own)
abbrev pub all_keep_data : List Made → Bool
all_keep_data [] = true
all_keep_data (m ∷ more) = keeps_data m.asked.call && all_keep_data more

-- the rows of calls from a state on are those of the journey of their records, none of which is refused there; and what
-- `run` says of its rows holds of them (own)
pub record IsJourneyOf (s : Supervision) (made : List Made) : Type 0 where
  pub rows : rows_in made ≡ map row_in_c (rows_of (journey_of s (map (λ m. m.asked.call) made)).turns)
  pub accepted : (journey_of s (map (λ m. m.asked.call) made)).refused ≡ None
  pub promised : AreTurnsPromised (journey_of s (map (λ m. m.asked.call) made)).turns

-- THE ROWS OF C: over every list of calls from an opening on, up to a change of data or the end
abbrev pub LawOfCallRows : Type 0
LawOfCallRows =
    (given : List ℕ) (h : Handle) (w : Written) (made : List Made) → IsOpen h → IsOpeningOf given h.state →
    AreMade h w made → IsTrue (all_keep_data made) → IsJourneyOf h.state made
