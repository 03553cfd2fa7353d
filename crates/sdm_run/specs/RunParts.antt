-- What `run` does with the data part, and then with one record after the other (own).
use Rattle.std.specs.Prelude.{◌≡◌, ℕ, List, [], ◌∷◌, ◌++◌, Option, Some, None, Result, Ok, Err, ⊤}
use Rattle.std.specs.Io.KnownBytes.{Appends}
use Rattle.sdm_num.specs.Readings.{OdometerReading}
use Rattle.sdm_rules.specs.declared.faults.EventFault.{EventFault}
use Rattle.sdm_rules.specs.declared.records.Event.{Event}
use Rattle.sdm_rules.specs.declared.data.SlopeKind.TheVariants.{Safe}
use Rattle.sdm_rules.specs.declared.records.Event.TheVariants.{Read}
use Rattle.sdm_rules.specs.declared.records.Event.TheVariants as record_kinds
use Rattle.sdm_rules.specs.declared.rows.Row.{Row}
use Rattle.sdm_rules.specs.Data.{TrainAndTrack}
use Rattle.sdm_rules.specs.Decelerations.{slopes_of}
use Rattle.sdm_rules.specs.Records.{Turn, event_at, journey_from, row_at, step}
use Rattle.sdm_rules.specs.Supervision.{Supervision, after_reading, row_of}
use Rattle.sdm_formats.specs.Flat.{Output}
use Rattle.sdm_formats.specs.Forms.{event_of}
use Rattle.sdm_formats.specs.Input.{End, end_of_journey}
use Rattle.sdm_formats.specs.Text.{display_tells, run_tells, told}
use Rattle.sdm_causes.specs.Text.{why_tells}
use Rattle.sdm_report.specs.declared.outcome.Outcome.{Outcome}
use Rattle.sdm_report.specs.declared.outcome.Outcome.TheVariants.{BadData, Memory, Refused}
use Rattle.sdm_certify.specs.Certificates.{IsCertificateOf}
use Rattle.sdm_certify.specs.ReadBack.{IsReadBack}
use Rattle.sdm_events.specs.Journey.{Record}
use Rattle.sdm_opening.specs.Openings.{IsDataFault, IsRefusal}
use Rattle.sdm_run.specs.declared.endings.Ended.{Ended}
use Rattle.sdm_run.specs.declared.journey_records.Taken.{Taken}
use Rattle.sdm_run.specs.declared.journey_records.Taken.TheVariants.{Untold, Told, Cut}
use Rattle.sdm_run.specs.declared.tellers.Teller.{Teller}
use Rattle.sdm_run.specs.declared.tellers.Teller.TheVariants.{Rows, Displays, Causes, Certificates}
use Rattle.sdm_run.specs.Answers.{AreWholeLines, IsAnswer}
use Rattle.sdm_run.specs.Certifying.{AreCertificatesHeld, IsCertifyOutput, certificates, certified_of, certified_turns}
use Rattle.sdm_run.specs.Certifying.{safe_map_text}
use Rattle.sdm_run.specs.Journeys.{IsJourneyOutput}

-- ---- the data part

-- the outcome of a data part that holds no data: no document, or the first rule that is broken; want of memory may
-- come at any time
abbrev pub IsRefusedByData : List ℕ → Outcome → Type 0
IsRefusedByData bytes (BadData fault) = IsDataFault bytes fault
IsRefusedByData bytes Memory = ⊤
IsRefusedByData bytes outcome = ⊥

-- the outcome of a data part that opens no supervision state: it holds no data, or the first fault of the opening
abbrev pub IsRefusedBy : List ℕ → Outcome → Type 0
IsRefusedBy bytes (Refused fault) = IsRefusal bytes fault
IsRefusedBy bytes outcome = IsRefusedByData bytes outcome

-- ---- what is told

-- what is defined for the bytes of an input
abbrev pub IsToldOutput : Teller → List ℕ → Output → Type 0
IsToldOutput Rows = IsJourneyOutput run_tells
IsToldOutput Displays = IsJourneyOutput display_tells
IsToldOutput Causes = IsJourneyOutput why_tells
IsToldOutput (Certificates left) = IsCertifyOutput left

-- what stands before the records: of `certify` the written map
abbrev pub head_text : Teller → TrainAndTrack → List ℕ
head_text Rows d = []
head_text Displays d = []
head_text Causes d = []
head_text (Certificates left) d = safe_map_text d

-- what stands before the records is read back: of `certify` as the map of A_safe
abbrev pub IsHeadReadBack : Teller → TrainAndTrack → Type 0
IsHeadReadBack Rows d = ⊤
IsHeadReadBack Displays d = ⊤
IsHeadReadBack Causes d = ⊤
IsHeadReadBack (Certificates left) d = IsReadBack (slopes_of Safe d) (safe_map_text d)

-- a line is told of each reading; not so by `certify`, which writes a map before the records
abbrev pub TellsEach : Teller → Type 0
TellsEach Rows = ⊤
TellsEach Displays = ⊤
TellsEach Causes = ⊤
TellsEach (Certificates left) = ⊥

-- what is told of turns
abbrev pub turns_text : Teller → List Turn → List ℕ
turns_text Rows turns = told run_tells turns
turns_text Displays turns = told display_tells turns
turns_text Causes turns = told why_tells turns
turns_text (Certificates left) turns = certificates left turns

-- the certificate of an event, which is a reading, is one: its marks hold
abbrev pub IsHeldIn : Supervision → Event → Type 0
IsHeldIn s (record_kinds.Read r) = IsCertificateOf s r (certified_of s r).claim (certified_of s r).marks
IsHeldIn s (record_kinds.Authority a) = ⊤
IsHeldIn s (record_kinds.Calculated eoa svl trip) = ⊤
IsHeldIn s (record_kinds.Restrict r) = ⊤
IsHeldIn s (record_kinds.Revoke id) = ⊤

-- so are those of turns
abbrev pub AreTurnsHeld : List Turn → Type 0
AreTurnsHeld [] = ⊤
AreTurnsHeld (t ∷ ts) = IsHeldIn t.before t.event × AreTurnsHeld ts

-- what is told of turns holds: of `certify` the certificates
abbrev pub IsHeldBy : Teller → List Turn → Type 0
IsHeldBy Rows turns = ⊤
IsHeldBy Displays turns = ⊤
IsHeldBy Causes turns = ⊤
IsHeldBy (Certificates left) turns = AreTurnsHeld (certified_turns left turns)

-- what is told of all the bytes of an input holds: of `certify` on the map that is told before it
abbrev pub IsHeldRun : Teller → List ℕ → Type 0
IsHeldRun Rows bytes = ⊤
IsHeldRun Displays bytes = ⊤
IsHeldRun Causes bytes = ⊤
IsHeldRun (Certificates left) bytes = AreCertificatesHeld left bytes

-- the text and the end of records, by what is told of their turns; the first record has the number `n`
abbrev pub output_of_records : Teller → ℕ → Supervision → List Record → Output
output_of_records teller n s records =
    let journey = journey_from (event_at event_of) n s records in
    record { text = turns_text teller journey.turns; end = end_of_journey journey.refused }

-- ---- the records

-- a record was taken to the state `t`: a reading with this row, or an event that has no row
abbrev pub IsTakenRecord : Supervision → Supervision → Result Event EventFault → Option (OdometerReading × Row) → Type 0
IsTakenRecord s t e (Some x) = (e ≡ Ok (Read x.0)) × (step s (Read x.0) ≡ Ok t) × (x.1 ≡ row_of s x.0)
IsTakenRecord s t e None = (event : Event) × (e ≡ Ok event) × (step s event ≡ Ok t) × (row_at s event ≡ None)

-- a text is told of a turn, and the rest of the turns by `after`: no text, or whole lines, which hold
pub record IsToldTurn (teller after : Teller) (turn : Turn) (text : List ℕ) : Type 0 where
  pub rest : (more : List Turn) → turns_text teller (turn ∷ more) ≡ text ++ turns_text after more
  pub whole_lines : AreWholeLines text
  pub held : (more : List Turn) → IsHeldBy after more → IsHeldBy teller (turn ∷ more)

-- out took what is told of a turn, or the outcome answers it, whatever follows
abbrev pub IsToldTo : Teller → Turn → Option (List ℕ) → Option (List ℕ) → Result Teller Ended → Type 0
IsToldTo teller turn old new (Ok after) =
    (text : List ℕ) × IsToldTurn teller after turn text × Appends old new text
IsToldTo teller turn old new (Err ended) = (more : List Turn) (end : End) →
    IsAnswer (record { text = turns_text teller (turn ∷ more); end = end }) old new ended.outcome

-- a reading that was taken was told of, with this row and this state after it
abbrev pub IsToldReading : Teller → OdometerReading → Row → Supervision → Option (List ℕ) → Option (List ℕ) →
    Result Teller Ended → Type 0
IsToldReading teller r row after old new result =
    (before : Supervision) → row ≡ row_of before r → after ≡ after_reading before r →
    IsToldTo teller (record { before = before; event = Read r; after = after }) old new result

-- a record was taken to the state `t`: a reading was told of, or to a part of it; of another record nothing is told
abbrev pub IsToldRecord : Teller → Supervision → Supervision → Result Event EventFault → Option (List ℕ) →
    Option (List ℕ) → Taken → Type 0
IsToldRecord teller s t e old new Untold = IsTakenRecord s t e None
IsToldRecord teller s t e old new (Told after) = (r : OdometerReading) × (row : Row)
    × IsTakenRecord s t e (Some (r, row)) × IsToldReading teller r row t old new (Ok after)
IsToldRecord teller s t e old new (Cut ended) = (r : OdometerReading) × (row : Row)
    × IsTakenRecord s t e (Some (r, row)) × IsToldReading teller r row t old new (Err ended)
