-- What the parts of a journey say makes the output of the whole, by what is told of it and of each turn: an input has
-- one run, so it is enough to name one.
use Rattle.std.proofs.Common.{◌≡◌, ℕ, ◌≤◌, ◌<◌, ◌++◌, true, false, List, [], Option, Some, None, take, drop, length}
use Rattle.std.proofs.Common.{nat_lt, inl, inr, refl, ap, ◌∙◌, sym, subst, arith}
use Rattle.std.proofs.lemmas.Bool.Decides.{nat_tests}
use Rattle.std.specs.Prelude.{Result, Ok, Err, Bool, MatchBool, not}
use Rattle.std.proofs.KnownBytes.{Appends-nil, Keeps-refl}
use Rattle.toml.specs.Data.{Members}
use Rattle.sdm_rules.specs.declared.authorities.Authority.{Authority}
use Rattle.sdm_rules.specs.declared.faults.EventCause.{EventCause}
use Rattle.sdm_rules.specs.Data.{TrainAndTrack, HasBands}
use Rattle.sdm_rules.specs.Records.{Turn}
use Rattle.sdm_rules.specs.Supervision.{Supervision, opening}
use Rattle.sdm_formats.specs.declared.faults.DataFault.{DataFault}
use Rattle.sdm_formats.specs.Flat.{Output}
use Rattle.sdm_formats.specs.Input.{most_bytes, End, IsRun, IsOpened, IsAfterData, IsAfterDocument, IsAfterDivision}
use Rattle.sdm_formats.specs.Input.{journey_of}
use Rattle.sdm_formats.specs.Input as ends
use Rattle.sdm_row_laws.specs.OpenTurns.{AreTurnsPromised}
use Rattle.sdm_row_laws.proofs.OpenTurns.{none_promised, promised_turns}
use Rattle.sdm_report.specs.declared.outcome.InputFault.TheVariants.{NoSplit, Toml, Data}
use Rattle.sdm_report.specs.declared.outcome.Outcome.{Outcome}
use Rattle.sdm_report.specs.declared.outcome.Outcome.TheVariants.{Done, Usage, ReadFault, WriteFault, TooLong, BadData}
use Rattle.sdm_report.specs.declared.outcome.Outcome.TheVariants.{Refused, BadEvent, Memory, Undrivable}
use Rattle.sdm_data.specs.Division.{divide}
use Rattle.sdm_data.specs.Document.{document_of}
use Rattle.sdm_data.specs.Journey.{data_of}
use Rattle.sdm_events.specs.Journey.{Record, records_of}
use Rattle.sdm_opening.specs.Openings.{IsOpeningOf}
use Rattle.sdm_run.specs.Answers.{ComesOfReadingAlone, LeavesOutUntouched, IsAnswer}
use Rattle.sdm_run.specs.declared.tellers.Teller.{Teller}
use Rattle.sdm_run.specs.declared.tellers.Teller.TheVariants.{Rows, Displays, Causes, Certificates}
use Rattle.sdm_run.specs.Certifying.{map_before}
use Rattle.sdm_run.specs.Journeys.{run_reader}
use Rattle.sdm_run.specs.RunParts.{IsRefusedBy, IsToldOutput, head_text, output_of_records, turns_text}
use Rattle.sdm_run.specs.Commands.{AreJourneyTurnsSafe}
use Rattle.sdm_run.specs.Shapes.{IsOutcomeIn, records_shape, run_shape}
use Rattle.sdm_run.proofs.OneRun.{one_run}
use Rattle.sdm_run.proofs.OneOutput.{Single}
use Rattle.sdm_run.proofs.OutputLeft.{text_and}
use Rattle.sdm_run.proofs.RunData.{has_bands}
use Rattle.sdm_run.proofs.RunTexts.{none_of_none, of_records}

-- what stands before the texts of turns
abbrev pub head_of : Teller → List ℕ → End → List ℕ
head_of Rows bytes end = []
head_of Displays bytes end = []
head_of Causes bytes end = []
head_of (Certificates left) bytes end = map_before bytes end

-- the output of turns and an end
abbrev pub output_by : Teller → List ℕ → List Turn → End → Output
output_by teller bytes turns end = record { text = head_of teller bytes end ++ turns_text teller turns; end = end }

-- turns that are a run of the input, of which the output tells
record IsOfRun (teller : Teller) (bytes : List ℕ) (output : Output) : Type 0 where
  turns : List Turn
  run : IsRun run_reader bytes turns output.end
  text_is : output.text ≡ (output_by teller bytes turns output.end).text

-- an output of the input tells of its run
of_run : (teller : Teller) (bytes : List ℕ) (output : Output) → IsToldOutput teller bytes output →
    IsOfRun teller bytes output
of_run Rows bytes output is = record { turns = is.turns; run = is.run; text_is = is.text_is }
of_run Displays bytes output is = record { turns = is.turns; run = is.run; text_is = is.text_is }
of_run Causes bytes output is = record { turns = is.turns; run = is.run; text_is = is.text_is }
of_run (Certificates left) bytes output is = record { turns = is.turns; run = is.run; text_is = is.text_is }

-- and what tells of the run is an output of the input
is_told : (teller : Teller) (bytes : List ℕ) (turns : List Turn) (end : End) → IsRun run_reader bytes turns end →
    IsToldOutput teller bytes (output_by teller bytes turns end)
is_told Rows bytes turns end run = record { turns = turns; run = run; text_is = refl }
is_told Displays bytes turns end run = record { turns = turns; run = run; text_is = refl }
is_told Causes bytes turns end run = record { turns = turns; run = run; text_is = refl }
is_told (Certificates left) bytes turns end run = record { turns = turns; run = run; text_is = refl }

module _ (teller : Teller) (bytes : List ℕ) where
  -- an output of the input is that of any turns and end that are its run
  only_output : (turns : List Turn) (end : End) → IsRun run_reader bytes turns end →
      (output : Output) → IsToldOutput teller bytes output → output ≡ output_by teller bytes turns end
  only_output turns end run output told =
      let is = of_run teller bytes output told in
      let one = one_run run_reader bytes in
      let mine = one.only turns end run in
      let its = one.only is.turns output.end is.run in
      let end_is : output.end ≡ end = its.1 ∙ sym mine.1 in
      let turns_are : is.turns ≡ turns = its.0 ∙ sym mine.0 in
      λ k. record {
        text = (is.text_is ∙ (λ j. (output_by teller bytes (turns_are j) (end_is j)).text)) k;
        end = end_is k;
      }

  -- all bytes have one output
  pub one_told : Single (IsToldOutput teller bytes)
  one_told =
      let one = one_run run_reader bytes in (
        output_by teller bytes one.turns one.end,
        (is_told teller bytes one.turns one.end one.is, only_output one.turns one.end one.is),
      )

  -- what holds of the output of one run holds of each output
  holds_of_all : (P : Output → Type 0) (turns : List Turn) (end : End) → IsRun run_reader bytes turns end →
      P (output_by teller bytes turns end) → (output : Output) → IsToldOutput teller bytes output → P output
  holds_of_all P turns end run h output is = subst P (sym (only_output turns end run output is)) h

  -- what answers it answers each output
  answers_all : (turns : List Turn) (end : End) (old new : Option (List ℕ)) (outcome : Outcome) →
      IsRun run_reader bytes turns end → IsAnswer (output_by teller bytes turns end) old new outcome →
      (output : Output) → IsToldOutput teller bytes output → IsAnswer output old new outcome
  answers_all turns end old new outcome run =
      holds_of_all (λ (o : Output). IsAnswer o old new outcome) turns end run

-- where nothing is opened there is no text
nothing : (teller : Teller) (bytes : List ℕ) (end : End) → map_before bytes end ≡ [] →
    output_by teller bytes [] end ≡ record { text = []; end = end }
nothing Rows bytes end none = refl
nothing Displays bytes end none = refl
nothing Causes bytes end none = refl
nothing (Certificates left) bytes end none = rw (none, none_of_none (Certificates left)) refl

-- ---- the limit

-- an input above the limit is answered as too long
pub journey_too_long : (teller : Teller) (bytes : List ℕ) (old : Option (List ℕ)) → most_bytes < length bytes →
    (output : Output) → IsToldOutput teller bytes output → IsAnswer output old old TooLong
journey_too_long teller bytes old long =
    let yes : nat_lt most_bytes (length bytes) ≡ true = grind (arith, nat_tests) in
    answers_all teller bytes [] ends.TooLong old old TooLong (rw yes (refl, refl))
    (rw (nothing teller bytes ends.TooLong refl) (record { ended = inl refl; taken = Appends-nil old }))

-- an input within the limit has the run of its parts
pub run_of_parts : (bytes : List ℕ) (turns : List Turn) (end : End) → length bytes ≤ most_bytes →
    IsAfterDivision run_reader turns end bytes (divide bytes) → IsRun run_reader bytes turns end
run_of_parts bytes turns end short parts =
    let no : nat_lt most_bytes (length bytes) ≡ false = grind (arith, nat_tests) in rw no parts

-- ---- the data part

-- a fault of the reading
pub unread : (old : Option (List ℕ)) (output : Output) → IsAnswer output old old ReadFault
unread old output = record { ended = inr (inl refl); taken = Keeps-refl old }

-- want of memory before the first row
pub memory_first : (old : Option (List ℕ)) (output : Output) → IsAnswer output old old Memory
memory_first old output = record {
  ended = inr (inr (inr refl));
  taken = record {
    prefix = [];
    rest = output.text;
    parts = refl;
    whole_lines = inl refl;
    taken = Appends-nil old;
  };
}

module _ (teller : Teller) (bytes : List ℕ) (short : length bytes ≤ most_bytes) (old : Option (List ℕ)) where
  -- an input whose run has no turns, by an end before which nothing is written
  without_turns : (end : End) (outcome : Outcome) → map_before bytes end ≡ [] →
      IsAfterDivision run_reader [] end bytes (divide bytes) →
      IsAnswer (record { text = []; end = end }) old old outcome →
      (output : Output) → IsToldOutput teller bytes output → IsAnswer output old old outcome
  without_turns end outcome none parts h = answers_all teller bytes [] end old old outcome
      (run_of_parts bytes [] end short parts) (rw (nothing teller bytes end none) h)

  -- an input without a dividing line
  pub undivided : divide bytes ≡ None → (output : Output) → IsToldOutput teller bytes output →
      IsAnswer output old old (BadData NoSplit)
  undivided none = without_turns ends.NoSplit (BadData NoSplit) refl (rw none (refl, refl))
      (record { ended = inl refl; taken = Appends-nil old })

  module _ (data_end start : ℕ) (cut : divide bytes ≡ Some (data_end, start)) where
    -- a data part that opens no supervisor
    pub refused : (outcome : Outcome) → IsRefusedBy (take data_end bytes) outcome →
        (output : Output) → IsToldOutput teller bytes output → IsAnswer output old old outcome
    refused (BadData Toml) none = without_turns ends.Toml (BadData Toml) refl (rw (cut, none) (refl, refl))
        (record { ended = inl refl; taken = Appends-nil old })
    refused (BadData (Data fault)) (known, table, document, read) =
        without_turns (ends.Data fault) (BadData (Data fault)) refl (rw (cut, document, read) (refl, refl))
        (record { ended = inl refl; taken = Appends-nil old })
    refused (Refused fault) (known, train_and_track, a, given, first) =
        without_turns (ends.Refused fault) (Refused fault) refl
        (rw (cut, given.document, given.read) (inr (fault, first, refl, refl)))
        (record { ended = inl refl; taken = Appends-nil old })
    refused Memory free = λ output is. memory_first old output
    refused Done none = absurd none
    refused Usage none = absurd none
    refused ReadFault none = absurd none
    refused WriteFault none = absurd none
    refused TooLong none = absurd none
    refused (BadData NoSplit) none = absurd none
    refused (BadEvent number cause) none = absurd none
    refused (Undrivable cause) none = absurd none

    -- ---- the records

    -- what is written before the records stands before what is told of them
    head_stands : (teller : Teller) (s : Supervision) (is : IsOpeningOf (take data_end bytes) s)
        (refused : Option (ℕ × EventCause)) →
        head_of teller bytes (ends.end_of_journey refused) ≡ head_text teller is.train_and_track
    head_stands Rows s is refused = refl
    head_stands Displays s is refused = refl
    head_stands Causes s is refused = refl
    head_stands (Certificates left) s is None = rw (cut, is.given.document, is.given.read) refl
    head_stands (Certificates left) s is (Some x) = rw (cut, is.given.document, is.given.read) refl

    -- what holds of the records of an input whose data part opens a supervisor, with what stands before them
    pub recorded : (P : Output → Type 0) (s : Supervision) → IsOpeningOf (take data_end bytes) s →
        P (text_and (head_text teller s.train_and_track) (output_of_records teller 1 s (records_of (drop start bytes)))) →
        (output : Output) → IsToldOutput teller bytes output → P output
    recorded P s is h =
        let journey = journey_of run_reader is.train_and_track is.authority (records_of (drop start bytes)) in
        let end = ends.end_of_journey journey.refused in
        let run = run_of_parts bytes journey.turns end short (rw (cut, is.given.document, is.given.read)
        (inl (record { accepted = is.accepted; turns_are = refl; end_is = refl }))) in
        let stands = head_stands teller s is journey.refused in
        holds_of_all teller bytes P journey.turns end run (rw stands (rw is.state at h))

-- ---- the turns

-- there are turns only after an accepted opening of data that break no rule, and those are safe
module _ (records : List Record) (turns : List Turn) (end : End) where
  -- where there are none
  none_safe : turns ≡ [] → AreTurnsPromised turns
  none_safe none = rw none none_promised

  -- after an opening
  opened_safe : (d : TrainAndTrack) (a : Authority) → HasBands d.train.bands →
      IsOpened run_reader d a records turns end → AreTurnsPromised turns
  opened_safe d a bands o =
      rw o.turns_are
      (promised_turns _ 1 (opening d a) records (record { bands = bands; usable = o.accepted.0 }) refl)

  -- after data, by what they were read as
  after_data_safe : (members : Members) (r : Result (TrainAndTrack × Authority) DataFault) → data_of members ≡ r →
      IsAfterData run_reader turns end records r → AreTurnsPromised turns
  after_data_safe members (Err fault) read h = none_safe h.0
  after_data_safe members (Ok x) read (inl o) = opened_safe x.0 x.1 (has_bands members x.0 x.1 read) o
  after_data_safe members (Ok x) read (inr f) = none_safe f.2

  -- after a document, where there is one
  after_document_safe : (document : Option Members) → IsAfterDocument run_reader turns end records document →
      AreTurnsPromised turns
  after_document_safe None h = none_safe h.0
  after_document_safe (Some members) h = after_data_safe members (data_of members) refl h

-- after the division of the input, where there is one
after_division_safe : (bytes : List ℕ) (turns : List Turn) (end : End) (division : Option (ℕ × ℕ)) →
    IsAfterDivision run_reader turns end bytes division → AreTurnsPromised turns
after_division_safe bytes turns end None h = rw h.0 none_promised
after_division_safe bytes turns end (Some x) h =
    after_document_safe (records_of (drop x.1 bytes)) turns end (document_of (take x.0 bytes)) h

-- of an input that is too long or not
within_safe : (bytes : List ℕ) (turns : List Turn) (end : End) (long : Bool) →
    MatchBool long ((turns ≡ []) × (end ≡ ends.TooLong)) (IsAfterDivision run_reader turns end bytes (divide bytes)) →
    AreTurnsPromised turns
within_safe bytes turns end true h = rw h.0 none_promised
within_safe bytes turns end false h = after_division_safe bytes turns end (divide bytes) h

-- each turn of a run is safe
pub turns_are_safe : (tell : Turn → List ℕ) (bytes : List ℕ) → AreJourneyTurnsSafe tell bytes
turns_are_safe tell bytes output told =
    within_safe bytes told.turns output.end (nat_lt most_bytes (length bytes)) told.run

-- ---- no outcome of these comes before the bytes are answered

-- no refusal of an input comes of reading alone
pub refused_not_before : (bytes : List ℕ) (outcome : Outcome) → IsRefusedBy bytes outcome →
    ComesOfReadingAlone outcome → ⊥
refused_not_before bytes Done h b = b
refused_not_before bytes Usage h b = h
refused_not_before bytes ReadFault h b = h
refused_not_before bytes WriteFault h b = b
refused_not_before bytes TooLong h b = h
refused_not_before bytes (BadData fault) h b = b
refused_not_before bytes (Refused fault) h b = b
refused_not_before bytes (BadEvent number cause) h b = b
refused_not_before bytes Memory h b = b
refused_not_before bytes (Undrivable cause) h b = b

-- nor does an outcome after which out isn't untouched
pub flat_not_before : (outcome : Outcome) → (LeavesOutUntouched outcome → ⊥) → ComesOfReadingAlone outcome → ⊥
flat_not_before Done h b = b
flat_not_before Usage h b = h b
flat_not_before ReadFault h b = h b
flat_not_before WriteFault h b = b
flat_not_before TooLong h b = h b
flat_not_before (BadData fault) h b = b
flat_not_before (Refused fault) h b = b
flat_not_before (BadEvent number cause) h b = b
flat_not_before Memory h b = b
flat_not_before (Undrivable cause) h b = b

-- an outcome that records may have is one that `run` and `display` may have
pub records_possible : (outcome : Outcome) → IsOutcomeIn records_shape outcome → IsOutcomeIn run_shape outcome
records_possible =
    of_records (IsOutcomeIn run_shape) tt tt (λ number cause from_1 possible. (from_1, ap not possible)) tt
