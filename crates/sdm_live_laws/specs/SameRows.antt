-- A live run beside `run`, which reads all records at once (own).
use Rattle.std.specs.Prelude.{◌≡◌, ℕ, Bool, true, false, List, [], ◌∷◌, ◌++◌, ◌&&◌, ◌||◌, None, map, if◌then◌else◌}
use Rattle.std.specs.Char.{is_ascii_digit}
use Rattle.csv.specs.Machine.{step}
use Rattle.csv.specs.Reading.{default_config, strip_bom}
use Rattle.csv.specs.declared.parser.State.{State}
use Rattle.csv.specs.declared.parser.State.TheVariants as st
use Rattle.sdm_rules.specs.Records.{Journey, event_at, journey_from}
use Rattle.sdm_rules.specs.Supervision.{Supervision}
use Rattle.sdm_formats.specs.Forms.{event_of}
use Rattle.sdm_formats.specs.Lines.{ended_lines}
use Rattle.sdm_formats.specs.Text.{run_tells, told}
use Rattle.sdm_events.specs.Journey.{records_of}
use Rattle.sdm_live.specs.ByLines.{lines_of}
use Rattle.sdm_live.specs.Progress.{ends_line}
use Rattle.sdm_live_records.specs.Fields.{split_fields}
use Rattle.sdm_live_laws.specs.Turns.{answers_text, line_answers, live_turns}

-- within quotes, where `csv` stands so in a text
abbrev pub is_quoted : State → Bool
is_quoted st.StartRecord = false
is_quoted st.StartField = false
is_quoted st.InField = false
is_quoted st.InQuoted = true
is_quoted st.AfterQuote = false
is_quoted st.InEscape = true
is_quoted st.InComment = false
is_quoted st.AfterCr = false

-- a line ends within quotes, from a state on
abbrev pub breaks_quotes_from : State → List ℕ → Bool
breaks_quotes_from s [] = false
breaks_quotes_from s (c ∷ rest) =
    (ends_line c && is_quoted s) || breaks_quotes_from (step default_config s c).0 rest

-- a line ends within quotes
abbrev pub breaks_quotes : List ℕ → Bool
breaks_quotes text = breaks_quotes_from st.StartRecord text

-- bytes whose records stand on lines of their own, after a byte order mark if one begins them
abbrev pub AreOnLines : List ℕ → Type 0
AreOnLines bytes = breaks_quotes (strip_bom bytes) ≡ false

-- the records that `csv` reads of such bytes are the fields of the lines after the mark
abbrev pub LawOfLineRecords : Type 0
LawOfLineRecords = (bytes : List ℕ) → AreOnLines bytes →
    records_of bytes ≡ map split_fields (lines_of (strip_bom bytes))

-- the journey that `run` makes of the bytes of its records, from a supervision state on
abbrev pub run_journey : Supervision → List ℕ → Journey
run_journey s bytes = journey_from (event_at event_of) 1 s (records_of bytes)

-- THE ROWS OF `run`: where it accepts the bytes, the live run takes the same turns
abbrev pub LawOfSameRows : Type 0
LawOfSameRows = (s : Supervision) (bytes : List ℕ) → (run_journey s bytes).refused ≡ None →
    live_turns s bytes ≡ (run_journey s bytes).turns

-- ---- their text

-- a line of a row: it begins with a digit, as no other answer does
abbrev pub is_row_line : List ℕ → Bool
is_row_line [] = false
is_row_line (c ∷ cs) = is_ascii_digit c

-- those lines among others, one after the other
abbrev pub rows_among : List (List ℕ) → List ℕ
rows_among [] = []
rows_among (line ∷ lines) = if is_row_line line then line ++ rows_among lines else rows_among lines

-- THE ROWS in a text of answers: its lines that begin with a digit
abbrev pub rows_in : List ℕ → List ℕ
rows_in text = rows_among (ended_lines text)

-- THE TEXT OF `run`: where it accepts the bytes, its text is that of the rows in the answers of the live run
abbrev pub LawOfSameText : Type 0
LawOfSameText = (s : Supervision) (bytes : List ℕ) → (run_journey s bytes).refused ≡ None →
    rows_in (answers_text (line_answers s (lines_of bytes))) ≡ told run_tells (run_journey s bytes).turns
