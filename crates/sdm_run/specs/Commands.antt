-- What each command defines for the bytes of its input, and what its rows promise (own).
use Rattle.std.specs.Prelude.{◌≡◌, ℕ, false, List, [], Option, Some, None, ⊤, length, nat_lt, if◌then◌else◌}
use Rattle.sdm_rules.specs.Records.{Turn, rows_of}
use Rattle.sdm_row_laws.specs.OpenTurns.{AreTurnsPromised}
use Rattle.sdm_formats.specs.Flat.{Output, flat_output}
use Rattle.sdm_formats.specs.Input.{most_bytes, TooLong}
use Rattle.sdm_formats.specs.Text.{display_tells, run_tells}
use Rattle.sdm_formats.specs.Trial.{summary_text, trial_journey, trial_output}
use Rattle.sdm_causes.specs.Text.{why_tells}
use Rattle.sdm_run.specs.Certifying.{IsCertifyOutput}
use Rattle.sdm_run.specs.Checks.{AreCheckAnswersSafe, IsCheckOutput}
use Rattle.sdm_run.specs.Drives.{AreDriveRowsSafe, IsDriveOutput}
use Rattle.sdm_run.specs.FlatRun.{AreFlatRowsSafe}
use Rattle.sdm_run.specs.Journeys.{IsJourneyOutput}
use Rattle.sdm_run.specs.Shapes.{shape_of}
use Rattle.sdm_run.specs.Upgrades.{upgrade_output}
use Rattle.sdm_run.specs.declared.words.Command.{Command}
use Rattle.sdm_run.specs.declared.words.Command.TheVariants.{Flat, Run, Display, Trial, Upgrade, Drive, Certify}
use Rattle.sdm_run.specs.declared.words.Command.TheVariants.{Check, Why}

-- an input that is too long has no text; else the output that is given
abbrev pub within_limit : List ℕ → Output → Output
within_limit bytes output = if nat_lt most_bytes (length bytes) then record { text = []; end = TooLong } else output

-- the text and the end that a command defines for the bytes of its input; there is one such output for all bytes
abbrev pub IsOutputOf : Command → List ℕ → Output → Type 0
IsOutputOf (Flat decel end) bytes output = output ≡ within_limit bytes (flat_output decel end bytes)
IsOutputOf Run bytes output = IsJourneyOutput run_tells bytes output
IsOutputOf Display bytes output = IsJourneyOutput display_tells bytes output
IsOutputOf Why bytes output = IsJourneyOutput why_tells bytes output
IsOutputOf (Trial seed cycles) bytes output = output ≡ trial_output seed cycles
IsOutputOf Upgrade bytes output = output ≡ within_limit bytes (upgrade_output bytes)
IsOutputOf (Drive seed cycles) bytes output = IsDriveOutput seed cycles bytes output
IsOutputOf (Certify count) bytes output = IsCertifyOutput count bytes output
IsOutputOf Check bytes output = IsCheckOutput bytes output

-- there is an output of the command for the bytes, and no other
pub record HasOneOutput (command : Command) (bytes : List ℕ) : Type 0 where
  pub output : Output
  pub is : IsOutputOf command bytes output
  pub only : (other : Output) → IsOutputOf command bytes other → other ≡ output

-- this holds of the output of a command, which is one and no other
pub record OfOutput (command : Command) (bytes : List ℕ) (P : Output → Type 0) : Type 0 where
  pub one : HasOneOutput command bytes
  pub holds : (output : Output) → IsOutputOf command bytes output → P output

-- whatever turns make an output of a journey (their texts are its text), what a command says of its rows holds for each
-- of them, from no command held on
abbrev pub AreJourneyTurnsSafe : (Turn → List ℕ) → List ℕ → Type 0
AreJourneyTurnsSafe tell bytes =
    (output : Output) (told : IsJourneyOutput tell bytes output) → AreTurnsPromised told.turns

-- the text of a trial sums up the rows of its turns, of each of which what a command says of its rows holds, from no
-- command held on
pub record AreTrialRowsSafe (seed cycles : ℕ) : Type 0 where
  pub text : (trial_output seed cycles).text ≡ summary_text (rows_of (trial_journey seed cycles).turns)
  pub turns : AreTurnsPromised (trial_journey seed cycles).turns

-- what is promised of the rows of a command, of `display`, `why` and `certify` of those that `run` has for its input; of
-- `check` of its answers; `upgrade` has none
abbrev pub AreRowsSafe : Command → List ℕ → Type 0
AreRowsSafe (Flat decel end) bytes = AreFlatRowsSafe decel end bytes
AreRowsSafe Run bytes = AreJourneyTurnsSafe run_tells bytes
AreRowsSafe Display bytes = AreJourneyTurnsSafe display_tells bytes
AreRowsSafe Why bytes = AreJourneyTurnsSafe why_tells bytes
AreRowsSafe (Trial seed cycles) bytes = AreTrialRowsSafe seed cycles
AreRowsSafe Upgrade bytes = ⊤
AreRowsSafe (Drive seed cycles) bytes = AreDriveRowsSafe seed cycles bytes
AreRowsSafe (Certify count) bytes = AreJourneyTurnsSafe run_tells bytes
AreRowsSafe Check bytes = AreCheckAnswersSafe bytes

-- the command in whose output the rows of a command stand: `run` for `certify`, which tells them by certificates
abbrev pub with_rows : Command → Command
with_rows (Flat decel end) = Flat decel end
with_rows Run = Run
with_rows Display = Display
with_rows Why = Why
with_rows (Trial seed cycles) = Trial seed cycles
with_rows Upgrade = Upgrade
with_rows (Drive seed cycles) = Drive seed cycles
with_rows (Certify count) = Run
with_rows Check = Check

-- there is one output with the rows of a command, and what is promised of them holds
pub record HasSafeRows (command : Command) (bytes : List ℕ) : Type 0 where
  pub one : HasOneOutput (with_rows command) bytes
  pub safe : AreRowsSafe command bytes

-- the words name no command that reads the input
abbrev pub ReadsNothing : Option Command → Type 0
ReadsNothing None = ⊤
ReadsNothing (Some command) = (shape_of command).reads_input ≡ false
