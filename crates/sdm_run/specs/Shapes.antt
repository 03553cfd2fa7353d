-- What each command needs, and which outcomes it may have: one record a command (own).
use Rattle.std.specs.Prelude.{◌≢◌, ◌≤◌, Bool, true, false, not, IsTrue, ⊤, List, ℕ, Option, MatchBool}
use Rattle.sdm_io.specs.Told.{Told}
use Rattle.sdm_rules.specs.declared.faults.EventCause.{EventCause}
use Rattle.sdm_rules.specs.declared.faults.EventCause.TheVariants.{Form, Authority, BadTrip, Restrict, Revoke}
use Rattle.sdm_rules.specs.declared.faults.EventCause.TheVariants.{TimeBack, Line}
use Rattle.sdm_rules.specs.declared.faults.OpenFault.TheVariants as open_faults
use Rattle.sdm_formats.specs.declared.faults.DataFault.TheVariants as data_faults
use Rattle.sdm_report.specs.declared.outcome.InputFault.TheVariants.{NoSplit, Toml, Data}
use Rattle.sdm_report.specs.declared.outcome.Outcome.{Outcome}
use Rattle.sdm_report.specs.declared.outcome.Outcome.TheVariants.{Done, Usage, ReadFault, WriteFault, TooLong, BadData}
use Rattle.sdm_report.specs.declared.outcome.Outcome.TheVariants.{Refused, BadEvent, Memory, Undrivable}
use Rattle.sdm_run.specs.declared.words.Command.{Command}
use Rattle.sdm_run.specs.declared.words.Command.TheVariants.{Flat, Run, Display, Trial, Upgrade, Drive, Certify}
use Rattle.sdm_run.specs.declared.words.Command.TheVariants.{Check, Why}

-- what a command needs, and what it may refuse
pub record Shape : Type 0 where
  pub reads_input : Bool  -- it reads the input to its end
  pub has_division : Bool  -- its input has a dividing line
  pub has_data : Bool  -- its input has a data part
  pub opens : Bool  -- the data open a supervision state
  pub drives : Bool  -- a train is driven over the data, where it can be
  pub takes_memory_first : Bool  -- it takes all its memory before it writes
  pub refuses : EventCause → Bool  -- for which causes it refuses a record or a line

-- the cause is that of a line of `flat` or `check`; all others are those of records
abbrev pub is_of_line : EventCause → Bool
is_of_line (Form fault) = false
is_of_line (Authority fault) = false
is_of_line BadTrip = false
is_of_line (Restrict fault) = false
is_of_line (Revoke fault) = false
is_of_line (TimeBack last time) = false
is_of_line Line = true

-- `flat`: an input of lines alone
abbrev pub flat_shape : Shape
flat_shape = record {
  reads_input = true;
  has_division = false;
  has_data = false;
  opens = false;
  drives = false;
  takes_memory_first = true;
  refuses =
      is_of_line;
}

-- records, once a supervision state is opened
abbrev pub records_shape : Shape
records_shape = record {
  reads_input = false;
  has_division = false;
  has_data = false;
  opens = false;
  drives = false;
  takes_memory_first = false;
  refuses =
      λ cause. not (is_of_line cause);
}

-- `run`, `display`, `why` and `certify`: a data part, which opens a supervision state, a dividing line, and records
abbrev pub run_shape : Shape
run_shape = record records_shape { reads_input = true; has_division = true; has_data = true; opens = true }

-- `trial`: it reads nothing, and nothing of it is refused
abbrev pub trial_shape : Shape
trial_shape = record {
  reads_input = false;
  has_division = false;
  has_data = false;
  opens = false;
  drives = false;
  takes_memory_first = true;
  refuses =
      λ cause. false;
}

-- `upgrade`: an input that is a data part alone, which opens nothing
abbrev pub upgrade_shape : Shape
upgrade_shape = record {
  reads_input = true;
  has_division = false;
  has_data = true;
  opens = false;
  drives = false;
  takes_memory_first = true;
  refuses =
      λ cause. false;
}

-- `drive`: an input that is a data part alone, which opens a supervision state
abbrev pub drive_shape : Shape
drive_shape = record upgrade_shape { opens = true; drives = true }

-- `check`: an input of lines alone, as that of `flat`
abbrev pub check_shape : Shape
check_shape = flat_shape

-- the shape of a command
abbrev pub shape_of : Command → Shape
shape_of (Flat decel end) = flat_shape
shape_of Run = run_shape
shape_of Display = run_shape
shape_of Why = run_shape
shape_of (Trial seed cycles) = trial_shape
shape_of Upgrade = upgrade_shape
shape_of (Drive seed cycles) = drive_shape
shape_of (Certify count) = run_shape
shape_of Check = check_shape

-- an outcome that a command of a shape may have; refused memory is never reported inside another fault
abbrev pub IsOutcomeIn : Shape → Outcome → Type 0
IsOutcomeIn shape Done = ⊤
IsOutcomeIn shape Usage = ⊥
IsOutcomeIn shape ReadFault = IsTrue shape.reads_input
IsOutcomeIn shape WriteFault = ⊤
IsOutcomeIn shape TooLong = IsTrue shape.reads_input
IsOutcomeIn shape (BadData NoSplit) = IsTrue shape.has_division
IsOutcomeIn shape (BadData Toml) = IsTrue shape.has_data
IsOutcomeIn shape (BadData (Data fault)) = IsTrue shape.has_data × (fault ≢ data_faults.Memory)
IsOutcomeIn shape (Refused fault) = IsTrue shape.opens × (fault ≢ open_faults.Memory)
IsOutcomeIn shape (BadEvent number cause) = (1 ≤ number) × IsTrue (shape.refuses cause)
IsOutcomeIn shape Memory = ⊤
IsOutcomeIn shape (Undrivable cause) = IsTrue shape.drives

-- a fact of the bytes that a command answers: those of the input, where the source knows them; for a command that reads
-- nothing, any bytes
abbrev pub OfInput : Shape → Option (List ℕ) → (List ℕ → Type 0) → Type 0
OfInput shape left P = MatchBool shape.reads_input (Told left P) ((bytes : List ℕ) → P bytes)
