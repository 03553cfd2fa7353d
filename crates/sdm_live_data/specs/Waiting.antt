-- What a peer has while the data part is read (own).
use Rattle.std.specs.Prelude.{◌≡◌, ◌<◌, ℕ, List, ◌++◌, None, length, true}
use Rattle.std.specs.List.{AllByRecursion}
use Rattle.sdm_report.specs.declared.outcome.InputFault.TheVariants.{NoSplit, Toml, Data}
use Rattle.sdm_report.specs.declared.outcome.Outcome.{Outcome}
use Rattle.sdm_report.specs.declared.outcome.Outcome.TheVariants.{Done, Usage, ReadFault, WriteFault, TooLong, BadData}
use Rattle.sdm_report.specs.declared.outcome.Outcome.TheVariants.{Refused, BadEvent, Memory, Undrivable}
use Rattle.sdm_formats.specs.Input.{most_bytes}
use Rattle.sdm_data.specs.Division.{divide}
use Rattle.sdm_live.specs.Exchanges.{History, asked_at, came, is_given_on, sent}
use Rattle.sdm_live_data.specs.Divisions.{HasNoRecords}

-- since a start no record has begun, nothing was handed over, and nothing is held back
pub record IsWaiting (start now : History) : Type 0 where
  pub bytes : List ℕ
  pub came_is : came now ≡ came start ++ bytes
  pub sent_is : sent now ≡ sent start
  pub given_on : is_given_on now ≡ true
  pub no_records : HasNoRecords bytes

-- whenever the program asked for more since the start, no record had begun
pub record IsWaitingPrompt (start now : History) : Type 0 where
  pub asks : List History
  pub asks_are : asked_at now ≡ asks ++ asked_at start
  pub waited : AllByRecursion (IsWaiting start) asks

-- these bytes came since the start, nothing was handed over, and nothing is held back
pub record IsGathered (bytes : List ℕ) (start now : History) : Type 0 where
  pub came_is : came now ≡ came start ++ bytes
  pub sent_is : sent now ≡ sent start
  pub given_on : is_given_on now ≡ true
  pub prompt : IsWaitingPrompt start now

-- bytes came of which this holds, and nothing was handed over
pub record IsUnanswered (P : List ℕ → Type 0) (start now : History) : Type 0 where
  pub bytes : List ℕ
  pub came_is : came now ≡ came start ++ bytes
  pub sent_is : sent now ≡ sent start
  pub holds : P bytes

-- what an outcome says that comes before any data were read
abbrev pub IsGatherEnd : Outcome → History → History → Type 0
IsGatherEnd Done start now = ⊥
IsGatherEnd Usage start now = ⊥
IsGatherEnd ReadFault start now = IsWaiting start now
IsGatherEnd WriteFault start now = ⊥
IsGatherEnd TooLong start now = IsUnanswered (λ bytes. most_bytes < length bytes) start now
IsGatherEnd (BadData NoSplit) start now = IsUnanswered (λ bytes. divide bytes ≡ None) start now
IsGatherEnd (BadData Toml) start now = ⊥
IsGatherEnd (BadData (Data fault)) start now = ⊥
IsGatherEnd (Refused fault) start now = ⊥
IsGatherEnd (BadEvent number cause) start now = ⊥
IsGatherEnd Memory start now = sent now ≡ sent start
IsGatherEnd (Undrivable cause) start now = ⊥
