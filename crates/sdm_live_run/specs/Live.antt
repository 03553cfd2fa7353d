-- What `live` owes for the bytes that came (own). Which state the data open is a relation, so what is due is one too; it
-- is one text for all bytes.
use Rattle.std.specs.Prelude.{◌≡◌, ◌⊎◌, ℕ, List, [], ◌++◌, Option, Some, None, take, drop, true, length, ◌+◌, ◌<◌, ◌≤◌}
use Rattle.std.specs.List.{AllByRecursion}
use Rattle.sdm_rules.specs.Supervision.{Supervision}
use Rattle.sdm_report.specs.declared.outcome.InputFault.TheVariants.{NoSplit}
use Rattle.sdm_report.specs.declared.outcome.Outcome.{Outcome}
use Rattle.sdm_report.specs.declared.outcome.Outcome.TheVariants.{Done, Usage, ReadFault, WriteFault, TooLong, BadData}
use Rattle.sdm_report.specs.declared.outcome.Outcome.TheVariants.{Refused, BadEvent, Memory, Undrivable}
use Rattle.sdm_formats.specs.Input.{most_bytes}
use Rattle.sdm_data.specs.Division.{divide}
use Rattle.sdm_opening.specs.Openings.{IsOpeningOf}
use Rattle.sdm_run.specs.RunParts.{IsRefusedBy}
use Rattle.sdm_live.specs.Answers.{most_asks}
use Rattle.sdm_live.specs.Exchanges.{History, asked_at, came, is_given_on, sent}
use Rattle.sdm_live.specs.Progress.{due, whole}
use Rattle.sdm_live.specs.Taken.{Begins}
use Rattle.sdm_live_records.specs.Live.{LiveState, live_rules}

-- the state before the first record
abbrev pub begun : Supervision → LiveState
begun s = record { supervision = s; text = [] }

-- the text due for bytes of records, from a supervision state on
unfoldable pub due_of : Supervision → List ℕ → List ℕ
due_of s bytes = due live_rules (begun s) bytes

-- the whole text of the records that bytes are, from a supervision state on
unfoldable pub whole_of : Supervision → List ℕ → List ℕ
whole_of s bytes = whole live_rules (begun s) bytes

-- the text due for bytes that are divided so: nothing before the records begin
abbrev pub IsDueAfter : List ℕ → List ℕ → Option (ℕ × ℕ) → Type 0
IsDueAfter bytes text None = text ≡ []
IsDueAfter bytes text (Some x) =
    ((drop x.1 bytes ≡ []) × (text ≡ []))
    ⊎ ((s : Supervision) × IsOpeningOf (take x.0 bytes) s × (text ≡ due_of s (drop x.1 bytes)))

-- THE TEXT DUE
abbrev pub IsDue : List ℕ → List ℕ → Type 0
IsDue bytes text = IsDueAfter bytes text (divide bytes)

-- the whole text of bytes that are divided so
abbrev pub IsWholeAfter : List ℕ → List ℕ → Option (ℕ × ℕ) → Type 0
IsWholeAfter bytes text None = ⊥
IsWholeAfter bytes text (Some x) =
    (s : Supervision) × IsOpeningOf (take x.0 bytes) s × (text ≡ whole_of s (drop x.1 bytes))

-- THE WHOLE TEXT of an input whose data are accepted
abbrev pub IsWholeText : List ℕ → List ℕ → Type 0
IsWholeText bytes text = IsWholeAfter bytes text (divide bytes)

-- the outcome of data that open nothing
abbrev pub IsRefusalAfter : List ℕ → Outcome → Option (ℕ × ℕ) → Type 0
IsRefusalAfter bytes outcome None = outcome ≡ BadData NoSplit
IsRefusalAfter bytes outcome (Some x) = IsRefusedBy (take x.0 bytes) outcome

module _ (start : History) where
  -- what the bytes that came since the start make due was handed over, that and nothing else, and is with the peer
  pub record IsAnsweredLive (now : History) : Type 0 where
    pub bytes : List ℕ
    pub text : List ℕ
    pub came_is : came now ≡ came start ++ bytes
    pub due : IsDue bytes text
    pub sent_is : sent now ≡ sent start ++ text
    pub given_on : is_given_on now ≡ true

  -- PROMPT: whenever the program asked for more since the start, all that was due was with the peer
  pub record IsPromptLive (now : History) : Type 0 where
    pub asks : List History
    pub asks_are : asked_at now ≡ asks ++ asked_at start
    pub answered : AllByRecursion IsAnsweredLive asks

  -- the whole text of the bytes that came is with the peer
  pub record IsWholeLive (now : History) : Type 0 where
    pub bytes : List ℕ
    pub text : List ℕ
    pub came_is : came now ≡ came start ++ bytes
    pub whole : IsWholeText bytes text
    pub sent_is : sent now ≡ sent start ++ text
    pub given_on : is_given_on now ≡ true

  -- what was handed over begins the whole text
  pub record IsCutLive (now : History) : Type 0 where
    pub bytes : List ℕ
    pub text : List ℕ
    pub came_is : came now ≡ came start ++ bytes
    pub whole : IsWholeText bytes text
    pub begins : Begins (sent now) (sent start ++ text)

  -- the data are refused so, and nothing was handed over
  pub record IsRefusedLive (outcome : Outcome) (now : History) : Type 0 where
    pub bytes : List ℕ
    pub came_is : came now ≡ came start ++ bytes
    pub refused : IsRefusalAfter bytes outcome (divide bytes)
    pub sent_is : sent now ≡ sent start

  -- more bytes came than a data part may have, and nothing was handed over
  pub record IsTooLong (now : History) : Type 0 where
    pub bytes : List ℕ
    pub came_is : came now ≡ came start ++ bytes
    pub long : most_bytes < length bytes
    pub sent_is : sent now ≡ sent start

  -- it asked as often as the loop over the records counts, and at the last time all that was due was with the peer
  pub record IsOutOfAsksLive (now : History) : Type 0 where
    pub answered : IsAnsweredLive now
    pub asks : most_asks + length (asked_at start) ≤ length (asked_at now)

  -- THE END: what an outcome says of what the peer has
  abbrev pub IsLiveEnd : Outcome → History → Type 0
  IsLiveEnd Done now = IsWholeLive now
  IsLiveEnd Usage now = ⊥
  IsLiveEnd ReadFault now = IsAnsweredLive now
  IsLiveEnd WriteFault now = IsCutLive now
  IsLiveEnd TooLong now = IsTooLong now ⊎ IsOutOfAsksLive now
  IsLiveEnd (BadData fault) now = IsRefusedLive (BadData fault) now
  IsLiveEnd (Refused fault) now = IsRefusedLive (Refused fault) now
  IsLiveEnd (BadEvent number cause) now = ⊥
  IsLiveEnd Memory now = sent now ≡ sent start
  IsLiveEnd (Undrivable cause) now = ⊥
