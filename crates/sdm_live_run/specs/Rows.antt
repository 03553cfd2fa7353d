-- What is promised of the rows of `live` (own).
use Rattle.std.specs.Prelude.{◌≡◌, ◌⊎◌, ℕ, List, ◌++◌, Option, Some, None, drop, take}
use Rattle.sdm_rules.specs.Supervision.{Supervision}
use Rattle.sdm_row_laws.specs.OpenTurns.{AreTurnsPromised}
use Rattle.sdm_data.specs.Division.{divide}
use Rattle.sdm_opening.specs.Openings.{IsOpeningOf}
use Rattle.sdm_live.specs.ByLines.{lines_of}
use Rattle.sdm_live.specs.Exchanges.{History, came, sent}
use Rattle.sdm_live.specs.Taken.{Begins}
use Rattle.sdm_live_laws.specs.Turns.{answers_text, line_answers, live_turns}

-- the text is one answer to each line of the records, from a state on, and what `run` says of its rows holds of each turn
-- of a record that is taken
pub record IsPromisedFrom (s : Supervision) (records text : List ℕ) : Type 0 where
  pub answers : text ≡ answers_text (line_answers s (lines_of records))
  pub turns : AreTurnsPromised (live_turns s records)

-- so it is from the state that the data part opens, of bytes that are divided so
abbrev pub IsPromisedAfter : List ℕ → List ℕ → Option (ℕ × ℕ) → Type 0
IsPromisedAfter bytes text None = ⊥
IsPromisedAfter bytes text (Some x) =
    (s : Supervision) × IsOpeningOf (take x.0 bytes) s × IsPromisedFrom s (drop x.1 bytes) text

module _ (start : History) where
  -- what was handed over begins the answers to the bytes that came, whose rows are promised
  pub record BeginsPromised (now : History) : Type 0 where
    pub bytes : List ℕ
    pub text : List ℕ
    pub came_is : came now ≡ came start ++ bytes
    pub promised : IsPromisedAfter bytes text (divide bytes)
    pub begins : Begins (sent now) (sent start ++ text)

  -- WHAT `run` SAYS OF ITS ROWS, of each row that was handed over, whatever was refused between them and however it ended
  abbrev pub AreLiveRowsSafe : History → Type 0
  AreLiveRowsSafe now = (sent now ≡ sent start) ⊎ BeginsPromised now
