-- What the parts of `live` say: of its data part, and of its records (own).
use Rattle.std.specs.Prelude.{ℕ, List, ◌++◌, take}
use Rattle.sdm_rules.specs.Supervision.{Supervision}
use Rattle.sdm_report.specs.declared.outcome.Outcome.{Outcome}
use Rattle.sdm_report.specs.declared.outcome.Outcome.TheVariants as outcomes
use Rattle.sdm_opening.specs.Openings.{IsOpeningOf}
use Rattle.sdm_live.specs.declared.live.Ended.{Ended}
use Rattle.sdm_live.specs.declared.live.Ended.TheVariants as ends
use Rattle.sdm_live_data.specs.declared.data_parts.Division.{Division}
use Rattle.sdm_live_data.specs.Divisions.{IsDivision}
use Rattle.sdm_live_run.specs.Live.{due_of, whole_of}

-- the bytes are divided so, and the data part opens this state
pub record IsDataRead (bytes : List ℕ) (s : Supervision) (d : Division) : Type 0 where
  pub division : IsDivision bytes d
  pub opens : IsOpeningOf (take d.data_end bytes) s

-- the text due for bytes of records that come after some that are given
abbrev pub due_on : Supervision → List ℕ → List ℕ → List ℕ
due_on s given bytes = due_of s (given ++ bytes)

-- the whole text of them
abbrev pub whole_on : Supervision → List ℕ → List ℕ → List ℕ
whole_on s given bytes = whole_of s (given ++ bytes)

-- the outcome of the program, by how its records ended
abbrev pub outcome_of : Ended → Outcome
outcome_of ends.Done = outcomes.Done
outcome_of ends.ReadFault = outcomes.ReadFault
outcome_of ends.WriteFault = outcomes.WriteFault
outcome_of ends.Endless = outcomes.TooLong
