-- What a call leaves in the memory of its caller (own).
use Rattle.std.specs.Prelude.{◌≡◌, ◌≢◌, ◌⊎◌, ℕ, List, [], ◌++◌, Some, drop, length, take}
use Rattle.sdm_formats.specs.Flat.{Output}
use Rattle.sdm_report.specs.declared.outcome.Outcome.{Outcome}
use Rattle.sdm_report.specs.declared.outcome.Outcome.TheVariants.{Memory, ReadFault, Usage, WriteFault}
use Rattle.sdm_report.specs.OutcomeLines.{exit_code, outcome_line}
use Rattle.sdm_run.specs.Answers.{IsAnswer, told_end}
use Rattle.sdm_calls.specs.declared.endings.EndedC.{EndedC}
use Rattle.sdm_calls.specs.Calls.{AsksNothing, OfOutputIn}
use Rattle.sdm_calls.specs.Lines.{HasLine}

-- the end is the one that is defined, and the text is all of the text before it
pub record IsWhole (output : Output) (text : List ℕ) (outcome : Outcome) : Type 0 where
  pub end : told_end outcome ≡ Some output.end
  pub all : text ≡ output.text

-- a text begins another one
pub record IsBeginning (text all : List ℕ) : Type 0 where
  pub rest : List ℕ
  pub parts : all ≡ text ++ rest

-- WHAT A CALL LEAVES, for its words and the bytes of its input: the code and the line of an outcome, and what came of the text
-- that is defined for them, all of it or, where memory was refused, a prefix; as many bytes of it as there was room for
-- stand in the lent memory, and the rest of that is as before
pub record IsTold (words input : List ℕ) (code : ℕ) (before room : List ℕ) (ended : EndedC) : Type 0 where
  pub outcome : Outcome
  pub text : List ℕ
  pub answer : OfOutputIn words input (λ output. IsAnswer output (Some []) (Some text) outcome)
  pub begins : OfOutputIn words input (λ output. IsBeginning text output.text)
  pub whole : outcome ≢ WriteFault → outcome ≢ Memory
      → OfOutputIn words input (λ output. IsWhole output text outcome)
  pub usage : outcome ≡ Usage → AsksNothing words
  pub nothing : AsksNothing words → ((outcome ≡ Usage) ⊎ (outcome ≡ Memory)) × (text ≡ [])
  pub no_reading : outcome ≢ ReadFault
  pub code_is : code ≡ exit_code outcome
  pub line : HasLine ended (outcome_line outcome)
  pub count : ended.text_bytes ≡ length text
  pub front : take (length text) room ≡ take (length before) text
  pub rest : drop (length text) room ≡ drop (length text) before
