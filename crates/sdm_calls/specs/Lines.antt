-- The line that a call tells (own).
use Rattle.std.specs.Prelude.{◌≡◌, ℕ, List, length, take}
use Rattle.sdm_calls.specs.declared.endings.EndedC.{EndedC}

-- the line is this text: so many of its bytes
pub record HasLine (ended : EndedC) (text : List ℕ) : Type 0 where
  pub count : ended.line_bytes ≡ length text
  pub bytes : take ended.line_bytes ended.line ≡ text
