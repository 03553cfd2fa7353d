-- What bytes of records make of a session, and what is told of them (own).
use Rattle.std.specs.Prelude.{◌≡◌, ℕ, List, [], drop, length, take}
use Rattle.sdm_live.specs.Lines.{Coming}
use Rattle.sdm_live.specs.Progress.{with_bytes, with_end}
use Rattle.sdm_live.specs.Taken.{standing}
use Rattle.sdm_live_records.specs.Live.{LiveState, live_rules}
use Rattle.sdm_calls.specs.declared.endings.EndedC.{EndedC}

-- a text came to lent memory: as many of its bytes as there was room for, and how many it has
pub record IsPut (text before room : List ℕ) (ended : EndedC) : Type 0 where
  pub count : ended.text_bytes ≡ length text
  pub front : take (length text) room ≡ take (length before) text
  pub rest : drop (length text) room ≡ drop (length text) before

-- the bytes lead from one state and line to another, with the text that is told of them, which came to lent memory
pub record IsFed (records : LiveState) (line : Coming) (bytes : List ℕ) (after : LiveState) (left : Coming)
    (before room : List ℕ) (ended : EndedC) : Type 0 where
  pub text : List ℕ
  pub leads : with_bytes live_rules (standing records line []) bytes ≡ standing after left text
  pub told : IsPut text before room ended

-- the end of the records does
pub record IsEndedBy (records : LiveState) (line : Coming) (after : LiveState) (left : Coming)
    (before room : List ℕ) (ended : EndedC) : Type 0 where
  pub text : List ℕ
  pub leads : with_end live_rules (standing records line []) ≡ standing after left text
  pub told : IsPut text before room ended
