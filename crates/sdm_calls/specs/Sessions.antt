-- What a session of `live` has answered (own).
use Rattle.std.specs.Prelude.{◌≡◌, ℕ, List, [], ◌++◌}
use Rattle.sdm_rules.specs.Supervision.{Supervision}
use Rattle.sdm_live.specs.Lines.{Coming}
use Rattle.sdm_live.specs.Progress.{start, with_bytes, with_end}
use Rattle.sdm_live.specs.Taken.{standing}
use Rattle.sdm_live_records.specs.Live.{LiveState, live_rules}
use Rattle.sdm_live_run.specs.Live.{begun, due_of, whole_of}
use Rattle.sdm_calls.specs.Begun.{IsBegunBy}

-- from a supervision state on, bytes of records led to this state and line, and this text was told
abbrev pub IsAnsweredSo : Supervision → List ℕ → List ℕ → LiveState → Coming → Type 0
IsAnsweredSo s bytes text records line =
    with_bytes live_rules (start live_rules (begun s) []) bytes ≡ standing records line text

-- WHAT A SESSION ANSWERS, in whatever pieces its records come: the text that `live` owes for all bytes so far, and at the
-- end the whole text
pub record LawOfSessions : Type 0 where
  pub begins : (given : List ℕ) (records : LiveState) (line : Coming) → IsBegunBy given records line
      → IsAnsweredSo records.supervision [] [] records line
  pub feeds : (s : Supervision) (bytes text more told : List ℕ) (records : LiveState) (line : Coming) (after : LiveState)
      (left : Coming) → IsAnsweredSo s bytes text records line
      → with_bytes live_rules (standing records line []) more ≡ standing after left told
      → IsAnsweredSo s (bytes ++ more) (text ++ told) after left
  pub due : (s : Supervision) (bytes text : List ℕ) (records : LiveState) (line : Coming)
      → IsAnsweredSo s bytes text records line → text ≡ due_of s bytes
  pub whole : (s : Supervision) (bytes text told : List ℕ) (records : LiveState) (line : Coming) (after : LiveState)
      (left : Coming) → IsAnsweredSo s bytes text records line
      → with_end live_rules (standing records line []) ≡ standing after left told → text ++ told ≡ whole_of s bytes
