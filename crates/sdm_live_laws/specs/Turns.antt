-- What `live` makes of lines, apart from the text of its answers: the turns of the records that it takes (own).
use Rattle.std.specs.Prelude.{◌≡◌, ℕ, List, [], ◌∷◌, ◌++◌, Option, Some, None, Result, Ok, Err, nat_le, length}
use Rattle.std.specs.Prelude.{if◌then◌else◌}
use Rattle.sdm_rules.specs.declared.faults.EventCause.{EventCause}
use Rattle.sdm_rules.specs.Commands.{nothing_held}
use Rattle.sdm_rules.specs.Opening.{IsOpen}
use Rattle.sdm_rules.specs.Records.{Turn}
use Rattle.sdm_rules.specs.Supervision.{Supervision}
use Rattle.sdm_row_laws.specs.OpenTurns.{AreTurnsPromised}
use Rattle.sdm_live.specs.ByLines.{lines_of}
use Rattle.sdm_live.specs.Progress.{longest_line, whole}
use Rattle.sdm_live_records.specs.Live.{LiveState, answer_to, live_rules, state_after, too_long_text, turn_of_line}

-- what a line is answered by: the turn of its record or why that is refused; none where the line is too long
abbrev pub LineAnswer : Type 0
LineAnswer = Option (Result Turn EventCause)

-- what lines are answered by from a supervision state on, one after the other
abbrev pub line_answers : Supervision → List (List ℕ) → List LineAnswer
line_answers s [] = []
line_answers s (line ∷ lines) =
    if nat_le (length line) longest_line
    then (let turn = turn_of_line s line in Some turn ∷ line_answers (state_after s turn) lines)
    else None ∷ line_answers s lines

-- the text of an answer
abbrev pub answer_text : LineAnswer → List ℕ
answer_text None = too_long_text
answer_text (Some turn) = answer_to turn

-- the texts of answers, one after the other
abbrev pub answers_text : List LineAnswer → List ℕ
answers_text [] = []
answers_text (a ∷ more) = answer_text a ++ answers_text more

-- an answer's turn, before those of others
abbrev pub with_taken : LineAnswer → List Turn → List Turn
with_taken None more = more
with_taken (Some (Ok t)) more = t ∷ more
with_taken (Some (Err cause)) more = more

-- the turns of the records that were taken
abbrev pub turns_taken : List LineAnswer → List Turn
turns_taken [] = []
turns_taken (a ∷ more) = with_taken a (turns_taken more)

-- the turns of the records that are taken of bytes of records
abbrev pub live_turns : Supervision → List ℕ → List Turn
live_turns s bytes = turns_taken (line_answers s (lines_of bytes))

-- the whole text is one answer to each line, in order
abbrev pub LawOfLiveText : Type 0
LawOfLiveText = (s : LiveState) (bytes : List ℕ) →
    whole live_rules s bytes ≡ answers_text (line_answers s.supervision (lines_of bytes))

-- WHAT `run` SAYS OF ITS ROWS, of the turns of a live run, from an open state on in which nothing is held
abbrev pub LawOfLiveRows : Type 0
LawOfLiveRows = (s : Supervision) (bytes : List ℕ) → IsOpen s → s.commands ≡ nothing_held →
    AreTurnsPromised (live_turns s bytes)
