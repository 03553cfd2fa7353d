-- The records that are taken are a journey of their own: read as they are, each leads where it led.
use Rattle.std.proofs.Common.{◌≡◌, ◌∙◌, ap, subst, refl, ℕ, suc, List, [], ◌∷◌, ◌++◌, map}
use Rattle.std.proofs.Common.{if◌then◌else◌, Some, None, Result, Ok, Err, Bool, true, false, nat_le, length}
use Rattle.sdm_rules.specs.declared.records.Event.{Event}
use Rattle.sdm_rules.specs.declared.faults.EventFault.{EventFault}
use Rattle.sdm_rules.specs.declared.faults.EventCause.{EventCause}
use Rattle.sdm_rules.specs.Records.{Turn, go_on, journey_from, step, turn_of, turn_to}
use Rattle.sdm_rules.specs.Supervision.{Supervision}
use Rattle.sdm_row_laws.specs.OpenTurns.{AreTurnsPromised}
use Rattle.sdm_row_laws.proofs.OpenTurns.{promised_turns}
use Rattle.sdm_live.specs.ByLines.{lines_of}
use Rattle.sdm_live.specs.ByLines as by_lines
use Rattle.sdm_live.specs.Progress.{longest_line}
use Rattle.sdm_live.proofs.DueLines.{due_lines}
use Rattle.sdm_live_records.specs.Live.{answered, live_rules, state_after, too_long_text, turn_of_line}
use Rattle.sdm_live_laws.specs.Turns.{LawOfLiveRows, LawOfLiveText, LineAnswer, answers_text, line_answers, live_turns}
use Rattle.sdm_live_laws.specs.Turns.{turns_taken}

abbrev itself : ℕ → Event → Result Event EventFault
itself n e = Ok e

abbrev events : List Turn → List Event
events turns = map (λ t. t.event) turns

abbrev value_or : Turn → Result Turn EventCause → Turn
value_or d (Ok x) = x
value_or d (Err cause) = d

-- the event of a turn leads where it led
again_at : (s : Supervision) (e : Event) (r : Result Supervision EventCause) (t : Turn) → step s e ≡ r →
    turn_to s e r ≡ Ok t → turn_of s (Ok t.event) ≡ Ok t
again_at s e (Ok after) t at is =
    let T : Turn → Type 0 = λ t. turn_of s (Ok t.event) ≡ Ok t in
    subst T (ap (value_or t) is) (ap (turn_to s e) at)
again_at s e (Err cause) t at is = absurd cc

again : (s : Supervision) (e : Result Event EventFault) (t : Turn) → turn_of s e ≡ Ok t → turn_of s (Ok t.event) ≡ Ok t
again s (Ok e) t is = again_at s e (step s e) t refl is
again s (Err fault) t is = absurd cc

-- the journey of the events of a turn and of those after it
first_turn : (n : ℕ) (s : Supervision) (t : Turn) (more : List Turn) → turn_of s (Ok t.event) ≡ Ok t →
    (journey_from itself (suc n) t.after (events more)).turns ≡ more →
    (journey_from itself n s (events (t ∷ more))).turns ≡ t ∷ more
first_turn n s t more is rest =
    ap (λ r. (go_on n r (λ after. journey_from itself (suc n) after (events more))).turns) is ∙ ap (λ ts. t ∷ ts) rest

-- what lines are answered by, by the first one's turn or the refusal of its record, and by whether it is short
abbrev pub after_turn : Supervision → List (List ℕ) → Result Turn EventCause → List LineAnswer
after_turn s lines r = Some r ∷ line_answers (state_after s r) lines

abbrev pub by_length : Supervision → List ℕ → List (List ℕ) → Bool → List LineAnswer
by_length s line lines b = if b then after_turn s lines (turn_of_line s line) else None ∷ line_answers s lines

-- the turns of answers are the journey of their events
abbrev IsJourney : ℕ → Supervision → List LineAnswer → Type 0
IsJourney n s answers = (journey_from itself n s (events (turns_taken answers))).turns ≡ turns_taken answers

module _ (lines : List (List ℕ)) (ih : (n : ℕ) (s : Supervision) → IsJourney n s (line_answers s lines))
    (n : ℕ) (s : Supervision) (line : List ℕ) where
  by_turn : (r : Result Turn EventCause) → turn_of_line s line ≡ r → IsJourney n s (after_turn s lines r)
  by_turn (Ok t) is = first_turn n s t _ (again s _ t is) (ih (suc n) t.after)
  by_turn (Err cause) is = ih n s

  journey_by_length : (b : Bool) → IsJourney n s (by_length s line lines b)
  journey_by_length true = by_turn (turn_of_line s line) refl
  journey_by_length false = ih n s

taken_journey : (n : ℕ) (s : Supervision) (lines : List (List ℕ)) → IsJourney n s (line_answers s lines)
taken_journey n s [] = refl
taken_journey n s (line ∷ lines) =
    journey_by_length lines (λ n s. taken_journey n s lines) n s line (nat_le (length line) longest_line)

-- WHAT `run` SAYS OF ITS ROWS
pub live_rows : LawOfLiveRows
live_rows s bytes o none =
    let turns = live_turns s bytes in
    subst AreTurnsPromised (taken_journey 1 s (lines_of bytes)) (promised_turns itself 1 s (events turns) o none)

-- the whole text, in the words of answers
abbrev AreTold : List (List ℕ) → Type 0
AreTold lines = (s : Supervision) (text : List ℕ) →
    by_lines.answers live_rules (record { supervision = s; text = text }) lines ≡ answers_text (line_answers s lines)

text_by_length : (lines : List (List ℕ)) → AreTold lines → (s : Supervision) (text line : List ℕ) (b : Bool) →
    let after = answered s (turn_of_line s line) in
    (if b then after.text ++ by_lines.answers live_rules after lines
    else too_long_text ++ by_lines.answers live_rules (record { supervision = s; text = text }) lines)
    ≡ answers_text (by_length s line lines b)
text_by_length lines ih s text line true =
    let after = answered s (turn_of_line s line) in
    ap (λ t. after.text ++ t) (ih after.supervision after.text)
text_by_length lines ih s text line false = ap (λ t. too_long_text ++ t) (ih s text)

text_of_answers : (lines : List (List ℕ)) → AreTold lines
unfolding live_rules
text_of_answers [] s text = refl
text_of_answers (line ∷ lines) s text =
    text_by_length lines (λ s text. text_of_answers lines s text) s text line (nat_le (length line) longest_line)

pub live_text : LawOfLiveText
live_text s bytes = due_lines live_rules s bytes ∙ text_of_answers (lines_of bytes) s.supervision s.text
