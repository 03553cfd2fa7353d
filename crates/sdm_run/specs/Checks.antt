-- The command `check`: the answers that it defines for the text of a certificate, and what a yes among them says (own).
use Rattle.std.specs.Prelude.{◌≡◌, ℕ, List, [], ◌∷◌, Option, Some, Ok, Err, IsTrue, MatchBool, nat_lt, length, ⊤}
use Rattle.sdm_formats.specs.Flat.{Output}
use Rattle.sdm_formats.specs.Input as ends
use Rattle.sdm_formats.specs.Input.{most_bytes}
use Rattle.sdm_certify.specs.declared.answers.Answer.{Answer}
use Rattle.sdm_certify.specs.Checker.{IsChecked, IsMadeOf, IsStopOn, answers_text}
use Rattle.sdm_certify.specs.Lines.{Certified, LinesLeft, Read, lines_in, map_in, next_claim}
use Rattle.sdm_curve.specs.Maps.{MapData}
use Rattle.sdm_rules.specs.Slopes.{SlopeMap}
use Rattle.sdm_run.specs.Drives.{no_text}

-- an output of answers to the claims of a text, up to its end or to the first line that is bad or missing
pub record IsCheckOf (text : List ℕ) (output : Output) : Type 0 where
  pub answers : List Answer
  pub checked : IsChecked text answers output.end
  pub text_is : output.text ≡ answers_text answers

-- what `check` defines for the bytes of an input
abbrev pub IsCheckOutput : List ℕ → Output → Type 0
IsCheckOutput bytes output =
    MatchBool (nat_lt most_bytes (length bytes)) (output ≡ no_text ends.TooLong) (IsCheckOf bytes output)

-- the answers are those to the claims from the lines on, one by one, and where one is yes every motion from its claim
-- stops at or before the claim's place
abbrev pub AreYesesSafe : Option SlopeMap → LinesLeft → List Answer → Type 0
AreYesesSafe made at [] = ⊤
AreYesesSafe made at (a ∷ more) = (c : Certified) × (after : LinesLeft) ×
    (next_claim at ≡ Some (Ok (c, after))) × (IsTrue a.yes → IsStopOn made c.claim) × AreYesesSafe made after more

-- this holds on the map of the text; without one there is no answer
abbrev pub AreAnswersSafe : Read MapData → List Answer → Type 0
AreAnswersSafe (Err number) answers = answers ≡ []
AreAnswersSafe (Ok (written, left)) answers =
    (made : Option SlopeMap) × IsMadeOf written made × AreYesesSafe made left answers

-- A YES STOPS: this holds for the answers of an output, whichever they are
abbrev pub AreCheckAnswersSafe : List ℕ → Type 0
AreCheckAnswersSafe bytes =
    (output : Output) (check : IsCheckOf bytes output) → AreAnswersSafe (map_in (lines_in bytes)) check.answers
