-- The state of a checker of a certificate text, and its answers (own).
use Rattle.std.specs.Prelude.{◌≡◌, ◌↔◌, ℕ, List, [], ◌∷◌, ◌++◌, Option, Some, None, Ok, Err, IsTrue, codes, decimal}
use Rattle.std.specs.Prelude.{if◌then◌else◌}
use Rattle.sdm_rules.specs.declared.certificates.Claim.{Claim}
use Rattle.sdm_rules.specs.declared.faults.EventCause.TheVariants.{Line}
use Rattle.sdm_rules.specs.Slopes.{SlopeMap, meaning_of}
use Rattle.sdm_rules.specs.Certificates.{Hold, start_of}
use Rattle.sdm_rules.specs.Stop.{StopsBy}
use Rattle.sdm_formats.specs.Input.{End, Done, BadEvent}
use Rattle.sdm_formats.specs.Text.{text_line}
use Rattle.sdm_curve.specs.Maps.{MapData, AreAccepted, handed_in}
use Rattle.sdm_certify.specs.declared.answers.Answer.{Answer}
use Rattle.sdm_certify.specs.declared.answers.CheckFault.{CheckFault}
use Rattle.sdm_certify.specs.declared.answers.CheckFault.TheVariants as faults
use Rattle.sdm_certify.specs.Lines.{LinesLeft, Read, Certified, lines_in, map_in, next_claim}

-- what a checker holds: the map, if its slopes are accepted, and the lines that are left
pub record Checking : Type 0 where
  pub made : Option SlopeMap
  pub left : LinesLeft

-- the map is made of what is written; there is none where its slopes are too weak or too varied
abbrev pub IsMadeOf : MapData → Option SlopeMap → Type 0
IsMadeOf written (Some m) = (handed_in m ≡ written) × AreAccepted written
IsMadeOf written None = AreAccepted written → ⊥

-- the checker of a text, once it has read the map
pub record IsBegun (text : List ℕ) (c : Checking) : Type 0 where
  pub written : MapData
  pub read : map_in (lines_in text) ≡ Ok (written, c.left)
  pub made : IsMadeOf written c.made

-- why there is no checker: this is the first line of the map that is missing or hasn't the right form; or memory is
-- refused
abbrev pub IsBeginFault : List ℕ → CheckFault → Type 0
IsBeginFault text (faults.Line bad) = map_in (lines_in text) ≡ Err bad.number
IsBeginFault text faults.Memory = Unit {0}

-- the slopes are accepted, and the marks hold on them for the claim
abbrev pub IsShown : Option SlopeMap → Certified → Type 0
IsShown None c = ⊥
IsShown (Some m) c = Hold (meaning_of m) c.claim c.marks

-- the slopes are accepted, and every motion from the claim stops at or before its place
abbrev pub IsStopOn : Option SlopeMap → Claim → Type 0
IsStopOn None claim = ⊥
IsStopOn (Some m) claim = StopsBy (meaning_of m) (start_of claim) claim.svl

-- the answer to a claim: yes exactly where it is shown
pub record IsAnswerTo (made : Option SlopeMap) (c : Certified) (a : Answer) : Type 0 where
  pub time : a.time ≡ c.claim.time
  pub yes : IsTrue a.yes ↔ IsShown made c

-- the next claim is read and answered, and where the answer is yes every motion from it stops
pub record IsNextAnswer (old new : Checking) (a : Answer) : Type 0 where
  pub certified : Certified
  pub read : next_claim old.left ≡ Some (Ok (certified, new.left))
  pub made : new.made ≡ old.made
  pub answer : IsAnswerTo old.made certified a
  pub stops : IsTrue a.yes → IsStopOn old.made certified.claim

-- ---- the output of `check`

-- the text of an answer
unfoldable pub answer_text : Answer → List ℕ
answer_text a = text_line (decimal a.time ∷ (if a.yes then codes "yes" else codes "no") ∷ [])

-- the texts of answers, one after the other
abbrev pub answers_text : List Answer → List ℕ
answers_text [] = []
answers_text (a ∷ more) = answer_text a ++ answers_text more

-- how a text ends where no further claim was answered
abbrev pub IsLastOf : Option (Read Certified) → End → Type 0
IsLastOf None end = end ≡ Done
IsLastOf (Some (Err number)) end = end ≡ BadEvent number Line
IsLastOf (Some (Ok read)) end = ⊥

-- these are the answers to the claims from the lines on, and this is how the text ends
abbrev pub AreAnswers : Option SlopeMap → LinesLeft → List Answer → End → Type 0
AreAnswers made at [] end = IsLastOf (next_claim at) end
AreAnswers made at (a ∷ more) end = (c : Certified) × (after : LinesLeft) ×
    (next_claim at ≡ Some (Ok (c, after))) × IsAnswerTo made c a × AreAnswers made after more end

-- these are the answers for a text whose map was read, or not
abbrev pub IsCheckedFrom : Read MapData → List Answer → End → Type 0
IsCheckedFrom (Err number) answers end = (answers ≡ []) × (end ≡ BadEvent number Line)
IsCheckedFrom (Ok (written, left)) answers end =
    (made : Option SlopeMap) × IsMadeOf written made × AreAnswers made left answers end

-- `check`: the answers for the bytes of a text, and how the text ends
abbrev pub IsChecked : List ℕ → List Answer → End → Type 0
IsChecked text answers end = IsCheckedFrom (map_in (lines_in text)) answers end
