-- What `certify` promises of its text: `check` answers yes to each of its claims, and each stops the train on the
-- slopes of the data.
use Rattle.std.proofs.Common.{◌≡◌, ◌∙◌, ℕ, List, [], ◌∷◌, Option, Some, None, Ok, sym, subst, ap}
use Rattle.std.specs.Prelude.{IsTrue}
use Rattle.sdm_rules.specs.declared.data.SlopeKind.TheVariants.{Safe}
use Rattle.sdm_rules.specs.Certificates.{Hold}
use Rattle.sdm_rules.specs.Data.{TrainAndTrack}
use Rattle.sdm_rules.specs.Decelerations.{slopes_of}
use Rattle.sdm_rules.specs.Slopes.{Slopes, SlopeMap, meaning_of}
use Rattle.sdm_formats.specs.Flat.{Output}
use Rattle.sdm_formats.specs.Input.{Done, End}
use Rattle.sdm_certify.specs.declared.answers.Answer.{Answer}
use Rattle.sdm_certify.specs.Checker.{AreAnswers, IsAnswerTo, IsChecked, IsCheckedFrom, IsLastOf}
use Rattle.sdm_certify.specs.Lines.{Certified, LinesLeft, Read}
use Rattle.sdm_certify.specs.ReadBack.{AreHeld, IsHeldText}
use Rattle.sdm_certify.proofs.DecidedSlopes.{made_one}
use Rattle.sdm_curve.specs.Maps.{MapData}
use Rattle.sdm_data.specs.Division.{divide}
use Rattle.sdm_run.specs.Certifying.{AreCertificatesHeld, IsCertifyOutput, certified_by, certified_turns, data_before}

-- the data that there are, or others
abbrev data_or : TrainAndTrack → Option TrainAndTrack → TrainAndTrack
data_or other None = other
data_or other (Some d) = d

-- each answer is yes, and there is one for each claim
abbrev AreYes : List Certified → List Answer → Type 0
AreYes [] [] = Unit {0}
AreYes [] (a ∷ answers) = ⊥
AreYes (c ∷ certified) [] = ⊥
AreYes (c ∷ certified) (a ∷ answers) = (a.time ≡ c.claim.time) × IsTrue a.yes × AreYes certified answers

-- the answers to the claims from the lines on
from_lines : (made : SlopeMap) (at : LinesLeft) (certified : List Certified) (answers : List Answer) (end : End) →
    AreHeld made at certified → AreAnswers (Some made) at answers end → AreYes certified answers × (end ≡ Done)
from_lines made at [] [] end none last = (tt, subst (λ (o : Option (Read Certified)). IsLastOf o end) none last)
from_lines made at [] (a ∷ answers) end none (c, after, read, answer, more) =
    absurd (let same = sym none ∙ read in cc)
from_lines made at (c ∷ certified) [] end (after, read, hold, rest) last =
    absurd (subst (λ (o : Option (Read Certified)). IsLastOf o end) read last)
from_lines made at (c ∷ certified) (a ∷ answers) end (after, read, hold, rest) (c', after', read', answer, more) =
    let both : (c', after') ≡ (c, after) = (let same = sym read' ∙ read in cc) in
    let this = subst (λ (x : Certified). IsAnswerTo (Some made) x a) (ap (λ (x : Certified × LinesLeft). x.0) both)
    answer in
    let others = from_lines made after certified answers end rest (subst (λ (at : LinesLeft).
    AreAnswers (Some made) at answers end) (ap (λ (x : Certified × LinesLeft). x.1) both) more) in
    ((this.time, this.yes.1 hold, others.0), others.1)

-- the answers to a text that holds
of_held : (on : Slopes) (text : List ℕ) (certified : List Certified) (answers : List Answer) (end : End) →
    IsHeldText on text certified → IsChecked text answers end → AreYes certified answers × (end ≡ Done)
of_held on text certified answers end h checked =
    of_map (subst (λ (r : Read MapData). IsCheckedFrom r answers end) h.read checked)
  where
    of_map : IsCheckedFrom (Ok (h.written, h.left)) answers end → AreYes certified answers × (end ≡ Done)
    of_map (made, is_made, are) = from_lines h.made h.left certified answers end h.held
        (subst (λ (m : Option SlopeMap). AreAnswers m h.left answers end)
        (made_one h.written made (Some h.made) is_made h.is_made) are)

-- from the promise follow the answers: a yes to each claim, and the end of the text
all_yes : (count : ℕ) (bytes : List ℕ) → AreCertificatesHeld count bytes →
    (output : Output) (is : IsCertifyOutput count bytes output) (answers : List Answer) (end : End) →
    IsChecked output.text answers end → AreYes (certified_by (certified_turns count is.turns)) answers × (end ≡ Done)
all_yes count bytes h output is answers end checked =
    of_held (slopes_of Safe h.read) output.text (certified_by (certified_turns count is.turns)) answers end
    (h.held output is) checked

-- the marks of the first claim hold on the slopes of the data that the input has
first_holds : (count : ℕ) (bytes : List ℕ) → AreCertificatesHeld count bytes →
    (d : TrainAndTrack) → data_before bytes (divide bytes) ≡ Some d → (output : Output)
    (is : IsCertifyOutput count bytes output) (c : Certified) (more : List Certified) →
    certified_by (certified_turns count is.turns) ≡ c ∷ more → Hold (slopes_of Safe d) c.claim c.marks
first_holds count bytes h d there_are output is c more first =
    subst (λ (d : TrainAndTrack). Hold (slopes_of Safe d) c.claim c.marks) same
    (of_text (subst (IsHeldText (slopes_of Safe h.read) output.text) first (h.held output is)))
  where
    same : h.read ≡ d
    same = ap (λ (o : Option TrainAndTrack). data_or d o) (sym h.is_read ∙ there_are)

    of_text : IsHeldText (slopes_of Safe h.read) output.text (c ∷ more) → Hold (slopes_of Safe h.read) c.claim c.marks
    of_text text = of_first text.made text.left text.slopes text.held
      where
        of_first : (made : SlopeMap) (left : LinesLeft) → meaning_of made ≡ slopes_of Safe h.read →
            AreHeld made left (c ∷ more) → Hold (slopes_of Safe h.read) c.claim c.marks
        of_first made left same (after, read, hold, rest) = subst (λ (on : Slopes). Hold on c.claim c.marks) same hold
