-- What a yes of `check` says: that the train of the claim stops at or before the claim's place. The claims are of
-- a train that stands, with an SvL at 10 m.
use Rattle.std.proofs.Common.{◌≡◌, ◌∙◌, ℕ, pos, true, [], ◌∷◌, refl, arith, List, subst, sym}
use Rattle.std.proofs.lemmas.Int.{ints}
use Rattle.std.specs.Prelude.{IsTrue, None, Ok, Option, Some}
use Rattle.sdm_rules.specs.declared.certificates.Claim.{Claim}
use Rattle.sdm_rules.specs.declared.certificates.Mark.{Mark}
use Rattle.sdm_rules.specs.Certificates.{LawOfMarks, start_of}
use Rattle.sdm_rules.specs.Slopes.{IsUsable, SlopeMap, meaning_of}
use Rattle.sdm_rules.specs.Stop.{StopsBy}
use Rattle.sdm_certify.specs.declared.answers.Answer.{Answer}
use Rattle.sdm_certify.specs.Checker.{IsAnswerTo, IsMadeOf, IsStopOn}
use Rattle.sdm_certify.specs.Lines.{Certified, LinesLeft, Read, lines_in, map_in, next_claim}
use Rattle.sdm_curve.specs.Maps.{MapData}
use Rattle.sdm_formats.specs.Flat.{Output}
use Rattle.sdm_run.specs.Checks.{AreAnswersSafe, AreYesesSafe, IsCheckOf}
use Rattle.sdm_run.specs.Commands.{AreRowsSafe}
use Rattle.sdm_run.specs.declared.words.Command.TheVariants.{Check}
use Rattle.sdm_command_cases.proofs.StandingTrain.{no_stop_before}

-- from a yes follows the stop by the law of marks, of every claim on slopes that are usable
yes_stops : LawOfMarks → (m : SlopeMap) (c : Certified) (a : Answer) → IsUsable (meaning_of m) →
    IsAnswerTo (Some m) c a → IsTrue a.yes → StopsBy (meaning_of m) (start_of c.claim) c.claim.svl
yes_stops law m c a usable h said = law (meaning_of m) c.claim c.marks usable (h.yes.0 said)

-- 1 m/s² everywhere
abbrev one_slope : SlopeMap
one_slope = record { q = 100; uppers = []; starts = pos 0 ∷ []; slopes = 200_000_000_000 ∷ [] }

-- the train stands a grain past its SvL
abbrev a_grain_past : Claim
a_grain_past = record {
  time = 7;
  front = pos 5_400_000_000_001;
  speed = 0;
  accel1 = 0;
  accel2 = 0;
  traction = 0;
  berem = 0;
  svl = pos 5_400_000_000_000;
}

-- so where its claim is the next one there is no yes, whatever the marks
no_yes_past_it : (marks : List Mark) (at after : LinesLeft) (more : List Answer) →
    next_claim at ≡ Some (Ok (record { claim = a_grain_past; marks = marks }, after)) →
    AreYesesSafe (Some one_slope) at (record { time = 7; yes = true } ∷ more) → ⊥
no_yes_past_it marks at after more next (c, after', read, stops, rest) =
    let both : (c, after') ≡ (record { claim = a_grain_past; marks = marks }, after) =
    (let same = sym read ∙ next in cc) in
    no_stop_before (meaning_of one_slope) (pos 5_400_000_000_001) (pos 5_400_000_000_000)
    (omega (arith, ints))
    (subst (λ (x : Certified × LinesLeft). IsStopOn (Some one_slope) x.0.claim) both (stops refl))

-- nor is there one on slopes that aren't accepted
no_yes_without_slopes : (c : Certified) → IsAnswerTo None c (record { time = 7; yes = true }) → ⊥
no_yes_without_slopes c h = h.yes.0 refl

-- ---- from what the top call says of `check`

-- a claim of the text from the lines on whose every motion stops, on the map that was written
pub record HasStoppingClaim (written : MapData) (left : LinesLeft) : Type 0 where
  pub made : Option SlopeMap
  pub is_made : IsMadeOf written made
  pub certified : Certified
  pub after : LinesLeft
  pub read : next_claim left ≡ Some (Ok (certified, after))
  pub stops : IsStopOn made certified.claim

first_of : (written : MapData) (left : LinesLeft) (a : Answer) (more : List Answer) →
    AreAnswersSafe (Ok (written, left)) (a ∷ more) → IsTrue a.yes → HasStoppingClaim written left
first_of written left a more (made, is_made, (c, after, read, stops, rest)) said = record {
  made = made;
  is_made = is_made;
  certified = c;
  after = after;
  read = read;
  stops = stops said;
}

-- where the first answer of an output is yes, the first claim of its text has the stop
first_yes_stops : (bytes : List ℕ) (output : Output) (check : IsCheckOf bytes output) (written : MapData)
    (left : LinesLeft) (a : Answer) (more : List Answer) → map_in (lines_in bytes) ≡ Ok (written, left) →
    check.answers ≡ a ∷ more → IsTrue a.yes → AreRowsSafe Check bytes → HasStoppingClaim written left
first_yes_stops bytes output check written left a more map_is is said safe =
    let answered = subst (λ (answers : List Answer). AreAnswersSafe (map_in (lines_in bytes)) answers) is
    (safe output check) in
    first_of written left a more (subst (λ (x : Read MapData). AreAnswersSafe x (a ∷ more)) map_is answered) said
