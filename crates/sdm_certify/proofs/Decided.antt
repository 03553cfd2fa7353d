-- Every text of a certificate has its answers: the map is made or refused, each claim is shown or not, and each claim
-- takes a line at least of those that are left.
use Rattle.std.proofs.Common.{◌≡◌, ℕ, zero, suc, false, List, [], ◌∷◌, Option, Some, None, Ok, Err, ◌<◌, ◌≤◌, length}
use Rattle.std.proofs.Common.{refl, sym, subst, arith}
use Rattle.std.proofs.lemmas.Bool.{false≢true}
use Rattle.sdm_rules.specs.declared.faults.EventCause.TheVariants.{Line}
use Rattle.sdm_rules.specs.Slopes.{SlopeMap, meaning_of}
use Rattle.sdm_formats.specs.Input.{End, Done, BadEvent}
use Rattle.sdm_curve.specs.Maps.{MapData}
use Rattle.sdm_certify.specs.declared.answers.Answer.{Answer}
use Rattle.sdm_certify.specs.Checker.{AreAnswers, IsAnswerTo, IsChecked, IsCheckedFrom, IsLastOf, IsMadeOf}
use Rattle.sdm_certify.specs.Lines.{Certified, LinesLeft, Read, lines_in, map_in, next_claim}
use Rattle.sdm_certify.proofs.DecidedMarks.{hold_decided}
use Rattle.sdm_certify.proofs.DecidedSlopes.{made_decided}
pub use Rattle.sdm_certify.proofs.DecidedSlopes.{made_one}
use Rattle.sdm_certify.proofs.LinesTaken.{claim_reads}
use Rattle.sdm_certify.proofs.ReadSegments.{map_data_read}

-- each claim has an answer
answered : (made : Option SlopeMap) (c : Certified) → (a : Answer) × IsAnswerTo made c a
answered None c = (
  record { time = c.claim.time; yes = false },
  record { time = refl; yes = ((λ t. false≢true t), (λ shown. absurd shown)) },
)
answered (Some m) c =
    let hold = hold_decided (meaning_of m) c.claim c.marks in
    (record { time = c.claim.time; yes = hold.0 }, record { time = refl; yes = hold.1 })

module _ (made : Option SlopeMap) where
  -- there are answers to the claims from the lines on
  abbrev HaveAnswers : LinesLeft → Type 0
  HaveAnswers at = (answers : List Answer) × ((end : End) × AreAnswers made at answers end)

  -- there are, where there are for the lines after the next claim
  with_next : (at : LinesLeft) (o : Option (Read Certified)) → next_claim at ≡ o →
      ((after : LinesLeft) → length after.lines < length at.lines → HaveAnswers after) → HaveAnswers at
  with_next at None is more = ([], (Done, subst (λ (o : Option (Read Certified)). IsLastOf o Done) (sym is) refl))
  with_next at (Some (Err n)) is more =
      ([], (BadEvent n Line, subst (λ (o : Option (Read Certified)). IsLastOf o (BadEvent n Line)) (sym is) refl))
  with_next at (Some (Ok (c, after))) is more =
      let answer = answered made c in
      let rest = more after (claim_reads at after c is).1 in
      (answer.0 ∷ rest.0, (rest.1.0, (c, after, is, answer.1, rest.1.1)))

  -- so there are for lines that are no more than `n`
  answers_of : (n : ℕ) (at : LinesLeft) → length at.lines ≤ n → HaveAnswers at
  answers_of zero at few = with_next at (next_claim at) refl (λ after lt. absurd (omega (arith, lt, few)))
  answers_of (suc n) at few =
      with_next at (next_claim at) refl (λ after lt. answers_of n after (omega (arith, lt, few)))

-- a text has answers, and an end
pub checked : (text : List ℕ) → (answers : List Answer) × ((end : End) × IsChecked text answers end)
checked text = of_map (map_in (lines_in text)) refl
  where
    of_map : (r : Read MapData) → map_in (lines_in text) ≡ r →
        (answers : List Answer) × ((end : End) × IsCheckedFrom r answers end)
    of_map (Err n) is = ([], (BadEvent n Line, (refl, refl)))
    of_map (Ok (written, left)) is =
        let made = made_decided written (map_data_read (lines_in text) left written is) in
        let rest = answers_of made.0 (length left.lines) left (omega arith) in
        (rest.0, (rest.1.0, (made.0, made.1, rest.1.1)))
