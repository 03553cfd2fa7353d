-- A certificate text has one output of `check`: there are answers, since whether marks hold is decided, and they are
-- the only ones, since each claim has one answer.
use Rattle.std.proofs.Common.{◌≡◌, ◌∙◌, ℕ, nat_lt, List, [], ◌∷◌, Option, Some, None, Ok, Err, length, refl, ap}
use Rattle.std.proofs.Common.{sym, subst}
use Rattle.sdm_rules.specs.Slopes.{SlopeMap}
use Rattle.sdm_formats.specs.Input as ends
use Rattle.sdm_formats.specs.Input.{End, most_bytes}
use Rattle.sdm_curve.specs.Maps.{MapData}
use Rattle.sdm_certify.specs.declared.answers.Answer.{Answer}
use Rattle.sdm_certify.specs.Checker.{AreAnswers, IsAnswerTo, IsCheckedFrom, IsLastOf, answers_text}
use Rattle.sdm_certify.specs.Lines.{Certified, LinesLeft, Read, lines_in, map_in, next_claim}
use Rattle.sdm_certify.proofs.Decided.{checked, made_one}
use Rattle.sdm_run.specs.Checks.{IsCheckOf, IsCheckOutput}
use Rattle.sdm_run.specs.Drives.{no_text}
use Rattle.sdm_run.proofs.CheckTexts.{answer_one}
use Rattle.sdm_run.proofs.OneOutput.{Single, in_case, named}

-- the end is one
last_one : (o : Option (Read Certified)) (e f : End) → IsLastOf o e → IsLastOf o f → e ≡ f
last_one None e f h k = h ∙ sym k
last_one (Some (Err n)) e f h k = h ∙ sym k
last_one (Some (Ok read)) e f h k = absurd h

-- where a claim is left, the text doesn't end
not_last : (o : Option (Read Certified)) (read : Certified × LinesLeft) (e : End) → o ≡ Some (Ok read) →
    IsLastOf o e → ⊥
not_last None read e is h = cc
not_last (Some (Err n)) read e is h = cc
not_last (Some (Ok other)) read e is h = h

-- the answers from the lines on are one list, with one end
answers_one : (made : Option SlopeMap) (at : LinesLeft) (xs ys : List Answer) (e f : End) → AreAnswers made at xs e →
    AreAnswers made at ys f → (xs ≡ ys) × (e ≡ f)
answers_one made at [] [] e f h k = (refl, last_one (next_claim at) e f h k)
answers_one made at [] (y ∷ ys) e f h (c, after, read, answer, more) =
    absurd (not_last (next_claim at) (c, after) e read h)
answers_one made at (x ∷ xs) [] e f (c, after, read, answer, more) k =
    absurd (not_last (next_claim at) (c, after) f read k)
answers_one made at (x ∷ xs) (y ∷ ys) e f (c, after, read, answer, more) (c', after', read', answer', more') =
    let both : (c', after') ≡ (c, after) = (let same = sym read' ∙ read in cc) in
    let first = answer_one made c x y answer (subst (λ (z : Certified). IsAnswerTo made z y)
    (ap (λ (z : Certified × LinesLeft). z.0) both) answer') in
    let rest = answers_one made after xs ys e f more (subst (λ (z : LinesLeft). AreAnswers made z ys f)
    (ap (λ (z : Certified × LinesLeft). z.1) both) more') in
    ((λ k. first k ∷ rest.0 k), rest.1)

-- those of a text whose map was read, or not
checked_one : (r : Read MapData) (xs ys : List Answer) (e f : End) → IsCheckedFrom r xs e → IsCheckedFrom r ys f →
    (xs ≡ ys) × (e ≡ f)
checked_one (Err n) xs ys e f h k = (h.0 ∙ sym k.0, h.1 ∙ sym k.1)
checked_one (Ok (written, left)) xs ys e f (made, is, more) (made', is', more') =
    answers_one made left xs ys e f more (subst (λ (m : Option SlopeMap). AreAnswers m left ys f)
    (made_one written made' made is' is) more')

-- an output of answers
of_answers : (text : List ℕ) → Single (IsCheckOf text)
of_answers text =
    let (answers, (end, is)) = checked text in (
      record { text = answers_text answers; end = end },
      (
        record { answers = answers; checked = is; text_is = refl },
        λ other h.
            let same = checked_one (map_in (lines_in text)) h.answers answers other.end end h.checked is in
            λ k. record { text = (h.text_is ∙ ap answers_text same.0) k; end = same.1 k },
      ),
    )

-- all bytes have one output
pub one_check : (bytes : List ℕ) → Single (IsCheckOutput bytes)
one_check bytes =
    in_case _ _ (nat_lt most_bytes (length bytes)) (named (no_text ends.TooLong)) (of_answers bytes)
