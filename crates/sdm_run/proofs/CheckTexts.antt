-- The answers of `check`, one after the other: what was answered so far and the answers to the claims that are left are
-- all of them. A map has one meaning, and so has each claim, so any answers that are defined are those that are given.
use Rattle.std.proofs.Common.{◌≡◌, ◌<◌, ◌≤◌, ◌∙◌, ℕ, true, false, nat_lt, List, [], ◌∷◌, ◌++◌}
use Rattle.std.proofs.Common.{Option, Some, None, Ok, Err, length, inl, inr, refl, ap, sym, subst, arith}
use Rattle.std.specs.Bool.{one_answer}
use Rattle.std.proofs.lemmas.Bool.Decides.{nat_tests}
use Rattle.std.proofs.KnownBytes.{Appends-nil}
use Rattle.std.specs.Io.KnownBytes.{Appends}
use Rattle.sdm_io.specs.Told.{AppendsPart}
use Rattle.sdm_rules.specs.declared.faults.EventCause.TheVariants.{Line}
use Rattle.sdm_rules.specs.Slopes.{SlopeMap}
use Rattle.sdm_formats.specs.Flat.{Output}
use Rattle.sdm_formats.specs.Input as ends
use Rattle.sdm_formats.specs.Input.{most_bytes}
use Rattle.sdm_curve.specs.Maps.{MapData}
use Rattle.sdm_certify.specs.declared.answers.Answer.{Answer}
use Rattle.sdm_certify.specs.Checker.{AreAnswers, Checking, IsAnswerTo, IsBegun, IsCheckedFrom, IsLastOf}
use Rattle.sdm_certify.specs.Checker.{IsMadeOf, IsNextAnswer, answer_text, answers_text}
use Rattle.sdm_certify.specs.Lines.{Certified, LinesLeft, Read}
use Rattle.sdm_certify.specs.Lines.{lines_in, map_in, next_claim}
use Rattle.sdm_report.specs.declared.outcome.Outcome.TheVariants.{Done, TooLong, BadEvent, WriteFault}
use Rattle.sdm_certify.proofs.Decided.{made_one}
use Rattle.sdm_run.specs.Answers.{AreWholeLines, IsAnswer}
use Rattle.sdm_run.specs.Checks.{IsCheckOf, IsCheckOutput}
use Rattle.sdm_run.proofs.OutputLeft.{IsLeftOf, cut_off, first_empty, line_some, wrote, wrote_part}

-- ---- one meaning

-- a claim has one answer
pub answer_one : (made : Option SlopeMap) (c : Certified) (a b : Answer) → IsAnswerTo made c a → IsAnswerTo made c b →
    a ≡ b
answer_one made c a b h k =
    let time = h.time ∙ sym k.time in
    let yes = one_answer a.yes b.yes h.yes k.yes in
    λ i. record { time = time i; yes = yes i }

-- ---- the answers that are left

-- of the output out took the answers so far, and those to the claims that are left are the rest of it
pub record IsAnsweredSoFar (old new : Option (List ℕ)) (c : Checking) (output : Output) : Type 0 where
  pub rest : List Answer
  pub are : AreAnswers c.made c.left rest output.end
  pub left : IsLeftOf old new output (record { text = answers_text rest; end = output.end })

-- at first all are left
pub none_answered : (text : List ℕ) (old : Option (List ℕ)) (c : Checking) (output : Output) → IsBegun text c →
    IsCheckOf text output → IsAnsweredSoFar old old c output
none_answered text old c output begun h = from_map (map_in (lines_in text)) h.checked begun.read
  where
    from_map : (r : Read MapData) → IsCheckedFrom r h.answers output.end → r ≡ Ok (begun.written, c.left) →
        IsAnsweredSoFar old old c output
    from_map (Err n) checked read = absurd cc
    from_map (Ok (written, left)) (made, is, are) read =
        let both : (written, left) ≡ (begun.written, c.left) = cc in
        let written_is = ap (λ (x : MapData × LinesLeft). x.0) both in
        let left_is = ap (λ (x : MapData × LinesLeft). x.1) both in
        let made_is = made_one begun.written made c.made (subst (λ (d : MapData). IsMadeOf d made) written_is is)
        begun.made in
        record {
          rest = h.answers;
          are = subst (λ (both : Option SlopeMap × LinesLeft). AreAnswers both.0 both.1 h.answers output.end)
              (λ i. (made_is i, left_is i)) are;
          left = record {
            done = [];
            whole_lines = inl refl;
            taken = Appends-nil old;
            text = h.text_is;
            end = refl;
          };
        }

-- a map of which a line is bad or wanting is told with nothing written
pub map_refused : (text : List ℕ) (old : Option (List ℕ)) (n : ℕ) (output : Output) → map_in (lines_in text) ≡ Err n →
    IsCheckOf text output → IsAnswer output old old (BadEvent n Line)
map_refused text old n output bad h = from_map (map_in (lines_in text)) h.checked bad
  where
    from_map : (r : Read MapData) → IsCheckedFrom r h.answers output.end → r ≡ Err n →
        IsAnswer output old old (BadEvent n Line)
    from_map (Err m) (none, end_is) is =
        let same : m ≡ n = cc in
        let nothing : output.text ≡ [] = h.text_is ∙ ap answers_text none in
        record {
          ended = inl (ap Some (sym (end_is ∙ ap (λ (k : ℕ). ends.BadEvent k Line) same)));
          taken = subst (Appends old old) (sym nothing) (Appends-nil old);
        }
    from_map (Ok read) checked is = absurd cc

module _ (old new : Option (List ℕ)) (c : Checking) (output : Output) (so_far : IsAnsweredSoFar old new c output) where
  -- where no line is left, all answers were written
  pub all_answered : next_claim c.left ≡ None → IsAnswer output old new Done
  all_answered none = of_rest so_far.rest so_far.are so_far.left
    where
      last : (o : Option (Read Certified)) → o ≡ None → IsLastOf o output.end → output.end ≡ ends.Done
      last None e is = is
      last (Some (Err n)) e is = absurd cc
      last (Some (Ok read)) e is = absurd is

      of_rest : (rest : List Answer) → AreAnswers c.made c.left rest output.end →
          IsLeftOf old new output (record { text = answers_text rest; end = output.end }) → IsAnswer output old new Done
      of_rest [] is left =
          cut_off old new new output _ left Done (λ h. h)
          (record { ended = inl (ap Some (sym (last (next_claim c.left) none is))); taken = Appends-nil new })
      of_rest (a ∷ more) (certified, after, read, answer, are) left = absurd (let e = sym none ∙ read in cc)

  -- where a line is bad or wanting, all answers before it were
  pub line_refused : (n : ℕ) → next_claim c.left ≡ Some (Err n) → IsAnswer output old new (BadEvent n Line)
  line_refused n bad = of_rest so_far.rest so_far.are so_far.left
    where
      last : (o : Option (Read Certified)) → o ≡ Some (Err n) → IsLastOf o output.end →
          output.end ≡ ends.BadEvent n Line
      last None e is = absurd cc
      last (Some (Err m)) e is = is ∙ (let same : m ≡ n = cc in ap (λ (k : ℕ). ends.BadEvent k Line) same)
      last (Some (Ok read)) e is = absurd is

      of_rest : (rest : List Answer) → AreAnswers c.made c.left rest output.end →
          IsLeftOf old new output (record { text = answers_text rest; end = output.end }) →
          IsAnswer output old new (BadEvent n Line)
      of_rest [] is left =
          cut_off old new new output _ left (BadEvent n Line) (λ h. h)
          (record { ended = inl (ap Some (sym (last (next_claim c.left) bad is))); taken = Appends-nil new })
      of_rest (a ∷ more) (certified, after, read, answer, are) left = absurd (let e = sym bad ∙ read in cc)

  module _ (next : Checking) (a : Answer) (is_next : IsNextAnswer c next a) where
    -- the answers that are left after one more
    record IsFirstLeft : Type 0 where
      pub more : List Answer
      pub are : AreAnswers next.made next.left more output.end
      pub left : IsLeftOf old new output (record { text = answer_text a ++ answers_text more; end = output.end })

    -- the answer that was found is the first of those that are left
    first_left : IsFirstLeft
    first_left = of_rest so_far.rest so_far.are so_far.left
      where
        no_last : (o : Option (Read Certified)) → o ≡ Some (Ok (is_next.certified, next.left)) →
            IsLastOf o output.end → ⊥
        no_last None e is = cc
        no_last (Some (Err m)) e is = cc
        no_last (Some (Ok read)) e is = is

        of_rest : (rest : List Answer) → AreAnswers c.made c.left rest output.end →
            IsLeftOf old new output (record { text = answers_text rest; end = output.end }) → IsFirstLeft
        of_rest [] is left = absurd (no_last (next_claim c.left) is_next.read is)
        of_rest (b ∷ more) (certified, after, read, answer, are) left =
            let e = sym is_next.read ∙ read in
            let both : (is_next.certified, next.left) ≡ (certified, after) = cc in
            let certified_is = sym (ap (λ (x : Certified × LinesLeft). x.0) both) in
            let after_is = sym (ap (λ (x : Certified × LinesLeft). x.1) both) in
            let same = answer_one c.made is_next.certified b a
            (subst (λ (x : Certified). IsAnswerTo c.made x b) certified_is answer) is_next.answer in
            record {
              more = more;
              are = subst (λ (both : Option SlopeMap × LinesLeft). AreAnswers both.0 both.1 more output.end)
                  (λ i. (sym is_next.made i, after_is i)) are;
              left = subst (λ (x : Answer). IsLeftOf old new output
                  (record { text = answer_text x ++ answers_text more; end = output.end })) same left;
            }

    -- the line of an answer is whole
    is_line : AreWholeLines (answer_text a)
    unfolding answer_text
    is_line = inr (_, refl)

    -- so the output has a text
    pub answer_some : output.text ≡ [] → ⊥
    unfolding answer_text
    answer_some none = line_some _ (first_empty old new output _ first_left.left (answer_text a)
        (record { text = answers_text first_left.more; end = output.end }) refl none)

    -- it is written
    pub answer_written : (after : Option (List ℕ)) → Appends new after (answer_text a) →
        IsAnsweredSoFar old after next output
    answer_written after h = record {
      rest = first_left.more;
      are = first_left.are;
      left = wrote old new after output _ first_left.left (answer_text a)
          (record { text = answers_text first_left.more; end = output.end }) refl is_line h;
    }

    -- a part of it is written
    pub answer_cut : (after : Option (List ℕ)) → AppendsPart new after (answer_text a) →
        IsAnswer output old after WriteFault
    answer_cut after h =
        wrote_part old new after output _ first_left.left (answer_text a)
        (record { text = answers_text first_left.more; end = output.end }) refl h

-- ---- the limit

-- within it the output is that of the text
pub check_short : (bytes : List ℕ) (output : Output) → length bytes ≤ most_bytes → IsCheckOutput bytes output →
    IsCheckOf bytes output
check_short bytes output short h =
    let no : nat_lt most_bytes (length bytes) ≡ false = grind (arith, nat_tests) in rw no at h

-- above it the output is empty, and ends as too long
pub check_too_long : (bytes : List ℕ) (old : Option (List ℕ)) → most_bytes < length bytes → (output : Output) →
    IsCheckOutput bytes output → IsAnswer output old old TooLong
check_too_long bytes old long output h =
    let yes : nat_lt most_bytes (length bytes) ≡ true = grind (arith, nat_tests) in
    let is = rw yes at h in
    rw is (record { ended = inl refl; taken = Appends-nil old })
