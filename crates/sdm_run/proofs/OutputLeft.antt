-- An output that is written piece by piece: what was written and the output that is left are the whole output.
use Rattle.std.proofs.Common.{◌≡◌, ℕ, ◌+◌, List, [], ◌∷◌, ◌++◌, length, take, Option, inl, inr, refl, ap, ◌∙◌, sym}
use Rattle.std.proofs.Common.{subst, append_assoc, length-append, arith}
use Rattle.std.proofs.Math.Seq.{take-append-add}
use Rattle.std.proofs.lemmas.List.{append-nil, take-append-le}
use Rattle.std.specs.Io.KnownBytes.{Appends}
use Rattle.std.proofs.KnownBytes.{Appends-nil, Appends-trans}
use Rattle.sdm_formats.specs.Flat.{Output}
use Rattle.sdm_io.specs.Told.{AppendsPart}
use Rattle.sdm_report.specs.declared.outcome.Outcome.{Outcome}
use Rattle.sdm_report.specs.declared.outcome.Outcome.TheVariants.{Done, Usage, ReadFault, WriteFault, TooLong, BadData}
use Rattle.sdm_report.specs.declared.outcome.Outcome.TheVariants.{Refused, BadEvent, Memory, Undrivable}
use Rattle.sdm_run.specs.Answers.{AreWholeLines, ComesOfReadingAlone, IsAnswer, IsOutcomeOf, TakesFor}

-- the output that begins with a text, and goes on as another output
abbrev pub text_and : List ℕ → Output → Output
text_and text next = record { text = text ++ next.text; end = next.end }

-- what is left of the whole output, where out took whole lines before it
pub record IsLeftOf (old new : Option (List ℕ)) (whole left : Output) : Type 0 where
  pub done : List ℕ
  pub whole_lines : AreWholeLines done
  pub taken : Appends old new done
  pub text : whole.text ≡ done ++ left.text
  pub end : whole.end ≡ left.end

-- of an empty text both parts are empty
pub empty_left : (a b : List ℕ) → a ++ b ≡ [] → a ≡ []
empty_left [] b e = refl
empty_left (x ∷ a) b e = absurd cc

pub empty_right : (a b : List ℕ) → a ++ b ≡ [] → b ≡ []
empty_right [] b e = e
empty_right (x ∷ a) b e = absurd cc

-- no line is empty
pub line_some : (fields : List ℕ) → fields ++ 10 ∷ [] ≡ [] → ⊥
line_some [] e = cc
line_some (x ∷ fields) e = cc

-- at first all is left
pub all_left : (old : Option (List ℕ)) (whole : Output) → IsLeftOf old old whole whole
all_left old whole = record { done = []; whole_lines = inl refl; taken = Appends-nil old; text = refl; end = refl }

-- where the whole text is empty, so is what is left
pub left_empty : (old new : Option (List ℕ)) (whole left : Output) → IsLeftOf old new whole left → whole.text ≡ [] →
    left.text ≡ []
left_empty old new whole left so_far none = empty_right so_far.done left.text (sym so_far.text ∙ none)

-- and so is the text that it begins with
pub first_empty : (old new : Option (List ℕ)) (whole left : Output) → IsLeftOf old new whole left →
    (text : List ℕ) (next : Output) → left ≡ text_and text next → whole.text ≡ [] → text ≡ []
first_empty old new whole left so_far text next first none =
    empty_left text next.text
    (sym (ap (λ (o : Output). o.text) first) ∙ left_empty old new whole left so_far none)

-- whole lines after whole lines are whole lines
pub lines_both : (a b : List ℕ) → AreWholeLines a → AreWholeLines b → AreWholeLines (a ++ b)
lines_both a b h (inl none) = rw (none, append-nil) h
lines_both a b h (inr (prefix, is)) = inr (a ++ prefix, rw is (sym (append_assoc a prefix (10 ∷ []))))

module _ (old mid new : Option (List ℕ)) (whole left : Output) (so_far : IsLeftOf old mid whole left) where
  -- what is taken from here on is taken after what was written
  after_done : (text : List ℕ) → Appends mid new text → Appends old new (so_far.done ++ text)
  after_done text h = Appends-trans old mid new so_far.done text so_far.taken h

  -- where all that is left is taken, the whole text is
  all_taken : Appends mid new left.text → Appends old new whole.text
  all_taken h = subst (Appends old new) (sym so_far.text) (after_done left.text h)

  -- what an outcome takes of what is left, it takes of the whole
  takes : (outcome : Outcome) → (ComesOfReadingAlone outcome → ⊥) →
      TakesFor outcome mid new left.text → TakesFor outcome old new whole.text
  takes Done never h = all_taken h
  takes Usage never h = absurd (never tt)
  takes ReadFault never h = absurd (never tt)
  takes WriteFault never h =
      let at = length so_far.done + h.0 in
      let part : take at whole.text ≡ so_far.done ++ take h.0 left.text =
      ap (take at) so_far.text ∙ take-append-add so_far.done left.text h.0 in (
        at,
        rw (so_far.text, length-append) (omega (arith, h.1)),
        subst (Appends old new) (sym part) (after_done (take h.0 left.text) h.2),
      )
  takes TooLong never h = absurd (never tt)
  takes (BadData fault) never h = all_taken h
  takes (Refused fault) never h = all_taken h
  takes (BadEvent number cause) never h = all_taken h
  takes (Undrivable cause) never h = all_taken h
  takes Memory never h = record {
    prefix = so_far.done ++ h.prefix;
    rest = h.rest;
    parts = so_far.text ∙ ap (λ text. so_far.done ++ text) h.parts ∙ sym (append_assoc so_far.done h.prefix h.rest);
    whole_lines = lines_both so_far.done h.prefix so_far.whole_lines h.whole_lines;
    taken = after_done h.prefix h.taken;
  }

  -- it ends with an outcome of what is left
  pub cut_off : (outcome : Outcome) → (ComesOfReadingAlone outcome → ⊥) → IsAnswer left mid new outcome →
      IsAnswer whole old new outcome
  cut_off outcome never h = record {
    ended = subst (λ end. IsOutcomeOf end outcome) (sym so_far.end) h.ended;
    taken = takes outcome never h.taken;
  }

  module _ (text : List ℕ) (next : Output) (first : left ≡ text_and text next) where
    -- its first text is written
    pub wrote : AreWholeLines text → Appends mid new text → IsLeftOf old new whole next
    wrote lines h = record {
      done = so_far.done ++ text;
      whole_lines = lines_both so_far.done text so_far.whole_lines lines;
      taken = after_done text h;
      text = so_far.text ∙ ap (λ (o : Output). so_far.done ++ o.text) first
          ∙ sym (append_assoc so_far.done text next.text);
      end = so_far.end ∙ ap (λ (o : Output). o.end) first;
    }

    -- a part of its first text is written
    pub wrote_part : AppendsPart mid new text → IsAnswer whole old new WriteFault
    wrote_part h =
        let texts : left.text ≡ text ++ next.text = ap (λ (o : Output). o.text) first in
        let part : take h.0 left.text ≡ take h.0 text = rw texts (take-append-le h.0 text next.text h.1) in
        cut_off WriteFault (λ h. h) (record {
          ended = inr (inr (inl refl));
          taken = (h.0, rw (texts, length-append) (omega (arith, h.1)), subst (Appends mid new) (sym part) h.2);
        })
