-- What is read one after the other: each turn of a loop reads one more of what is left, or finds that it is bad.
use Rattle.std.proofs.Common.{◌≡◌, ◌⊎◌, ℕ, zero, suc, ℤ, pos, neg_ℤ, ◌^◌, ◌-◌, ◌<◌, ◌≤◌, ◌+ℤ◌, ◌<ℤ◌, List, [], ◌∷◌}
use Rattle.std.proofs.Common.{◌++◌}
use Rattle.std.proofs.Common.{Some, Ok, Err, All, refl, ap, ◌∙◌, inl, inr, length, length-append, get_or}
use Rattle.std.proofs.Common.{eq-zero-or-pos}
use Rattle.std.proofs.Common.{arith}
use Rattle.std.proofs.Math.ListN.{get_or-append}
use Rattle.std.proofs.Math.Seq.{get_or-append_seam}
use Rattle.std.proofs.lemmas.Int.{ints}
use Rattle.std.proofs.lemmas.List.Elements.{All-append}
use Rattle.sdm_rules.specs.declared.certificates.Mark.{Mark}
use Rattle.sdm_certify.specs.declared.answers.CheckFault.{CheckFault}
use Rattle.sdm_certify.specs.declared.answers.CheckFault.TheVariants.{Line, Memory}
use Rattle.sdm_certify.specs.Written.{IsFaultOf}
use Rattle.sdm_certify.specs.Fields.{first_number, slopes_after}
use Rattle.sdm_certify.specs.Lines.{LinesLeft, Segment, Segments, mark_of, marks_after, next_line, one_more, segment_of}
use Rattle.sdm_certify.specs.Lines.{segments_after}

-- P holds of one more
pub all_and : {X : Type 0} (P : X → Type 0) (xs : List X) (x : X) → All P xs → P x → All P (xs ++ x ∷ [])
all_and P xs x all this = All-append P xs (x ∷ []) all (one this)
  where
    one : P x → All P (x ∷ [])
    one this zero d lt = this
    one this (suc k) d lt = absurd (omega (arith, lt))

module _ (left more : ℕ) (is : left ≡ suc more) where
  -- one more slope
  pub slope_read : (done : List ℤ) (fields after : List (List ℕ)) (n : ℤ) →
      first_number (neg_ℤ (pos (10 ^ 15))) (pos (10 ^ 15)) fields ≡ Some (n, after) →
      slopes_after done left fields ≡ slopes_after (done ++ n ∷ []) more after
  slope_read done fields after n read = rw (is, read) refl

  -- one more mark
  pub mark_read : (done : List Mark) (at after : LinesLeft) (x : Mark) → next_line mark_of at ≡ Ok (x, after) →
      marks_after done left at ≡ marks_after (done ++ x ∷ []) more after
  mark_read done at after x read = rw (is, read) refl

  -- the next mark is bad
  pub mark_bad : (done : List Mark) (at : LinesLeft) (n : ℕ) → next_line mark_of at ≡ Err n →
      marks_after done left at ≡ Err n
  mark_bad done at n bad = rw (is, bad) refl

  -- one more segment
  pub segment_read : (bands : ℕ) (done : Segments) (least greatest : ℤ) (at after : LinesLeft) (s : Segment) →
      next_line (segment_of bands least greatest) at ≡ Ok (s, after) →
      segments_after bands done left least greatest at
      ≡ segments_after bands (one_more done s) more (s.start +ℤ pos 1) (pos 10_200_000) after
  segment_read bands done least greatest at after s read = rw (is, read) refl

  -- the next segment is bad
  pub segment_bad : (bands : ℕ) (done : Segments) (least greatest : ℤ) (at : LinesLeft) (n : ℕ) →
      next_line (segment_of bands least greatest) at ≡ Err n →
      segments_after bands done left least greatest at ≡ Err n
  segment_bad bands done least greatest at n bad = rw (is, bad) refl

  -- the next segment is at fault
  pub segments_fault : (bands : ℕ) (done : Segments) (least greatest : ℤ) (at : LinesLeft) (fault : CheckFault) →
      IsFaultOf (next_line (segment_of bands least greatest) at) fault →
      IsFaultOf (segments_after bands done left least greatest at) fault
  segments_fault bands done least greatest at (Line bad) h = segment_bad bands done least greatest at bad.number h
  segments_fault bands done least greatest at Memory h = tt

-- first cells of segments that begin at 0 and rise, and all lie before `least`
pub record AreStartsBelow (starts : List ℤ) (least : ℕ) : Type 0 where
  pub first : 0 < length starts → get_or starts 0 (pos 0) ≡ pos 0
  pub below : (k : ℕ) → k < length starts → get_or starts k (pos 0) <ℤ pos least
  pub rise : (j k : ℕ) → j < k → k < length starts → get_or starts j (pos 0) <ℤ get_or starts k (pos 0)

-- one more start, which isn't before `least`, and is 0 where it is the first
pub start_read : (starts : List ℤ) (least start : ℕ) → AreStartsBelow starts least → least ≤ start →
    (length starts ≡ 0 → start ≡ 0) → AreStartsBelow (starts ++ pos start ∷ []) (suc start)
start_read starts least start h past zero_first = record {
  first = λ some. elim (eq-zero-or-pos (length starts)) [
    | inl none ↦ (rw none at here) ∙ ap pos (zero_first none)
    | inr any ↦ get_or-append starts (pos start ∷ []) (pos 0) 0 any ∙ h.first any
  ];
  below = λ k lt. elim (at_or_before k (rw long at lt)) [
    | inl before ↦ rw (get_or-append starts (pos start ∷ []) (pos 0) k before) (omega (arith, ints, h.below k before))
    | inr last ↦ rw (last, here) (omega (arith, ints))
  ];
  rise = λ j k lt known. elim (at_or_before k (rw long at known)) [
    | inl before ↦ rw (
      get_or-append starts (pos start ∷ []) (pos 0) k before,
      get_or-append starts (pos start ∷ []) (pos 0) j (omega (arith, before, lt)),
    ) (h.rise j k lt before)
    | inr last ↦
        let earlier : j < length starts = omega (arith, last, lt) in
        rw (last, here, get_or-append starts (pos start ∷ []) (pos 0) j earlier)
        (omega (arith, ints, h.below j earlier, past))
  ];
}
  where
    here : get_or (starts ++ pos start ∷ []) (length starts) (pos 0) ≡ pos start
    here = get_or-append_seam starts (pos start) [] (pos 0)

    long : length (starts ++ pos start ∷ []) ≡ suc (length starts)
    long = omega (arith, length-append starts (pos start ∷ []))

    at_or_before : (k : ℕ) → k < suc (length starts) → (k < length starts) ⊎ (k ≡ length starts)
    at_or_before k lt = elim (eq-zero-or-pos (length starts - k)) [
      | inl none ↦ inr (omega (arith, none, lt))
      | inr some ↦ inl (omega (arith, some))
    ]
