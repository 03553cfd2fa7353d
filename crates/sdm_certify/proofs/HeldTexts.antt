-- Claims that are written with their marks are read back one after the other.
use Rattle.std.proofs.Common.{◌≡◌, ℕ, suc, List, [], ◌∷◌, ◌++◌, Some, Ok, ◌+◌, All, refl, ap}
use Rattle.std.proofs.Common.{sym, ◌∙◌, subst, append_assoc, length, map, codes, arith}
use Rattle.sdm_rules.specs.declared.certificates.Mark.{Mark}
use Rattle.sdm_rules.specs.Certificates.{Hold, IsClaimInRange, IsMarkInRange}
use Rattle.sdm_rules.specs.Slopes.{Slopes, SlopeMap, meaning_of}
use Rattle.std.proofs.lemmas.List.{append-nil}
use Rattle.sdm_formats.specs.Lines.{lines_of}
use Rattle.sdm_certify.specs.Lines.{Certified, LinesLeft, Read, claim_in, claim_of, mark_of, marks_after}
use Rattle.sdm_certify.specs.Lines.{next_claim, where_due}
use Rattle.sdm_certify.specs.Made.{AreMarksInRange}
use Rattle.sdm_certify.specs.ReadBack.{AreHeld, AreWrittenSpeeds, IsHeldText, IsReadBack}
use Rattle.sdm_certify.specs.WrittenLines.{claim_text, mark_text, marked_claim_text, text_of_lines}
use Rattle.sdm_certify.proofs.LinesBack.{claim_fields, claim_read, mark_fields, mark_read}
use Rattle.sdm_certify.proofs.ReadBack.{first_line, line_back}

-- ---- one claim

-- marks, each in its ranges
abbrev AreInRange : List Mark → Type 0
AreInRange [] = Unit {0}
AreInRange (x ∷ xs) = IsMarkInRange x × AreInRange xs

each_in_range : (marks : List Mark) → All IsMarkInRange marks → AreInRange marks
each_in_range [] all = tt
each_in_range (x ∷ xs) all = (all 0 x (omega arith), each_in_range xs (λ k d lt. all (suc k) d (omega (arith, lt))))

-- marks are read back
marks_back : (done marks : List Mark) (n : ℕ) (rest : List ℕ) → AreInRange marks →
    marks_after done (length marks) (record { number = n; lines = lines_of (text_of_lines (map mark_text marks) ++ rest) })
    ≡ Ok (done ++ marks, record { number = length marks + n; lines = lines_of rest })
unfolding mark_text
marks_back done [] n rest h = let none : 0 + n ≡ n = omega arith in rw (append-nil done, none) refl
marks_back done (x ∷ xs) n rest h =
    let more = text_of_lines (map mark_text xs) in
    let read = mark_read x h.0 in
    let first = line_back mark_of n (codes "mark") (mark_fields x) (more ++ rest) x read.0 read.1 in
    let split : lines_of (text_of_lines (map mark_text (x ∷ xs)) ++ rest)
    ≡ lines_of (mark_text x ++ (more ++ rest)) = ap lines_of (append_assoc (mark_text x) more rest) in
    let count : length xs + suc n ≡ suc (length xs) + n = omega arith in
    rw (split, first) (marks_back (done ++ x ∷ []) xs (suc n) rest h.1
    ∙ (λ k. Ok (append_assoc done (x ∷ []) xs k, record { number = count k; lines = lines_of rest })))

-- a claim is read back with its marks
claim_with_marks : (c : Certified) (n : ℕ) (rest : List ℕ) → IsClaimInRange c.claim → AreMarksInRange c.marks →
    claim_in (record { number = n; lines = lines_of (marked_claim_text c.claim c.marks ++ rest) })
    ≡ Ok (c, record { number = length c.marks + suc n; lines = lines_of rest })
unfolding claim_in claim_text
claim_with_marks c n rest claim marks =
    let more = text_of_lines (map mark_text c.marks) in
    let count = length c.marks in
    let read = claim_read c.claim count claim marks.some marks.few in
    let first = line_back claim_of n (codes "claim") (claim_fields c.claim count) (more ++ rest)
    (record { claim = c.claim; marks = count }) read.0 read.1 in
    let split : lines_of (marked_claim_text c.claim c.marks ++ rest)
    ≡ lines_of (claim_text c.claim count ++ (more ++ rest)) =
    ap lines_of (append_assoc (claim_text c.claim count) more rest) in
    rw (split, first, marks_back [] c.marks (suc n) rest (each_in_range c.marks marks.each)) refl

-- ---- all of them

-- the certificate is in the ranges of its lines, and holds
pub record IsWritable (on : Slopes) (c : Certified) : Type 0 where
  pub claim : IsClaimInRange c.claim
  pub marks : AreMarksInRange c.marks
  pub hold : Hold on c.claim c.marks

-- so are all
abbrev pub AreWritable : Slopes → List Certified → Type 0
AreWritable on [] = Unit {0}
AreWritable on (c ∷ more) = IsWritable on c × AreWritable on more

-- their texts, one after the other
abbrev pub certified_text : List Certified → List ℕ
certified_text [] = []
certified_text (c ∷ more) = marked_claim_text c.claim c.marks ++ certified_text more

-- what is read where a line is left
read_due : (line : List ℕ) (lines : List (List ℕ)) (at : LinesLeft) (r : Read Certified) → at.lines ≡ line ∷ lines →
    claim_in at ≡ r → next_claim at ≡ Some r
read_due line lines at r is read =
    ap (λ (left : List (List ℕ)). where_due left (claim_in at)) is ∙ ap (λ (x : Read Certified). Some x) read

-- claims are read back from the lines of their texts
pub held_back : (made : SlopeMap) (certified : List Certified) (n : ℕ) → AreWritable (meaning_of made) certified →
    AreHeld made (record { number = n; lines = lines_of (certified_text certified) }) certified
unfolding claim_text
held_back made [] n h = refl
held_back made (c ∷ more) n h =
    let rest = certified_text more in
    let count = length c.marks in
    let this = h.0 in
    let read = claim_with_marks c n rest this.claim this.marks in
    let first = first_line (codes "claim") (claim_fields c.claim count)
    (text_of_lines (map mark_text c.marks) ++ rest) (claim_read c.claim count this.claim this.marks.some this.marks.few).0 in
    let split = ap lines_of (append_assoc (claim_text c.claim count) (text_of_lines (map mark_text c.marks)) rest) in (
      record { number = count + suc n; lines = lines_of rest },
      read_due _ _ _ _ (split ∙ first) read,
      this.hold,
      held_back made more (count + suc n) h.1,
    )

-- a map with claims after it is a text whose marks hold on the map above them
pub held_text : (on : Slopes) (text : List ℕ) (certified : List Certified) → AreWrittenSpeeds on.uppers →
    IsReadBack on text → AreWritable on certified → IsHeldText on (text ++ certified_text certified) certified
held_text on text certified speeds back h =
    let m = back speeds (certified_text certified) in
    record {
      written = m.written;
      left = m.left;
      read = m.read;
      made = m.made;
      is_made = m.is_made;
      slopes = m.slopes;
      held = of_lines m.made m.left m.left_is
          (held_back m.made certified m.left.number (subst (λ (s : Slopes). AreWritable s certified) (sym m.slopes) h));
    }
  where
    of_lines : (made : SlopeMap) (left : LinesLeft) → left.lines ≡ lines_of (certified_text certified) →
        AreHeld made (record { number = left.number; lines = lines_of (certified_text certified) }) certified →
        AreHeld made left certified
    of_lines made left is held = subst (λ (lines : List (List ℕ)).
        AreHeld made (record { number = left.number; lines = lines }) certified) (sym is) held
