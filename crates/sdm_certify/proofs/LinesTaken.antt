-- Reading goes on from line to line: no line that was read is left, and a bad line is none of those before.
use Rattle.std.proofs.Common.{◌≡◌, ◌+◌, ◌-◌, ◌<◌, ◌≤◌, ◌+ℤ◌, ℕ, ℤ, zero, suc, pos, Bool, true, false, nat_le, List, [], ◌∷◌}
use Rattle.std.proofs.Common.{◌++◌, Option, Some, None, Ok, Err, length, subst, arith}
use Rattle.std.specs.Prelude.{if◌then◌else◌}
use Rattle.sdm_rules.specs.declared.certificates.Mark.{Mark}
use Rattle.sdm_curve.specs.Maps.{MapData}
use Rattle.sdm_certify.specs.Lines.{Certified, LinesLeft, Read, Segments, and_on, claim_in, claim_of, head_of, in_form}
use Rattle.sdm_certify.specs.Lines.{line_in, lines_in, map_in, map_of, mark_of, marks_after, next_claim, next_line}
use Rattle.sdm_certify.specs.Lines.{one_more, segment_of, segments_after, uppers_in, uppers_of, where_due}

-- what is read from lines on takes so many of them at least: no later line is bad or wanting, and the others are left
abbrev ReadsOn : {A : Type 0} → ℕ → LinesLeft → Read A → Type 0
ReadsOn taken at (Err n) = at.number ≤ n
ReadsOn taken at (Ok (a, after)) = (at.number ≤ after.number) × (taken + length after.lines ≤ length at.lines)

-- nothing was read yet
reads_none : {A : Type 0} (at : LinesLeft) (a : A) → ReadsOn 0 at (Ok (a, at))
reads_none at a = (omega arith, omega arith)

-- reading in two parts
reads_both : {A B : Type 0} (taken : ℕ) (at : LinesLeft) (r : Read A) (next : A → LinesLeft → Read B) →
    ReadsOn taken at r → ((a : A) (after : LinesLeft) → ReadsOn 0 after (next a after)) →
    ReadsOn taken at (and_on r next)
reads_both taken at (Err n) next h more = h
reads_both taken at (Ok (a, after)) next h more = then_on taken at after (next a after) h (more a after)
  where
    then_on : {B : Type 0} (taken : ℕ) (at after : LinesLeft) (r : Read B) →
        (at.number ≤ after.number) × (taken + length after.lines ≤ length at.lines) → ReadsOn 0 after r →
        ReadsOn taken at r
    then_on taken at after (Err n) h k = omega (arith, h.0, k)
    then_on taken at after (Ok (b, last)) h k = (omega (arith, h.0, k.0), omega (arith, h.1, k.1))

-- one line
reads_line : {A : Type 0} (taken : ℕ) → taken ≤ 1 → (form : List ℕ → Option A) (at : LinesLeft) →
    ReadsOn taken at (next_line form at)
reads_line taken few form at = of_lines at.number at.lines
  where
    of_form : {A : Type 0} (number : ℕ) (line : List ℕ) (lines : List (List ℕ)) (o : Option A) →
        ReadsOn taken (record { number = number; lines = line ∷ lines }) (in_form number lines o)
    of_form number line lines None = omega arith
    of_form number line lines (Some a) = (omega arith, omega (arith, few))

    of_lines : (number : ℕ) (lines : List (List ℕ)) → ReadsOn taken (record { number = number; lines = lines })
        (line_in form number lines)
    of_lines number [] = omega arith
    of_lines number (line ∷ lines) = of_form number line lines (form line)

-- the marks of a claim
reads_marks : (done : List Mark) (count : ℕ) (at : LinesLeft) → ReadsOn 0 at (marks_after done count at)
reads_marks done zero at = reads_none at done
reads_marks done (suc count) at =
    reads_both 0 at (next_line mark_of at) _ (reads_line 0 (omega arith) mark_of at)
    (λ x after. reads_marks (done ++ x ∷ []) count after)

-- the segments of a map
reads_segments : (bands : ℕ) (done : Segments) (count : ℕ) (least greatest : ℤ) (at : LinesLeft) →
    ReadsOn 0 at (segments_after bands done count least greatest at)
reads_segments bands done zero least greatest at = reads_none at done
reads_segments bands done (suc count) least greatest at =
    reads_both 0 at (next_line (segment_of bands least greatest) at) _
    (reads_line 0 (omega arith) (segment_of bands least greatest) at)
    (λ s after. reads_segments bands (one_more done s) count (s.start +ℤ pos 1) (pos 10_200_000) after)

-- the upper speeds of a map
reads_uppers : (bands : ℕ) (at : LinesLeft) → ReadsOn 0 at (uppers_in bands at)
reads_uppers bands at = by_count (nat_le bands 1)
  where
    by_count : (b : Bool) → ReadsOn 0 at (if b then Ok ([], at) else next_line (uppers_of (bands - 1)) at)
    by_count true = reads_none {A = List ℕ} at []
    by_count false = reads_line 0 (omega arith) (uppers_of (bands - 1)) at

-- the whole map
reads_map : (at : LinesLeft) → ReadsOn 0 at (map_in at)
unfolding map_in
reads_map at =
    reads_both 0 at (next_line head_of at) _ (reads_line 0 (omega arith) head_of at) (λ head after.
    reads_both 0 after (uppers_in head.bands after) _ (reads_uppers head.bands after) (λ uppers after.
    reads_both 0 after _ _ (reads_segments head.bands _ head.segments _ _ after) (λ read after.
    reads_none after (map_of head uppers read))))

-- a claim with its marks, which takes a line
reads_claim : (at : LinesLeft) → ReadsOn 1 at (claim_in at)
unfolding claim_in
reads_claim at =
    reads_both 1 at (next_line claim_of at) _ (reads_line 1 (omega arith) claim_of at) (λ c after.
    reads_both 0 after _ _ (reads_marks [] c.marks after) (λ marks after.
    reads_none {A = Certified} after (record { claim = c.claim; marks = marks })))

-- what the next claim is read as
read_as : (at : LinesLeft) (r : Read Certified) → next_claim at ≡ Some r → claim_in at ≡ r
read_as at r is = by_lines at.lines is
  where
    by_lines : (lines : List (List ℕ)) → where_due lines (claim_in at) ≡ Some r → claim_in at ≡ r
    by_lines [] e = absurd cc
    by_lines (line ∷ lines) e = cc

-- so the next claim takes a line at least
pub claim_reads : (at after : LinesLeft) (c : Certified) → next_claim at ≡ Some (Ok (c, after)) →
    (at.number ≤ after.number) × (length after.lines < length at.lines)
claim_reads at after c is =
    let h : ReadsOn 1 at (Ok (c, after)) = subst (ReadsOn 1 at) (read_as at (Ok (c, after)) is) (reads_claim at) in
    (h.0, omega (arith, h.1))

-- and if a line of it is bad, it is no earlier one
pub claim_bad : (at : LinesLeft) (n : ℕ) → next_claim at ≡ Some (Err n) → at.number ≤ n
claim_bad at n is = subst (ReadsOn 1 at) (read_as at (Err n) is) (reads_claim at)

-- lines are counted from 1
pub map_reads : (text : List ℕ) (written : MapData) (after : LinesLeft) →
    map_in (lines_in text) ≡ Ok (written, after) → 1 ≤ after.number
map_reads text written after is = (subst (ReadsOn 0 (lines_in text)) is (reads_map (lines_in text))).0

-- and so is a bad line of the map
pub map_bad : (text : List ℕ) (n : ℕ) → map_in (lines_in text) ≡ Err n → 1 ≤ n
map_bad text n is = subst (ReadsOn 0 (lines_in text)) is (reads_map (lines_in text))
