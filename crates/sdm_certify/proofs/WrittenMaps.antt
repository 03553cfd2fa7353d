-- The written map is told by the slopes alone, however they are kept: segments are written that begin at cell 0, and
-- where a slope isn't that of the cell before. And it is read back as these slopes.
use Rattle.std.proofs.Common.{◌≡◌, ℕ, ℤ, zero, suc, pos, neg_ℤ, true, false, Bool, List, [], ◌∷◌, ◌+◌, ◌-◌, ◌<◌}
use Rattle.std.proofs.Common.{◌≤◌, ◌+ℤ◌, ◌≤ℤ◌, ◌<ℤ◌, map, length, get_or, refl, ap, sym, ◌∙◌, subst, arith}
use Rattle.std.proofs.Common.{inl, inr, cond}
use Rattle.std.specs.Prelude.{All, ◌==◌, not}
use Rattle.std.proofs.lemmas.Int.{ints, by_lt_z}
use Rattle.std.proofs.lemmas.Bool.{cases_lt}
use Rattle.std.proofs.lemmas.Bool.Decides.{nat_tests}
use Rattle.std.proofs.lemmas.List.{length-map}
use Rattle.sdm_rules.specs.Slopes.{SlopeMap, bands_of, meaning_of, segment_of}
use Rattle.sdm_laws.proofs.OneBand.Segments.{segment_is}
use Rattle.sdm_curve.specs.Maps.{AreAccepted, AreStarts, IsKeptMap, handed_in, map_data}
use Rattle.sdm_curve.proofs.Cells.{segment_of_start}
use Rattle.sdm_curve.proofs.Meanings.{kept_known, rising_of, segment_known, slope_most}
use Rattle.sdm_certify.specs.ReadBack.{AreWrittenSpeeds, IsReadBack}
use Rattle.sdm_certify.specs.WrittenLines.{are_same_slopes, changed_cells, first_cell, has_slopes_before, last_start}
use Rattle.sdm_certify.specs.WrittenLines.{lines_from, segment_cells, text_of_lines, written, written_from, written_lines}
use Rattle.sdm_certify.proofs.MapBack.{AreWritable, map_back}
use Rattle.sdm_certify.proofs.MapsMade.{made_slopes}
use Rattle.sdm_certify.proofs.ReadMaps.{AreRising}
use Rattle.sdm_certify.proofs.ThinMaps.{are_cells, cells, few_written, thin, thin_accepted, thin_means}

-- a cell that a written segment begins with
by_cell : (i : ℕ) (cell : ℤ) (start : ℕ → ℤ) → cell ≡ start (suc i) → (same : Bool) (xs : List ℕ) →
    cond same (map start xs) (cell ∷ map start xs) ≡ map start (cond (not same) (suc i ∷ xs) xs)
by_cell i cell start is true xs = refl
by_cell i cell start is false xs = ap (λ (c : ℤ). c ∷ map start xs) is

same_is : (n : ℕ) → (n == n) ≡ true
same_is n = grind (arith, nat_tests)

module _ (m : SlopeMap) (h : AreStarts m.starts) where
  -- the first cell of a segment
  abbrev start : ℕ → ℤ
  start = first_cell m

  -- a cell from the start of a segment on and before the next one lies in the segment
  in_it : (i : ℕ) (cell : ℤ) → i < length m.starts → start i ≤ℤ cell →
      (suc i < length m.starts → cell <ℤ start (suc i)) → segment_of m.starts cell ≡ i
  in_it i cell known from before = segment_is m.starts cell i (rising_of m.starts h) (record {
    known = known;
    low = λ some. from;
    high = λ k later in_list. elim (cases_lt (suc i) k) [
      | inl more ↦ (let one = before (omega arith) in let two = h.rise (suc i) k more in_list in
          omega (arith, ints, one, two))
      | inr ge ↦ (let same : k ≡ suc i = omega arith in rw same (before (omega arith)))
    ];
  })

  -- cells of one segment have the same slopes
  same_in : (cell : ℤ) (band : ℕ) → segment_of m.starts (cell +ℤ neg_ℤ (pos 1)) ≡ segment_of m.starts cell →
      has_slopes_before (meaning_of m) cell band ≡ true
  same_in cell zero same = refl
  same_in cell (suc band) same = rw (same_in cell band same, same) (same_is _)

  -- at the start of a segment the slopes are compared with those of the segment before
  same_at : (i : ℕ) (cell : ℤ) (band : ℕ) → segment_of m.starts (cell +ℤ neg_ℤ (pos 1)) ≡ i →
      segment_of m.starts cell ≡ suc i →
      has_slopes_before (meaning_of m) cell band ≡ are_same_slopes m i band
  same_at i cell zero before here = refl
  same_at i cell (suc band) before here = rw (same_at i cell band before here, before, here) refl

  -- of the cells past the start of a segment those are told that begin later written segments
  changes_are : (n : ℕ) (cell : ℤ) (i left : ℕ) → suc i + left ≡ length m.starts → start i <ℤ cell →
      (0 < left → cell ≤ℤ start (suc i)) → (0 < left → start (i + left) <ℤ (cell +ℤ pos n)) →
      changed_cells (meaning_of m) cell n ≡ map start (written_from m (suc i) left)
  unfolding changed_cells
  changes_are zero cell i zero all past before end = refl
  changes_are zero cell i (suc left) all past before end =
      absurd (let one = before (omega arith) in let two = end (omega arith) in elim (cases_lt 0 left) [
        | inl more ↦ (let three = h.rise (suc i) (i + suc left) (omega arith) (omega arith) in
            omega (arith, ints, one, two, three))
        | inr none ↦ (let same : i + suc left ≡ suc i = omega arith in let two' = rw same at two in
            omega (arith, ints, one, two'))
      ])
  changes_are (suc n) cell i zero all past before end =
      let here = in_it i cell (omega arith) (omega (arith, ints, past)) (λ more. absurd (omega arith)) in
      let just = in_it i (cell +ℤ neg_ℤ (pos 1)) (omega arith) (omega (arith, ints, past))
      (λ more. absurd (omega arith)) in
      rw (same_in cell (bands_of m.uppers) (just ∙ sym here))
      (changes_are n (cell +ℤ pos 1) i zero all (omega (arith, ints, past)) (λ some. absurd (omega arith))
      (λ some. absurd (omega arith)))
  changes_are (suc n) cell i (suc left) all past before end =
      by_lt_z cell (start (suc i))
      (λ (less : cell <ℤ start (suc i)).
      let here = in_it i cell (omega arith) (omega (arith, ints, past)) (λ more. less) in
      let just = in_it i (cell +ℤ neg_ℤ (pos 1)) (omega arith) (omega (arith, ints, past))
      (λ more. omega (arith, ints, less)) in
      rw (same_in cell (bands_of m.uppers) (just ∙ sym here))
      (changes_are n (cell +ℤ pos 1) i (suc left) all (omega (arith, ints, past)) (λ some. omega (arith, ints, less))
      (λ some. (let last = end (omega arith) in omega (arith, ints, last)))))
      (λ (ge : start (suc i) ≤ℤ cell).
      let at : cell ≡ start (suc i) = (let one = before (omega arith) in omega (arith, ints, ge, one)) in
      let just = in_it i (cell +ℤ neg_ℤ (pos 1)) (omega arith) (omega (arith, ints, past))
      (λ more. omega (arith, ints, at)) in
      let here : segment_of m.starts cell ≡ suc i =
      ap (segment_of m.starts) at ∙ segment_of_start m.starts (suc i) h (omega arith) in
      let later = changes_are n (cell +ℤ pos 1) (suc i) left (omega (arith, all)) (omega (arith, ints, at))
      (λ some. (let next = h.rise (suc i) (suc (suc i)) (omega arith) (omega arith) in
      omega (arith, ints, at, next)))
      (λ some. (let last = end (omega arith) in let same : i + suc left ≡ suc i + left = omega arith in
      let last' = rw same at last in omega (arith, ints, last'))) in
      rw (same_at i cell (bands_of m.uppers) just here, later)
      (by_cell i cell start at (are_same_slopes m i (bands_of m.uppers)) (written_from m (suc (suc i)) left)))

  -- the cells with which written segments begin
  cells_are : (left : ℕ) → suc left ≡ length m.starts →
      ((i : ℕ) → i < length m.starts → start i ≤ℤ pos last_start) →
      segment_cells (meaning_of m) ≡ map start (written m)
  cells_are left all near =
      let first = h.first in
      let changes = changes_are last_start (pos 1) 0 left (omega (arith, all)) (omega (arith, ints, first))
      (λ some. (let next = h.rise 0 1 (omega arith) (omega arith) in omega (arith, ints, first, next)))
      (λ some. (let last = near left (omega arith) in let same : 0 + left ≡ left = omega arith in
      rw same (omega (arith, ints, last)))) in
      (λ k. sym first k ∷ changes k) ∙ ap (λ (n : ℕ). map start (written_from m 0 n)) all

-- the lines of a kept map are those of its slopes
pub lines_are : (m : SlopeMap) → AreStarts m.starts → All (λ s. s ≤ℤ pos last_start) m.starts →
    written_lines m ≡ lines_from (meaning_of m) (segment_cells (meaning_of m))
lines_are m h near =
    let some = h.some in
    ap (lines_from (meaning_of m)) (sym (cells_are m h (length m.starts - 1) (omega (arith, some)) (λ i known.
    near i (pos 0) known)))

-- ---- reading it back

-- numbers that rise, by their places in the list
rising_from : (least greatest : ℕ) (ns : List ℕ) → ((i : ℕ) → i < length ns → least ≤ get_or ns i 0) →
    ((i : ℕ) → i < length ns → get_or ns i 0 ≤ greatest) →
    ((i j : ℕ) → i < j → j < length ns → get_or ns i 0 < get_or ns j 0) → AreRising least greatest ns
rising_from least greatest [] low high rise = tt
rising_from least greatest (n ∷ ns) low high rise = (
  low 0 (omega arith),
  high 0 (omega arith),
  rising_from (suc n) greatest ns (λ i lt. rise 0 (suc i) (omega arith) (omega (arith, lt)))
      (λ i lt. high (suc i) (omega (arith, lt)))
      (λ i j lt known. rise (suc i) (suc j) (omega (arith, lt)) (omega (arith, known))),
)

-- a kept map can be written
writable : (m : SlopeMap) (kept : IsKeptMap (handed_in m)) → length m.starts ≤ 2_000 →
    All (λ s. s ≤ℤ pos last_start) m.starts → AreWrittenSpeeds m.uppers → AreWritable (meaning_of m) (cells m kept)
writable m kept few near speeds =
    let count = length-map (written m) (first_cell m) in
    let least = few_written m kept 0 (length m.starts) in
    record {
      low_q = kept.well_formed.low_q;
      high_q = kept.well_formed.high_q;
      few_bands = kept.well_formed.uppers.few;
      rising = rising_from 1 20_000_000 m.uppers (λ i lt. kept.well_formed.uppers.positive i lt) (λ i lt. speeds i 0 lt)
          (λ i j lt known. kept.well_formed.uppers.rise i j lt known);
      some = some_cells (length m.starts) kept.well_formed.starts.some;
      few = omega (arith, count, least, few);
      are_cells = are_cells m kept (λ i known. near i (pos 0) known);
      small = λ cell band in_band. slope_most m _ kept
          (kept_known m band (segment_of m.starts cell) kept in_band
          (segment_known m.starts cell kept.well_formed.starts));
    }
  where
    some_cells : (n : ℕ) → 0 < n → 1 ≤ length (map (first_cell m) (written_from m 0 n))
    some_cells zero some = absurd (omega (arith, some))
    some_cells (suc n) some = omega arith

-- so its lines are read back as its slopes
pub lines_back : (m : SlopeMap) → IsKeptMap (handed_in m) → length m.starts ≤ 2_000 →
    All (λ s. s ≤ℤ pos last_start) m.starts → IsReadBack (meaning_of m) (text_of_lines (written_lines m))
lines_back m kept few near speeds more =
    let on = meaning_of m in
    let starts = cells m kept in
    let all_near = λ (i : ℕ) (known : i < length m.starts). near i (pos 0) known in
    let made = thin m kept all_near in
    let parts = ap (λ (slopes : List ℤ). map_data on.q on.uppers starts slopes) (sym (made_slopes on starts)) in
    record {
      written = _;
      left = _;
      read = map_back on starts more (writable m kept few near speeds);
      left_is = refl;
      made = made;
      is_made = (parts, subst AreAccepted parts (thin_accepted m kept all_near));
      slopes = thin_means m kept all_near;
    }
