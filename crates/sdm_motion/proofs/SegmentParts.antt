-- A segment is met exactly where one of its cells has a part strictly between two places: the cell of the first place,
-- or the segment's first cell.
use Rattle.std.proofs.Common.{◌≡◌, ℕ, ℤ, pos, List, get_or, length, ◌+◌, ◌*◌, ◌<◌, ◌+ℤ◌, ◌≤ℤ◌, ◌<ℤ◌, arith, inl, inr}
use Rattle.std.proofs.lemmas.Int.{ints, by_lt_z}
use Rattle.std.proofs.lemmas.Bool.{cases_lt}
use Rattle.sdm_num.specs.Units.{centimetre}
use Rattle.sdm_num.proofs.Ints.{scale-+ℤ, scale-≤}
use Rattle.sdm_num.proofs.Floors.{scale-<_cancel}
use Rattle.sdm_rules.specs.Curves.{cell_at, cell_start}
use Rattle.sdm_rules.specs.Motion.{HasPart}
use Rattle.sdm_laws.proofs.OneBand.Cells.{cell_low, cell_high}
use Rattle.sdm_laws.proofs.OneBand.Segments.{IsInSegment}
use Rattle.sdm_curve.specs.Maps.{AreStarts}
use Rattle.sdm_motion.specs.Steps.{Meets}

-- a later cell begins no earlier
pub start_le : (m : ℕ) (a b : ℤ) → a ≤ℤ b → cell_start m a ≤ℤ cell_start m b
start_le m a b h = scale-≤ (m * centimetre) a b h

-- a cell ends where the next one begins
pub start_next : (m : ℕ) (c : ℤ) → cell_start m (c +ℤ pos 1) ≡ cell_start m c +ℤ pos (m * centimetre)
start_next m c = rw scale-+ℤ (omega (arith, ints))

-- a cell that begins earlier is an earlier one
pub start_lt_out : (m : ℕ) (a b : ℤ) → cell_start m a <ℤ cell_start m b → a <ℤ b
start_lt_out m a b h = scale-<_cancel (m * centimetre) a b h

-- a segment with a cell that has a part is met
pub meets_of : (m : ℕ) (starts : List ℤ) (p p' cell : ℤ) (i : ℕ) → HasPart m cell p p' → IsInSegment starts cell i →
    Meets m starts i p p'
meets_of m starts p p' cell i h g = record {
  apart = h.apart;
  begins = λ some. (let l = start_le m _ _ (g.low some) in omega (arith, ints, l, h.begins));
  ends = λ lt. (
      let next : (cell +ℤ pos 1)
      ≤ℤ get_or starts (i + 1) (pos 0) = omega (arith, ints, g.high (i + 1) (omega arith) lt) in
      let l = start_le m _ _ next in
      let l' = rw start_next at l in
      omega (arith, ints, l', h.ends));
}

-- a cell of the segment that has a part
pub record Found (m : ℕ) (starts : List ℤ) (i : ℕ) (p p' : ℤ) : Type 0 where
  pub cell : ℤ
  pub part : HasPart m cell p p'
  pub segment : IsInSegment starts cell i

-- a cell that begins at or before the first place is before all later segments
earlier : (m : ℕ) (starts : List ℤ) (i : ℕ) (p p' : ℤ) → AreStarts starts → Meets m starts i p p' → (c : ℤ) →
    cell_start m c ≤ℤ p → (k : ℕ) → i < k → k < length starts → c <ℤ get_or starts k (pos 0)
earlier m starts i p p' rising met c le k lt known =
    let one : c <ℤ get_or starts (i + 1) (pos 0) = start_lt_out m _ _ (omega (arith, ints, met.ends (omega arith), le))
    in
    elim (cases_lt (i + 1) k) [
      | inl less ↦ omega (arith, ints, one, rising.rise (i + 1) k less known)
      | inr ge ↦ (let e : k ≡ i + 1 = omega arith in rw e one)
    ]

-- the cell of the first place, where this isn't before the segment
found_here : (m : ℕ) (starts : List ℤ) (i : ℕ) (p p' : ℤ) → 0 < m → AreStarts starts → i < length starts →
    (0 < i → get_or starts i (pos 0) ≤ℤ cell_at m p) → Meets m starts i p p' → Found m starts i p p'
found_here m starts i p p' some rising known low met = record {
  cell = cell_at m p;
  part = record {
    apart = met.apart;
    begins = omega (arith, ints, cell_low m p some, met.apart);
    ends = cell_high m p some;
  };
  segment = record {
    known = known;
    low = low;
    high = earlier m starts i p p' rising met (cell_at m p) (cell_low m p some);
  };
}

-- else the segment's first cell
found_later : (m : ℕ) (starts : List ℤ) (i : ℕ) (p p' : ℤ) → 0 < m → AreStarts starts → i < length starts → 0 < i →
    cell_at m p <ℤ get_or starts i (pos 0) → Meets m starts i p p' → Found m starts i p p'
found_later m starts i p p' some rising known later lt met =
    let next : (cell_at m p +ℤ pos 1) ≤ℤ get_or starts i (pos 0) = omega (arith, ints) in
    let l = start_le m _ _ next in
    let l' = rw start_next at l in
    record {
      cell = get_or starts i (pos 0);
      part = record {
        apart = met.apart;
        begins = met.begins later;
        ends = omega (arith, ints, l', cell_high m p some);
      };
      segment = record { known = known; low = λ _. omega (arith, ints); high = λ k l n. rising.rise i k l n };
    }

-- a segment that is met has a cell with a part
pub found : (m : ℕ) (starts : List ℤ) (i : ℕ) (p p' : ℤ) → 0 < m → AreStarts starts → i < length starts →
    Meets m starts i p p' → Found m starts i p p'
found m starts i p p' some rising known met =
    elim (cases_lt 0 i) [
      | inr first ↦ found_here m starts i p p' some rising known (λ later. absurd (omega arith)) met
      | inl later ↦ by_lt_z (cell_at m p) (get_or starts i (pos 0))
          (λ (lt : cell_at m p <ℤ get_or starts i (pos 0)). found_later m starts i p p' some rising known later lt met)
          (λ (le : get_or starts i (pos 0) ≤ℤ cell_at m p). found_here m starts i p p' some rising known (λ _. le) met)
    ]
