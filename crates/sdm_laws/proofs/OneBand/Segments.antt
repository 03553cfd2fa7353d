-- The segment of a cell in starts that rise: the starts at most the cell are the first ones, so their count tells it.
-- In a segment each band has one slope, so energies go with distances there.
use Rattle.std.proofs.Common.{◌≡◌, ℕ, ℤ, zero, suc, pos, cond, List, [], ◌∷◌, length, get_or, slice_index, ◌+◌, ◌-◌}
use Rattle.std.proofs.Common.{◌*◌, ◌<◌, ◌≤◌, ◌+ℤ◌, ◌≤ℤ◌, ◌<ℤ◌, int_le, ap, arith, refl, ◌∙◌}
use Rattle.std.proofs.lemmas.Int.{ints, by_lt_z}
use Rattle.std.proofs.lemmas.List.Sums.{sum_by-cons}
use Rattle.std.specs.List.{count_by}
use Rattle.sdm_num.proofs.Comparisons.{le_is, not_le_is}
use Rattle.sdm_rules.specs.Slopes.{SlopeMap, meaning_of, segment_of}
use Rattle.sdm_rules.specs.Curves.{cell_at, cell_start}
use Rattle.sdm_laws.specs.Energy.{energy}
use Rattle.sdm_laws.proofs.OneBand.Totals.{total_const}
use Rattle.sdm_laws.proofs.OneBand.Cells.{cell_reaches, cell_stays}

-- the starts rise
abbrev pub IsRising : List ℤ → Type 0
IsRising starts = (i j : ℕ) → i ≤ j → j < length starts → get_or starts i (pos 0) ≤ℤ get_or starts j (pos 0)

-- ---- how many starts are at most a cell

-- the first `j` starts are at most the cell, and no other
record IsCut (starts : List ℤ) (c : ℤ) (j : ℕ) : Type 0 where
  known : j ≤ length starts
  low : (k : ℕ) → k < j → get_or starts k (pos 0) ≤ℤ c
  high : (k : ℕ) → j ≤ k → k < length starts → c <ℤ get_or starts k (pos 0)

-- as many starts are at most the cell as stand before its cut
count_cut : (xs : List ℤ) (j : ℕ) (c : ℤ) → IsCut xs c j → count_by (λ s. int_le s c) xs ≡ j
count_cut [] j c h = let k = h.known in omega arith
count_cut (x ∷ xs) zero c h =
    let here = not_le_is x c (h.high 0 (omega arith) (omega arith)) in
    let rest = count_cut xs zero c (record {
      known = omega arith;
      low = λ k l. absurd (omega arith);
      high = λ k l m. h.high (suc k) (omega arith) (omega arith);
    }) in
    sum_by-cons (λ s. cond (int_le s c) 1 0) x xs ∙ rw here (omega (arith, rest))
count_cut (x ∷ xs) (suc j) c h =
    let here = le_is x c (h.low 0 (omega arith)) in
    let known = h.known in
    let rest = count_cut xs j c (record {
      known = omega arith;
      low = λ k l. h.low (suc k) (omega arith);
      high = λ k l m. h.high (suc k) (omega arith) (omega arith);
    }) in
    sum_by-cons (λ s. cond (int_le s c) 1 0) x xs ∙ rw here (omega (arith, rest))

-- the cut of some starts at a cell
record Cut (starts : List ℤ) (c : ℤ) : Type 0 where
  j : ℕ
  is : IsCut starts c j

-- starts that rise have a cut at each cell
cut : (xs : List ℤ) (c : ℤ) → IsRising xs → Cut xs c
cut [] c h = record {
  j = 0;
  is = record {
    known = omega arith;
    low = λ k l. absurd (omega arith);
    high = λ k l m. absurd (omega arith);
  };
}
cut (x ∷ xs) c h =
    let rest = cut xs c (tail_rising x xs h) in
    by_lt_z c x
    (λ (lt : c <ℤ x). record {
      j = 0;
      is = record {
        known = omega arith;
        low = λ k l. absurd (omega arith);
        high =
            λ k l m. omega (arith, ints, h 0 k (omega arith) m);
      };
    })
    (λ (le : x ≤ℤ c). record {
      j = suc rest.j;
      is = record {
        known = (let k = rest.is.known in omega arith);
        low =
            low_more x xs c rest.j le rest.is;
        high = high_more x xs c rest.j rest.is;
      };
    })
  where
    tail_rising : (x : ℤ) (xs : List ℤ) → IsRising (x ∷ xs) → IsRising xs
    tail_rising x xs h i j le lt = h (suc i) (suc j) (omega arith) (omega arith)

    low_more : (x : ℤ) (xs : List ℤ) (c : ℤ) (j : ℕ) → x ≤ℤ c → IsCut xs c j → (k : ℕ) → k < suc j →
        get_or (x ∷ xs) k (pos 0) ≤ℤ c
    low_more x xs c j le h zero l = le
    low_more x xs c j le h (suc k) l = h.low k (omega arith)

    high_more : (x : ℤ) (xs : List ℤ) (c : ℤ) (j : ℕ) → IsCut xs c j → (k : ℕ) → suc j ≤ k → k < length (x ∷ xs) →
        c <ℤ get_or (x ∷ xs) k (pos 0)
    high_more x xs c j h zero l m = absurd (omega arith)
    high_more x xs c j h (suc k) l m = h.high k (omega arith) (omega arith)

-- ---- the segment of a cell

-- the cell is in the segment: at or past its start, but for the first, and before each later start
pub record IsInSegment (starts : List ℤ) (c : ℤ) (i : ℕ) : Type 0 where
  pub known : i < length starts
  pub low : 0 < i → get_or starts i (pos 0) ≤ℤ c
  pub high : (k : ℕ) → i < k → k < length starts → c <ℤ get_or starts k (pos 0)

-- a cell is in its segment
pub in_segment : (starts : List ℤ) (c : ℤ) → IsRising starts → 0 < length starts →
    IsInSegment starts c (segment_of starts c)
in_segment starts c rising some =
    let at = cut starts c rising in
    rw (count_cut starts at.j c at.is) (of_cut starts c at.j some at.is)
  where
    of_cut : (starts : List ℤ) (c : ℤ) (j : ℕ) → 0 < length starts → IsCut starts c j → IsInSegment starts c (j - 1)
    of_cut starts c j some h = let known = h.known in record {
      known = omega arith;
      low = λ p. h.low (j - 1) (omega arith);
      high = λ k l m. h.high k (omega arith) m;
    }

-- and in no other
pub segment_is : (starts : List ℤ) (c : ℤ) (i : ℕ) → IsRising starts → IsInSegment starts c i → segment_of starts c ≡ i
segment_is starts c i rising h =
    let known = h.known in
    by_lt_z c (get_or starts i (pos 0))
    (λ (lt : c <ℤ get_or starts i (pos 0)).
    let first_is : i ≡ 0 = first i (λ p. absurd (omega (arith, ints, h.low p))) in
    let none = count_cut starts 0 c (record {
      known = omega arith;
      low = λ k l. absurd (omega arith);
      high = λ k l m. omega (arith, ints, rising 0 k (omega arith) m, rw first_is at lt);
    }) in
    omega (arith, none))
    (λ (le : get_or starts i (pos 0) ≤ℤ c).
    let more = count_cut starts (suc i) c (record {
      known = omega arith;
      low = λ k l.
          omega (arith, ints, rising k i (omega arith) known);
      high = λ k l m. h.high k (omega arith) m;
    }) in
    omega (arith, more))
  where
    first : (i : ℕ) → (0 < i → ⊥) → i ≡ 0
    first zero h = refl
    first (suc i) h = absurd (h (omega arith))

-- ---- slopes and energies in a segment

-- in a segment each band has the map's one slope
pub slope_in_segment : (map : SlopeMap) (band : ℕ) (c : ℤ) (i : ℕ) → IsRising map.starts → IsInSegment map.starts c i →
    (meaning_of map).slope band c ≡ slice_index map.slopes (band * length map.starts + i)
slope_in_segment map band c i rising h =
    ap (λ (j : ℕ). slice_index map.slopes (band * length map.starts + j)) (segment_is map.starts c i rising h)

-- the stretch from `p` to `p'` lies in the segment; the first one has no beginning
pub record IsDistanceInSegment (m : ℕ) (starts : List ℤ) (i : ℕ) (p p' : ℤ) : Type 0 where
  pub known : i < length starts
  pub low : 0 < i → cell_start m (get_or starts i (pos 0)) ≤ℤ p
  pub high : (k : ℕ) → i < k → k < length starts → p' ≤ℤ cell_start m (get_or starts k (pos 0))

-- so each of its steps does
step_in_segment : (m : ℕ) (starts : List ℤ) (i : ℕ) (p p' : ℤ) (d k : ℕ) → 0 < m → p' ≡ p +ℤ pos d → k < d →
    IsDistanceInSegment m starts i p p' → IsInSegment starts (cell_at m (p +ℤ pos k)) i
step_in_segment m starts i p p' d k m_pos distance lt h = record {
  known = h.known;
  low = λ some. cell_reaches m _ _ m_pos (omega (arith, ints, h.low some));
  high = λ j l known. cell_stays m _ _ m_pos (omega (arith, ints, h.high j l known));
}

-- in a segment the energy of a distance is the slope times the distance
pub energy_in_segment : (map : SlopeMap) (band m i : ℕ) (p p' : ℤ) (d : ℕ) → 0 < m → IsRising map.starts →
    IsDistanceInSegment m map.starts i p p' → p' ≡ p +ℤ pos d →
    energy (meaning_of map) band m p d ≡ slice_index map.slopes (band * length map.starts + i) * d
energy_in_segment map band m i p p' d m_pos rising h distance =
    total_const (λ k. (meaning_of map).slope band (cell_at m (p +ℤ pos k)))
    (slice_index map.slopes (band * length map.starts + i)) d
    (λ k lt. slope_in_segment map band (cell_at m (p +ℤ pos k)) i rising
    (step_in_segment m map.starts i p p' d k m_pos distance lt h))
