-- Going back from a knot over the segments of a map: a change of the slope can only be where a segment begins, so the
-- marks
-- at these places are those of all cells.
use Rattle.std.proofs.Common.{◌≡◌, ℕ, ℤ, zero, suc, pos, neg_ℤ, List, [], ◌∷◌, ◌++◌, ◌^◌, ◌+◌, ◌-◌, ◌*◌, ◌<◌, ◌≤◌, ◌+ℤ◌}
use Rattle.std.proofs.Common.{◌*ℤ◌, ◌≤ℤ◌, ◌<ℤ◌, ◌≢◌, get_or, length, reverse, unsigned_abs, ap, arith, refl, rules, sym}
use Rattle.std.proofs.Common.{◌∙◌, inl, inr}
use Rattle.std.proofs.lemmas.Int.{ints, by_lt_z}
use Rattle.std.proofs.lemmas.Bool.{cases_lt}
use Rattle.std.proofs.lemmas.List.{append-nil, append_assoc, length-append, reverse-append}
use Rattle.std.proofs.lemmas.Nat.{mul-le}
use Rattle.sdm_num.proofs.Ints.{scale-+ℤ}
use Rattle.sdm_rules.specs.Slopes.{Slopes, SlopeMap, meaning_of}
use Rattle.sdm_rules.specs.Curves.{cell_at, cell_start}
use Rattle.sdm_laws.specs.Energy.{energy}
use Rattle.sdm_laws.proofs.OneBand.Cells.{cell_reaches, cell_stays}
use Rattle.sdm_laws.proofs.OneBand.Totals.{total-zero}
use Rattle.sdm_laws.proofs.OneBand.Segments.{slope_in_segment, energy_in_segment}
use Rattle.sdm_curve.specs.Maps.{AreStarts}
use Rattle.sdm_curve.proofs.Meanings.{rising_of}
use Rattle.sdm_curve.specs.Integrals.{slope_of}
use Rattle.sdm_rules.specs.declared.certificates.Mark.{Mark}
use Rattle.sdm_certify.specs.Segments.{AreLater, IsLeft}
use Rattle.sdm_certify.specs.Made.{way_energy, mark_before, changes, between}
use Rattle.sdm_motion.proofs.SegmentParts.{start_le, start_lt_out, start_next}
use Rattle.sdm_certify.proofs.Between.{IsFirstPast, way_split}
use Rattle.sdm_certify.proofs.MadeMarks.{past_last, count_to}

-- ---- cells with no change

-- a cell with the slope of the cell before it has no mark
changes_none : (on : Slopes) (band : ℕ) (y : Mark) (c : ℤ) (n : ℕ) →
    on.slope band (c +ℤ neg_ℤ (pos 1)) ≡ on.slope band c →
    changes on band y c (suc n) ≡ changes on band y (c +ℤ pos 1) n
changes_none on band y c n same = search (rules, same)

-- nor have so many of them one after the other
changes_skip : (on : Slopes) (band : ℕ) (y : Mark) (k n : ℕ) (c : ℤ) →
    ((j : ℕ) → j < k → on.slope band ((c +ℤ pos j) +ℤ neg_ℤ (pos 1)) ≡ on.slope band (c +ℤ pos j)) →
    changes on band y c (k + n) ≡ changes on band y (c +ℤ pos k) n
changes_skip on band y zero n c same =
    let e : c +ℤ pos 0 ≡ c = omega (arith, ints) in
    let e' : 0 + n ≡ n = omega arith in
    rw (e, e') refl
changes_skip on band y (suc k) n c same =
    let e : suc k + n ≡ suc (k + n) = omega arith in
    let c_is : (c +ℤ pos 1) +ℤ pos k ≡ c +ℤ pos (suc k) = omega (arith, ints) in
    let here_is : c +ℤ pos 0 ≡ c = omega (arith, ints) in
    let here : on.slope band (c +ℤ neg_ℤ (pos 1)) ≡ on.slope band c = rw here_is at (same 0 (omega arith)) in
    let rest = changes_skip on band y k n (c +ℤ pos 1)
    (λ j lt. (let j_is : (c +ℤ pos 1) +ℤ pos j ≡ c +ℤ pos (suc j) = omega (arith, ints) in
    rw j_is (same (suc j) (omega arith)))) in
    ap (changes on band y c) e
    ∙ (changes_none on band y c (k + n) here ∙ (rest ∙ ap (λ (z : ℤ). changes on band y z n) c_is))

-- a cell with another slope has one
changes_here : (on : Slopes) (band : ℕ) (y : Mark) (c : ℤ) (n : ℕ) →
    on.slope band (c +ℤ neg_ℤ (pos 1)) ≢ on.slope band c →
    changes on band y c (suc n) ≡ mark_before on band y c ∷ changes on band y (c +ℤ pos 1) n
changes_here on band y c n differ = search (rules, differ)

-- ---- segments

-- a cell that begins before there has the slope of the segment `i`
slope_before : (map : SlopeMap) (band i : ℕ) (at c : ℤ) → AreStarts map.starts → i < length map.starts →
    AreLater map.starts i at → (0 < i → get_or map.starts i (pos 0) ≤ℤ c) → cell_start 1 c <ℤ at →
    (meaning_of map).slope band c ≡ slope_of map band i
slope_before map band i at c starts known later low lt = slope_in_segment map band c i (rising_of map.starts starts)
    (record {
      known = known;
      low = low;
      high = λ k l n. start_lt_out 1 c (get_or map.starts k (pos 0)) (omega (arith, ints, later k l n));
    })

-- ---- the walk

-- no way takes no energy
none_at : (on : Slopes) (band : ℕ) (y : Mark) → y.energy ≡ y.energy + way_energy on band y.place y.place
none_at on band y =
    let none : unsigned_abs (y.place +ℤ neg_ℤ y.place) ≡ 0 = omega (arith, ints) in
    let nothing = total-zero (λ k. on.slope band (cell_at 1 (y.place +ℤ pos k))) in
    rw none (omega (arith, nothing))

-- The walk back from the knot `y` towards `x` has come to the segment `i` and to `at`, with the energy there; the marks
-- that
-- were put are those of all cells from `cell` on.
pub record IsBack (map : SlopeMap) (band i : ℕ) (x y : Mark) (at : ℤ) (energy from : ℕ)
    (old marks : List Mark) : Type 0 where
  pub known : i < length map.starts
  pub few : (length marks + i ≤ length old + from) × (i ≤ from)
  pub later : AreLater map.starts i at
  pub ahead : x.place <ℤ at
  pub inside : at ≤ℤ y.place
  pub energy_is : energy ≡ y.energy + way_energy (meaning_of map) band at y.place
  pub small : (pos energy +ℤ pos (27 * 10 ^ 15) *ℤ at) ≤ℤ (pos y.energy +ℤ pos (27 * 10 ^ 15) *ℤ y.place)
  pub cell : ℤ
  pub n : ℕ
  pub first : IsFirstPast cell at
  pub end : cell +ℤ pos n ≡ cell_at 1 (y.place +ℤ neg_ℤ (pos 1)) +ℤ pos 1
  pub list : marks ≡ old ++ reverse (changes (meaning_of map) band y cell n)

-- the walk begins at the knot
pub back_begin : (map : SlopeMap) (band i : ℕ) (x y : Mark) (at : ℤ) (energy : ℕ) (old : List Mark) →
    i < length map.starts → AreLater map.starts i y.place → at ≡ y.place → energy ≡ y.energy → x.place <ℤ y.place →
    IsBack map band i x y at energy i old old
back_begin map band i x y at energy old known later at_is energy_is lt = record {
  known = known;
  few = (omega arith, omega arith);
  later = λ k l n. omega (arith, ints, later k l n, at_is);
  ahead = omega (arith, ints);
  inside = omega (arith, ints);
  energy_is = rw at_is (energy_is ∙ none_at (meaning_of map) band y);
  small = rw (at_is, energy_is) (omega (arith, ints));
  cell = cell_at 1 (y.place +ℤ neg_ℤ (pos 1)) +ℤ pos 1;
  n = 0;
  first = rw at_is (past_last y.place);
  end = omega (arith, ints);
  list = sym (append-nil old);
}

-- one more mark going back
put_last : (old marks rest : List Mark) (x : Mark) → marks ≡ old ++ reverse rest →
    marks ++ (x ∷ []) ≡ old ++ reverse (x ∷ rest)
put_last old marks rest x e =
    ap (λ (ys : List Mark). ys ++ (x ∷ [])) e
    ∙ (append_assoc old (reverse rest) (x ∷ [])
    ∙ ap (λ (ys : List Mark). old ++ ys) (sym (reverse-append (x ∷ []) rest)))

-- with the segment itself at or past a place, all past the one before it are
later_down : (starts : List ℤ) (i : ℕ) (at at' : ℤ) → AreLater starts i at → at' ≤ℤ at →
    at' ≤ℤ cell_start 1 (get_or starts i (pos 0)) → AreLater starts (i - 1) at'
later_down starts i at at' h le here k l n =
    elim (cases_lt i k) [
      | inl lt ↦ omega (arith, ints, h k lt n)
      | inr ge ↦ (let e : k ≡ i = omega arith in rw e here)
    ]

-- the segment begins past the place
pub back_skip : (map : SlopeMap) (band i : ℕ) (x y : Mark) (at : ℤ) (energy from : ℕ) (old marks : List Mark) →
    at ≤ℤ cell_start 1 (get_or map.starts i (pos 0)) → IsBack map band i x y at energy from old marks →
    IsBack map band (i - 1) x y at energy from old marks
back_skip map band i x y at energy from old marks le h = record {
  known = omega (arith, h.known);
  few = (omega (arith, h.few.0), omega (arith, h.few.1));
  later = later_down map.starts i at at h.later (omega (arith, ints)) le;
  ahead = h.ahead;
  inside = h.inside;
  energy_is = h.energy_is;
  small = h.small;
  cell = h.cell;
  n = h.n;
  first = h.first;
  end = h.end;
  list = h.list;
}

-- a mark by its place and its energy
abbrev mark : ℤ → ℕ → Mark
mark p e = record { place = p; energy = e }

-- marks with the same place and energy are the same
same_mark : (p p' : ℤ) (e e' : ℕ) → p ≡ p' → e ≡ e' → mark p e ≡ mark p' e'
same_mark p p' e e' h k = cc

-- so many cells lie from the one after `a` to `c`
counted : (a c : ℤ) → a <ℤ c → (a +ℤ pos 1) +ℤ pos (unsigned_abs (c +ℤ neg_ℤ (a +ℤ pos 1))) ≡ c
counted a c lt = omega (arith, ints)

-- back to where the segment begins
module _ (map : SlopeMap) (band i : ℕ) (x y : Mark) (at border : ℤ) (energy gap rate more from : ℕ)
    (old marks : List Mark) (starts : AreStarts map.starts) (some : 0 < i)
    (border_is : border ≡ cell_start 1 (get_or map.starts i (pos 0))) (ahead : x.place <ℤ border)
    (gap_is : at ≡ border +ℤ pos gap) (gap_some : border <ℤ at)
    (rate_is : rate ≡ 27 * slope_of map band i) (rate_small : rate ≤ 27 * 10 ^ 15)
    (more_is : more ≡ energy + rate * gap) (h : IsBack map band i x y at energy from old marks) where
  -- the segment begins in a cell before those that were looked at
  begins_before : get_or map.starts i (pos 0) <ℤ h.cell
  begins_before =
      by_lt_z (get_or map.starts i (pos 0)) h.cell
      (λ (lt : get_or map.starts i (pos 0) <ℤ h.cell). lt)
      (λ (le : h.cell ≤ℤ get_or map.starts i (pos 0)). absurd
      (let k = start_le 1 h.cell (get_or map.starts i (pos 0)) le in
      omega (arith, ints, k, h.first.past, border_is, gap_some)))

  -- how many cells of the segment lie between
  abbrev over : ℕ
  over = unsigned_abs (h.cell +ℤ neg_ℤ (get_or map.starts i (pos 0) +ℤ pos 1))

  -- counted from the cell after its first
  over_is : (get_or map.starts i (pos 0) +ℤ pos 1) +ℤ pos over ≡ h.cell
  over_is = counted (get_or map.starts i (pos 0)) h.cell begins_before

  -- the cells of the segment have no change
  skipped : changes (meaning_of map) band y (get_or map.starts i (pos 0) +ℤ pos 1) (over + h.n) ≡ changes
      (meaning_of map) band y h.cell h.n
  skipped =
      let c = get_or map.starts i (pos 0) +ℤ pos 1 in
      let e = over_is in
      let slope_at : (z : ℤ) → get_or map.starts i (pos 0) ≤ℤ z → z <ℤ h.cell →
      (meaning_of map).slope band z ≡ slope_of map band i =
      λ z low lt. slope_before map band i at z starts h.known h.later (λ _. low) (h.first.before z lt) in
      changes_skip (meaning_of map) band y over h.n c
      (λ j lt. slope_at ((c +ℤ pos j) +ℤ neg_ℤ (pos 1)) (omega (arith, ints)) (omega (arith, ints))
      ∙ sym (slope_at (c +ℤ pos j) (omega (arith, ints)) (omega (arith, ints))))
      ∙ ap (λ (z : ℤ). changes (meaning_of map) band y z h.n) e

  -- its first cell has its slope
  slope_here : (meaning_of map).slope band (get_or map.starts i (pos 0)) ≡ slope_of map band i
  slope_here = slope_before map band i at (get_or map.starts i (pos 0)) starts h.known h.later
      (λ _. omega (arith, ints)) (omega (arith, ints))

  -- and the cell before that the slope of the segment before
  slope_there : (meaning_of map).slope band (get_or map.starts i (pos 0) +ℤ neg_ℤ (pos 1)) ≡ slope_of map band (i - 1)
  slope_there = slope_in_segment map band (get_or map.starts i (pos 0) +ℤ neg_ℤ (pos 1)) (i - 1)
      (rising_of map.starts starts) (record {
        known = omega (arith, h.known);
        low = λ more. omega (arith, ints, starts.rise (i - 1) i (omega arith) h.known);
        high = λ k l n. omega (arith, ints, rising_of map.starts starts i k (omega arith) n);
      })

  -- the energy where the segment begins
  energy_is : more ≡ y.energy + way_energy (meaning_of map) band border y.place
  energy_is =
      let split = way_split (meaning_of map) band border at y.place (omega (arith, ints)) h.inside in
      let gap_of : unsigned_abs (at +ℤ neg_ℤ border) ≡ gap = omega (arith, ints) in
      let used = energy_in_segment map band 1 i border at gap (omega arith) (rising_of map.starts starts)
      (record { known = h.known; low = λ _. omega (arith, ints); high = λ k l n. h.later k l n }) gap_is in
      let way : way_energy (meaning_of map) band border at ≡ 27 * (slope_of map band i * gap) = rw gap_of
      (omega (arith, used)) in
      let product : rate * gap ≡ 27 * slope_of map band i * gap = ap (λ (z : ℕ). z * gap) rate_is in
      omega (arith, h.energy_is, split, way, product, more_is)

  -- the walk has come to where the segment begins, with the marks of its cells put
  through : (marks' : List Mark) →
      marks' ≡ old ++ reverse (changes (meaning_of map) band y (get_or map.starts i (pos 0)) (suc (over + h.n))) →
      length marks' + (i - 1) ≤ length old + from → IsBack map band (i - 1) x y border more from old marks'
  through marks' list few =
      let e = over_is in
      let product = mul-le rate gap (27 * 10 ^ 15) gap rate_small (omega arith) in
      let scaled : pos (27 * 10 ^ 15) *ℤ at ≡ pos (27 * 10 ^ 15) *ℤ border +ℤ pos (27 * 10 ^ 15) *ℤ pos gap = rw gap_is
      (scale-+ℤ (27 * 10 ^ 15) border (pos gap)) in
      record {
        known = omega (arith, h.known);
        few = (few, omega (arith, h.few.1));
        later = later_down map.starts i at border h.later (omega (arith, ints)) (omega (arith, ints));
        ahead = ahead;
        inside = omega (arith, ints, h.inside);
        energy_is = energy_is;
        small = omega (arith, ints, h.small, scaled, product, more_is);
        cell = get_or map.starts i (pos 0);
        n = suc (over + h.n);
        first = record {
          past = omega (arith, ints);
          before = λ k lt. (let le = start_le 1 (k +ℤ pos 1) (get_or map.starts i (pos 0)) (omega (arith, ints)) in
              let next = start_next 1 k in omega (arith, ints, le, next, border_is));
        };
        end = omega (arith, ints, h.end);
        list = list;
      }

  -- where the slope does not change
  pub back_pass : slope_of map band (i - 1) ≡ slope_of map band i →
      IsBack map band (i - 1) x y border more from old marks
  back_pass same =
      let no_change = changes_none (meaning_of map) band y (get_or map.starts i (pos 0)) (over + h.n) (slope_there
      ∙ (same ∙ sym slope_here)) in
      through marks (h.list ∙ ap (λ (ys : List Mark). old ++ reverse ys) (sym (no_change ∙ skipped)))
      (omega (arith, h.few.0))

  -- where it does
  pub back_mark : (z : Mark) → slope_of map band (i - 1) ≢ slope_of map band i → z.place ≡ border → z.energy ≡ more →
      IsBack map band (i - 1) x y border more from old (marks ++ (z ∷ []))
  back_mark z differ place_is z_energy =
      let z_is : z ≡ mark_before (meaning_of map) band y (get_or map.starts i (pos 0)) = same_mark z.place
      (cell_start 1 (get_or map.starts i (pos 0))) z.energy _ (place_is ∙ border_is) (z_energy
      ∙ (energy_is ∙ ap (λ (p : ℤ). y.energy + way_energy (meaning_of map) band p y.place) border_is)) in
      let change = changes_here (meaning_of map) band y (get_or map.starts i (pos 0)) (over + h.n)
      (λ e. differ (sym slope_there ∙ (e ∙ slope_here))) in
      let all = change
      ∙ (ap (λ (w : Mark). w ∷ changes (meaning_of map) band y (get_or map.starts i (pos 0) +ℤ pos 1) (over + h.n))
      (sym z_is) ∙ ap (λ (ys : List Mark). z ∷ ys) skipped) in
      through (marks ++ (z ∷ [])) (put_last old marks (changes (meaning_of map) band y h.cell h.n) z h.list
      ∙ ap (λ (ys : List Mark). old ++ reverse ys) (sym all)) (let n = length-append marks (z ∷ []) in
      omega (arith, n, h.few.0, some))

-- at the end of the band the earlier knot is put
pub back_end : (map : SlopeMap) (band i : ℕ) (x y : Mark) (at : ℤ) (energy from : ℕ) (old marks : List Mark) →
    AreStarts map.starts → (0 < i → cell_start 1 (get_or map.starts i (pos 0)) ≤ℤ x.place) →
    IsBack map band i x y at energy from old marks →
    marks ++ (x ∷ []) ≡ old ++ reverse (x ∷ between (meaning_of map) band x y)
back_end map band i x y at energy from old marks starts low h =
    let b = cell_at 1 x.place in
    let c = b +ℤ pos 1 in
    let k = unsigned_abs (h.cell +ℤ neg_ℤ c) in
    let past : b <ℤ h.cell = cell_stays 1 h.cell x.place (omega arith) (omega (arith, ints, h.first.past, h.ahead)) in
    let k_is : c +ℤ pos k ≡ h.cell = counted b h.cell past in
    let count = count_to x.place y.place (omega (arith, ints, h.ahead, h.inside)) in
    let n_is : unsigned_abs (cell_at 1 (y.place +ℤ neg_ℤ (pos 1)) +ℤ neg_ℤ b) ≡ k + h.n = omega
    (arith, ints, h.end, count) in
    let slope_at : (z : ℤ) → b ≤ℤ z → z <ℤ h.cell → (meaning_of map).slope band z ≡ slope_of map band i =
    λ z le lt. slope_before map band i at z starts h.known h.later
    (λ some. omega (arith, ints, cell_reaches 1 (get_or map.starts i (pos 0)) x.place (omega arith) (low some), le))
    (h.first.before z lt) in
    let skip = changes_skip (meaning_of map) band y k h.n c
    (λ j lt. slope_at ((c +ℤ pos j) +ℤ neg_ℤ (pos 1)) (omega (arith, ints)) (omega (arith, ints))
    ∙ sym (slope_at (c +ℤ pos j) (omega (arith, ints)) (omega (arith, ints)))) in
    let same : changes (meaning_of map) band y h.cell h.n ≡ between (meaning_of map) band x y = sym
    (ap (changes (meaning_of map) band y c) n_is
    ∙ (skip ∙ ap (λ (z : ℤ). changes (meaning_of map) band y z h.n) k_is)) in
    put_last old marks (changes (meaning_of map) band y h.cell h.n) x h.list
    ∙ ap (λ (ys : List Mark). old ++ reverse (x ∷ ys)) same

-- and the walk through the next band goes on from here
pub back_left : (map : SlopeMap) (band i : ℕ) (x y : Mark) (at : ℤ) (energy from : ℕ) (old marks marks' : List Mark) →
    marks' ≡ marks ++ (x ∷ []) → IsBack map band i x y at energy from old marks → IsLeft map x.place from i old marks'
back_left map band i x y at energy from old marks marks' put h =
    let n = length-append marks (x ∷ []) in
    record {
      known = h.known;
      later = λ k l m. omega (arith, ints, h.later k l m, h.ahead);
      few = rw put (omega (arith, n, h.few.0));
    }
