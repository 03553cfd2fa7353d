-- All changes in order, each once, are the first cells of stretches in each of which the same lies under the train:
-- from the first cell of its stretch up to a cell no change lies between.
use Rattle.std.proofs.Common.{◌≡◌, ℕ, zero, suc, ℤ, pos, negsuc, List, [], ◌∷◌, ◌++◌, map, All, Contains, length}
use Rattle.std.proofs.Common.{get_or, unsigned_abs, ◌+◌, ◌*◌, ◌<◌, ◌≤◌, ◌+ℤ◌, ◌≤ℤ◌, ◌<ℤ◌, ap, sym, refl, ◌∙◌, arith}
use Rattle.std.proofs.Common.{inl, inr, length-append}
use Rattle.std.specs.Int.{int_max}
use Rattle.std.specs.List.Sorted.{IsStrictlyIncreasing}
use Rattle.std.proofs.lemmas.Int.{ints, clamps, by_lt_z}
use Rattle.std.proofs.lemmas.Bool.{cases_lt}
use Rattle.std.proofs.lemmas.List.{length-map, get_or_default}
use Rattle.std.proofs.lemmas.List.Elements.{All-nil, All-cons, All-head, All-tail, All-append, All-map, All-contains}
use Rattle.std.proofs.lemmas.List.Elements.{Contains-get_or, Contains-append_left, Contains-append_right}
use Rattle.std.proofs.lemmas.List.Kept.{AllPairs-from_increasing}
use Rattle.std.proofs.Math.ListN.{get_or-map}
use Rattle.sdm_rules.specs.declared.data.Area.{Area}
use Rattle.sdm_rules.specs.Data.{TrackData}
use Rattle.sdm_rules.specs.Decelerations.{under_train}
use Rattle.sdm_rules.specs.Slopes.{segment_of}
use Rattle.sdm_rules.specs.Ranges.{longest_track, longest_train, most_areas, most_gradients}
use Rattle.sdm_laws.proofs.OneBand.Segments.{in_segment, IsInSegment}
use Rattle.sdm_track.specs.declared.under_train.Segment.{Segment}
use Rattle.sdm_track.specs.Ranges.{IsTrack, IsArea, AreAreas}
use Rattle.sdm_track.specs.Segments.{AreSegments}
use Rattle.sdm_curve.specs.Maps.{AreStarts}
use Rattle.sdm_curve.proofs.Meanings.{rising_of, start_least}
use Rattle.sdm_decel.specs.StretchCells.{AreGradientsUnder, gradient_starts, area_ends, AreStretches}
use Rattle.sdm_decel.proofs.Sizes.{nat_is}
use Rattle.sdm_decel.proofs.Sides.{IsBegun, AreBegun, under_same}

-- ---- the cells of one kind

-- a whole number from 0 up to `m` is a natural up to `m`
nat_near : (z : ℤ) (m : ℕ) → pos 0 ≤ℤ z → z ≤ℤ pos m → unsigned_abs z ≤ m
nat_near (pos n) m low high = omega (arith, ints)
nat_near (negsuc n) m low high = absurd (omega (arith, ints))

-- the start of each gradient is among the starts
has_gradient : (segments : List Segment) (k : ℕ) (d : Segment) → k < length segments →
    Contains (gradient_starts segments) (unsigned_abs (get_or segments k d).start)
has_gradient (s ∷ more) zero d lt = (0, omega arith, refl)
has_gradient (s ∷ more) (suc k) d lt =
    Contains-append_right (unsigned_abs s.start ∷ []) (gradient_starts more) _ (has_gradient more k d (omega arith))
has_gradient [] k d lt = absurd (omega arith)

-- the start of each area is among the ends of areas
has_start : (length_cm : ℕ) (areas : List Area) (k : ℕ) (d : Area) → k < length areas →
    Contains (area_ends length_cm areas) (unsigned_abs (get_or areas k d).start)
has_start length_cm [] k d lt = absurd (omega arith)
has_start length_cm (a ∷ more) zero d lt = (0, omega arith, refl)
has_start length_cm (a ∷ more) (suc k) d lt = Contains-append_right
    (unsigned_abs a.start ∷ unsigned_abs (a.end +ℤ pos length_cm) ∷ []) (area_ends length_cm more) _
    (has_start length_cm more k d (omega arith))

-- and so is its end, later by the train length
has_end : (length_cm : ℕ) (areas : List Area) (k : ℕ) (d : Area) → k < length areas →
    Contains (area_ends length_cm areas) (unsigned_abs ((get_or areas k d).end +ℤ pos length_cm))
has_end length_cm [] k d lt = absurd (omega arith)
has_end length_cm (a ∷ more) zero d lt = (1, omega arith, refl)
has_end length_cm (a ∷ more) (suc k) d lt = Contains-append_right
    (unsigned_abs a.start ∷ unsigned_abs (a.end +ℤ pos length_cm) ∷ []) (area_ends length_cm more) _
    (has_end length_cm more k d (omega arith))

-- ---- how many there are, and how far

-- two for each area
length_areas : (length_cm : ℕ) (areas : List Area) → length (area_ends length_cm areas) ≡ 2 * length areas
length_areas length_cm [] = refl
length_areas length_cm (a ∷ more) = omega (arith, length_areas length_cm more)

-- a cell up to the longest train past the longest track
abbrev IsNear : ℕ → Type 0
IsNear x = x ≤ longest_track + longest_train

-- the starts of gradients are near
near_gradients : (segments : List Segment) → AreSegments segments → All IsNear (gradient_starts segments)
near_gradients segments h = All-map IsNear (λ (s : Segment). unsigned_abs s.start) segments
    (λ k d l. let s = h.each k d l
    in nat_near _ (longest_track + longest_train) s.not_before (let past = s.not_past in omega (arith, ints)))

-- the ends of areas are near
near_areas : (track_cm : ℤ) (length_cm : ℕ) (areas : List Area) → track_cm ≤ℤ pos longest_track →
    length_cm ≤ longest_train → All (IsArea track_cm) areas → All IsNear (area_ends length_cm areas)
near_areas track_cm length_cm [] long short each = All-nil IsNear
near_areas track_cm length_cm (a ∷ more) long short each =
    let here = All-head (IsArea track_cm) a more each in
    let before = here.not_before in
    let some = here.some_cell in
    let ends = here.on_track in
    All-cons IsNear (unsigned_abs a.start) (unsigned_abs (a.end +ℤ pos length_cm) ∷ area_ends length_cm more)
    (nat_near a.start (longest_track + longest_train) before (omega (arith, ints)))
    (All-cons IsNear (unsigned_abs (a.end +ℤ pos length_cm)) (area_ends length_cm more)
    (nat_near (a.end +ℤ pos length_cm) (longest_track + longest_train) (omega (arith, ints)) (omega (arith, ints)))
    (near_areas track_cm length_cm more long short (All-tail (IsArea track_cm) a more each)))

-- ---- the cells in order

-- a cell of the list is one of it as a whole number
has_nat : (cells : List ℕ) (x : ℕ) → Contains cells x → Contains (map pos cells) (pos x)
has_nat cells x h =
    let lt = h.1 in
    let there : get_or cells h.0 0 ≡ x = get_or_default cells h.0 0 x lt ∙ h.2 in
    let long : h.0 < length (map pos cells) = rw length-map lt in
    (h.0, long, get_or_default (map pos cells) h.0 (pos x) (pos 0) long ∙ get_or-map pos cells h.0 0 ∙ ap pos there)

-- cells that rise and have 0 among them are starts of segments
starts_are : (cells : List ℕ) → IsStrictlyIncreasing cells → Contains cells 0 → AreStarts (map pos cells)
starts_are cells rise zero_in = record {
  some = rw length-map (omega (arith, zero_in.1));
  first = get_or-map pos cells 0 0 ∙ ap pos (first_is zero_in.0 zero_in.1 zero_in.2);
  rise = λ i j l m. (let known : j < length cells = rw length-map at m in let r =
      AllPairs-from_increasing cells rise i j 0 l known
      in rw (get_or-map pos cells i 0, get_or-map pos cells j 0) (omega (arith, ints)));
}
  where
    first_is : (k : ℕ) → k < length cells → get_or cells k 0 ≡ 0 → get_or cells 0 0 ≡ 0
    first_is zero lt is = is
    first_is (suc k) lt is = (let r = AllPairs-from_increasing cells rise 0 (suc k) 0 (omega arith) lt in omega arith)

-- no cell that is a start lies past the first cell of a segment up to a cell of it
begun_is : (starts : List ℤ) (c : ℤ) (i : ℕ) (x b : ℤ) → AreStarts starts → IsInSegment starts c i →
    Contains starts x → x ≡ b → IsBegun (get_or starts i (pos 0)) c b
begun_is starts c i x b h here has is = record {
  begun = λ le.
      let k = has.0 in
      let at : get_or starts k (pos 0) ≡ x = get_or_default starts k (pos 0) x has.1 ∙ has.2 in
      elim (cases_lt i k) [
        | inl lt ↦ (let past = here.high k lt has.1 in absurd (omega (arith, ints)))
        | inr ge ↦ (let r = rising_of starts h k i ge here.known in omega (arith, ints))
      ];
}

-- ---- the stretches

-- all cells, as they are gathered
pub gathered : (none first gradients adhesion all : List ℕ) (segments : List Segment) (length_cm : ℕ)
    (areas no_special : List Area) →
    none ≡ [] → first ≡ none ++ 0 ∷ [] → gradients ≡ first ++ gradient_starts segments →
    adhesion ≡ gradients ++ area_ends length_cm areas → all ≡ adhesion ++ area_ends length_cm no_special →
    all ≡ (0 ∷ []) ++ gradient_starts segments ++ area_ends length_cm areas ++ area_ends length_cm no_special
gathered none first gradients adhesion all segments length_cm areas no_special none_is first_is gradients_is
    adhesion_is all_is = rw (all_is, adhesion_is, gradients_is, first_is, none_is) refl

-- areas of a track lie on the longest one
pub on_longest : (track_cm : ℤ) (listed areas : List Area) → track_cm ≤ℤ pos longest_track → AreAreas track_cm listed →
    areas ≡ listed → All (IsArea (pos longest_track)) areas
on_longest track_cm listed areas long in_range is =
    rw is (λ k d l. let a = in_range.each k d l in record {
      not_before = a.not_before;
      some_cell =
          a.some_cell;
      on_track = omega (arith, ints, a.on_track, long);
    })

module _ (track : TrackData) (length_cm : ℕ) (segments : List Segment) (all cells : List ℕ)
    (given : AreGradientsUnder track length_cm segments) (in_range : IsTrack track) (short : length_cm ≤ longest_train)
    (all_is : all ≡ (0 ∷ []) ++ gradient_starts segments ++ area_ends length_cm track.areas
    ++ area_ends length_cm track.no_special) where
  -- the cells but for those of the areas
  abbrev level : List ℕ
  level = (0 ∷ []) ++ gradient_starts segments

  -- all cells are near
  near_all : All IsNear all
  near_all = rw all_is (All-append IsNear (level ++ area_ends length_cm track.areas) _
      (All-append IsNear level _
      (All-append IsNear (0 ∷ []) _ (All-cons IsNear 0 [] (omega arith) (All-nil IsNear))
      (near_gradients segments given.in_range))
      (near_areas track.length_cm length_cm track.areas in_range.longest short in_range.areas.each))
      (near_areas track.length_cm length_cm track.no_special in_range.longest short in_range.no_special.each))

  -- and no more than the lists allow
  few_all : length all ≤ 2 * most_gradients + 4 * most_areas
  few_all = rw all_is (omega (
    arith,
    given.in_range.few,
    in_range.areas.few,
    in_range.no_special.few,
    length_areas length_cm track.areas,
    length_areas length_cm track.no_special,
    length-append (level ++ area_ends length_cm track.areas) (area_ends length_cm track.no_special),
    length-append level (area_ends length_cm track.areas),
    length-map segments (λ (s : Segment). unsigned_abs s.start),
  ))

  -- what is among the cells but for those of the areas is among all
  has_level : (x : ℕ) → Contains level x → Contains all x
  has_level x h = rw all_is (Contains-append_left (level ++ area_ends length_cm track.areas) _ x
      (Contains-append_left level (area_ends length_cm track.areas) x h))

  -- cell 0 is among them
  has_zero : Contains all 0
  has_zero = has_level 0 (Contains-append_left (0 ∷ []) (gradient_starts segments) 0 (0, omega arith, refl))

  -- so is the start of each gradient
  has_segment : (k : ℕ) (d : Segment) → k < length segments → Contains all (unsigned_abs (get_or segments k d).start)
  has_segment k d lt =
      has_level _ (Contains-append_right (0 ∷ []) (gradient_starts segments) _ (has_gradient segments k d lt))

  -- each end of an area of reduced adhesion
  has_adhesion : (x : ℕ) → Contains (area_ends length_cm track.areas) x → Contains all x
  has_adhesion x h = rw all_is (Contains-append_left (level ++ area_ends length_cm track.areas) _ x
      (Contains-append_right level (area_ends length_cm track.areas) x h))

  -- and each of one where the special brake isn't used
  has_no_special : (x : ℕ) → Contains (area_ends length_cm track.no_special) x → Contains all x
  has_no_special x h = rw all_is (Contains-append_right (level ++ area_ends length_cm track.areas) _ x h)

  -- what holds of all cells holds of them in order
  pub near_cells : ((x : ℕ) → Contains cells x → Contains all x) → All IsNear cells
  near_cells from = λ k d l. All-contains IsNear all (get_or cells k d) near_all (from _ (Contains-get_or cells k d l))

  module _ (rise : IsStrictlyIncreasing cells) (keeps : (x : ℕ) → Contains all x → Contains cells x)
      (from : (x : ℕ) → Contains cells x → Contains all x) (fewer : length cells ≤ length all) where
    -- in order they are starts of segments
    starts : AreStarts (map pos cells)
    starts = starts_are cells rise (keeps 0 has_zero)

    -- each cell lies in its segment
    here : (c : ℤ) → IsInSegment (map pos cells) c (segment_of (map pos cells) c)
    here c = in_segment (map pos cells) c (rising_of _ starts) starts.some

    -- the first cell of the stretch of a cell
    abbrev first_of : ℤ → ℤ
    first_of c = get_or (map pos cells) (segment_of (map pos cells) c) (pos 0)

    -- what changes in one of the cells has begun at a cell only where it has at the first one of its stretch
    begun_at : (c : ℤ) (x : ℕ) (b : ℤ) → Contains all x → pos x ≡ b → IsBegun (first_of c) c b
    begun_at c x b h is = begun_is (map pos cells) c (segment_of (map pos cells) c) (pos x) b starts (here c)
        (has_nat cells x (keeps x h)) is

    -- so have the ends of areas
    areas_begun : (c : ℤ) (areas : List Area) → AreAreas track.length_cm areas →
        ((x : ℕ) → Contains (area_ends length_cm areas) x → Contains all x) → AreBegun (first_of c) c length_cm areas
    areas_begun c areas listed has = record {
      starts = λ k d l. begun_at c _ _ (has _ (has_start length_cm areas k d l))
          (nat_is _ (listed.each k d l).not_before);
      ends = λ k d l. begun_at c _ _ (has _ (has_end length_cm areas k d l))
          (nat_is _ (let a = listed.each k d l in let before = a.not_before in let some =
          a.some_cell in omega (arith, ints)));
    }

    -- from the first cell of its stretch up to a cell the same lies under the train
    same_from : (c : ℤ) → first_of c ≤ℤ c →
        under_train track (pos length_cm) c ≡ under_train track (pos length_cm) (first_of c)
    same_from c le =
        under_same (first_of c) c le track length_cm segments given
        (λ k d l. begun_at c _ _ (has_segment k d l) (nat_is _ (given.in_range.each k d l).not_before))
        (areas_begun c track.areas in_range.areas has_adhesion)
        (areas_begun c track.no_special in_range.no_special has_no_special)

    -- a cell from 0 on lies at the first cell of its segment or past it
    from_start : (c : ℤ) (i : ℕ) → pos 0 ≤ℤ c → IsInSegment (map pos cells) c i → get_or (map pos cells) i (pos 0) ≤ℤ c
    from_start c zero le h = (let first = starts.first in omega (arith, ints))
    from_start c (suc i) le h = h.low (omega arith)

    -- a cell before 0 lies in the first segment
    first_start : (c : ℤ) (i : ℕ) → c <ℤ pos 0 → IsInSegment (map pos cells) c i →
        pos 0 ≡ get_or (map pos cells) i (pos 0)
    first_start c zero lt h = sym starts.first
    first_start c (suc i) lt h =
        absurd (omega (arith, ints, h.low (omega arith), start_least (map pos cells) (suc i) starts h.known))

    -- of every cell, also of one before 0
    same_at : (c : ℤ) → under_train track (pos length_cm) (int_max c (pos 0))
        ≡ under_train track (pos length_cm) (get_or (map pos cells) (segment_of (map pos cells) c) (pos 0))
    same_at c =
        by_lt_z c (pos 0)
        (λ (lt : c <ℤ pos 0).
        let is : int_max c (pos 0) ≡ pos 0 = omega (arith, ints, clamps) in
        ap (λ (z : ℤ). under_train track (pos length_cm) z) (is ∙ first_start c _ lt (here c)))
        (λ (ge : pos 0 ≤ℤ c).
        let is : int_max c (pos 0) ≡ c = omega (arith, ints, clamps) in
        ap (λ (z : ℤ). under_train track (pos length_cm) z) is ∙ same_from c (from_start c _ ge (here c)))

    -- so the cells in order are the first ones of stretches
    pub stretches_are : AreStretches track (pos length_cm) (map pos cells)
    stretches_are = record {
      starts = starts;
      few = rw length-map (omega (arith, few_all));
      near = All-map (λ (s : ℤ). s ≤ℤ pos (longest_track + longest_train)) pos cells
          (λ k d l. let near = near_cells from k d l in omega (arith, ints));
      same = same_at;
    }
