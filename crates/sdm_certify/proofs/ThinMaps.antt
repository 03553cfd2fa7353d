-- A segment that isn't written has the slopes of the last written one before it, so the written segments alone mean
-- what the whole map does.
use Rattle.std.proofs.Common.{◌≡◌, ℕ, zero, suc, ℤ, pos, Bool, true, false, List, [], ◌∷◌, ◌+◌, ◌<◌, ◌≤◌}
use Rattle.std.proofs.Common.{◌+ℤ◌, ◌≤ℤ◌, ◌<ℤ◌, get_or, length, map, refl, ap, sym, ◌∙◌, arith, inl, inr}
use Rattle.std.specs.Prelude.{◌==◌, not, if◌then◌else◌}
use Rattle.std.proofs.lemmas.Bool.{and_parts, cases_lt, eqb-true, true≢false}
use Rattle.std.proofs.lemmas.Int.{ints, by_lt_z}
use Rattle.std.proofs.lemmas.List.{get_or-map, length-map}
use Rattle.sdm_num.proofs.Ints.{scale-pos}
use Rattle.sdm_rules.specs.Slopes.{SlopeMap, bands_of, meaning_of, segment_of, variation}
use Rattle.sdm_laws.proofs.OneBand.Segments.{IsInSegment, in_segment, segment_is}
use Rattle.sdm_curve.specs.Integrals.{slope_of}
use Rattle.sdm_curve.specs.Maps.{AreAccepted, AreStarts, IsKeptMap, handed_in}
use Rattle.sdm_curve.proofs.Cells.{meaning_is, segment_of_start, slope_past}
use Rattle.sdm_curve.proofs.Meanings.{rising_of, segment_known, slope_kept, slope_least, usable_of}
use Rattle.sdm_certify.specs.WrittenLines.{are_same_slopes, first_cell, is_written, last_start, written, written_from}
use Rattle.sdm_certify.proofs.MapBack.{AreCells}
use Rattle.sdm_certify.proofs.MapsMade.{made_from, made_past, made_slope}

-- ---- cells that rise

-- the later ones are past the earlier ones
cells_above : (least greatest : ℤ) (cells : List ℤ) → AreCells least greatest cells → (k : ℕ) → k < length cells →
    least ≤ℤ get_or cells k (pos 0)
cells_above least greatest [] h k known = absurd (omega (arith, known))
cells_above least greatest (cell ∷ cells) h zero known = h.0
cells_above least greatest (cell ∷ cells) h (suc k) known =
    let low = h.0 in
    omega (arith, ints, low, cells_above (cell +ℤ pos 1) (pos last_start) cells h.2 k (omega (arith, known)))

cells_rise : (least greatest : ℤ) (cells : List ℤ) → AreCells least greatest cells → (j k : ℕ) → j < k →
    k < length cells → get_or cells j (pos 0) <ℤ get_or cells k (pos 0)
cells_rise least greatest [] h j k lt known = absurd (omega (arith, known))
cells_rise least greatest (cell ∷ cells) h j zero lt known = absurd (omega (arith, lt))
cells_rise least greatest (cell ∷ cells) h zero (suc k) lt known =
    omega (arith, ints, cells_above (cell +ℤ pos 1) (pos last_start) cells h.2 k (omega (arith, known)))
cells_rise least greatest (cell ∷ cells) h (suc j) (suc k) lt known =
    cells_rise (cell +ℤ pos 1) (pos last_start) cells h.2 j k (omega (arith, lt)) (omega (arith, known))

module _ (m : SlopeMap) (kept : IsKeptMap (handed_in m)) where
  abbrev bands : ℕ
  bands = bands_of m.uppers

  abbrev starts : AreStarts m.starts
  starts = kept.well_formed.starts

  abbrev pub cells : List ℤ
  cells = map (first_cell m) (written m)

  -- ---- the cells of written segments

  -- no more are written than there are
  pub few_written : (i left : ℕ) → length (written_from m i left) ≤ left
  few_written i zero = omega arith
  few_written i (suc left) = by_written (is_written m i) (few_written (suc i) left)
    where
      by_written : (b : Bool) → length (written_from m (suc i) left) ≤ left →
          length (if b then i ∷ written_from m (suc i) left else written_from m (suc i) left) ≤ suc left
      by_written true h = omega (arith, h)
      by_written false h = omega (arith, h)

  -- each is one of the map, at `i` or past it
  written_known : (i left k : ℕ) → k < length (written_from m i left) →
      (i ≤ get_or (written_from m i left) k 0) × (get_or (written_from m i left) k 0 < i + left)
  written_known i zero k known = absurd (omega (arith, known))
  written_known i (suc left) k known = by_written (is_written m i) k known (λ k known.
      let h = written_known (suc i) left k known in (omega (arith, h.0), omega (arith, h.1)))
    where
      by_written : (b : Bool) (k : ℕ) →
          k < length (if b then i ∷ written_from m (suc i) left else written_from m (suc i) left) →
          ((k : ℕ) → k < length (written_from m (suc i) left) →
          (i ≤ get_or (written_from m (suc i) left) k 0) × (get_or (written_from m (suc i) left) k 0 < i + suc left)) →
          (i ≤ get_or (if b then i ∷ written_from m (suc i) left else written_from m (suc i) left) k 0)
          × (get_or (if b then i ∷ written_from m (suc i) left else written_from m (suc i) left) k 0 < i + suc left)
      by_written true zero known later = (omega arith, omega arith)
      by_written true (suc k) known later = later k (omega (arith, known))
      by_written false k known later = later k known

  -- no segment begins past the last cell that may
  abbrev pub AreNear : Type 0
  AreNear = (i : ℕ) → i < length m.starts → first_cell m i ≤ℤ pos last_start

  -- they rise
  written_cells : AreNear → (least : ℤ) (i left : ℕ) → i + left ≡ length m.starts →
      (0 < left → least ≤ℤ first_cell m i) →
      AreCells least (pos last_start) (map (first_cell m) (written_from m i left))
  written_cells near least i zero all from = tt
  written_cells near least i (suc left) all from =
      by_written (is_written m i) (from (omega arith)) (near i (omega (arith, all)))
      (written_cells near (first_cell m i +ℤ pos 1) (suc i) left (omega (arith, all)) next)
      (written_cells near least (suc i) left (omega (arith, all)) (λ some.
      let rise = next some in let low = from (omega arith) in omega (arith, ints, rise, low)))
    where
      next : 0 < left → (first_cell m i +ℤ pos 1) ≤ℤ first_cell m (suc i)
      next some = (let rise = starts.rise i (suc i) (omega arith) (omega (arith, all, some)) in omega (arith, ints, rise))

      by_written : (b : Bool) → least ≤ℤ first_cell m i → first_cell m i ≤ℤ pos last_start →
          AreCells (first_cell m i +ℤ pos 1) (pos last_start) (map (first_cell m) (written_from m (suc i) left)) →
          AreCells least (pos last_start) (map (first_cell m) (written_from m (suc i) left)) →
          AreCells least (pos last_start)
          (map (first_cell m) (if b then i ∷ written_from m (suc i) left else written_from m (suc i) left))
      by_written true low high after same = (low, high, after)
      by_written false low high after same = same

  -- the first of them is cell 0
  pub are_cells : AreNear → AreCells (pos 0) (pos 0) cells
  are_cells near = of_all (length m.starts) (λ k. k) refl
    where
      of_all : (n : ℕ) → (0 < length m.starts → 0 < n) → length m.starts ≡ n →
          AreCells (pos 0) (pos 0) (map (first_cell m) (written_from m 0 n))
      of_all zero some is = absurd (let k = some starts.some in omega (arith, k))
      of_all (suc n) some is =
          let first = starts.first in (
            omega (arith, ints, first),
            omega (arith, ints, first),
            written_cells near (first_cell m 0 +ℤ pos 1) 1 n (omega (arith, is)) (λ more.
                let rise = starts.rise 0 1 (omega arith) (omega (arith, is, more)) in omega (arith, ints, rise)),
          )

  -- ---- the segment of a cell

  -- from one segment up to another all have the slopes of the first
  abbrev AreAlike : ℕ → ℕ → Type 0
  AreAlike w i = (band u : ℕ) → band < bands → w ≤ u → u < i → slope_of m band u ≡ slope_of m band w

  -- one is alike itself
  one_alike : (u : ℕ) → AreAlike u (suc u)
  one_alike u band u' in_band low high = let same : u' ≡ u = omega (arith, low, high) in rw same refl

  -- of the cells that begin these segments, the last one at a cell or before it begins one with the slopes there
  record IsFound (ws : List ℕ) (c : ℤ) : Type 0 where
    k : ℕ
    inside : IsInSegment (map (first_cell m) ws) c k
    alike : (band : ℕ) → band < bands → slope_of m band (get_or ws k 0) ≡ slope_of m band (segment_of m.starts c)

  -- where a segment isn't written, its slopes are those of the one before
  same_before : (i n band : ℕ) → are_same_slopes m i n ≡ true → band < n →
      slope_of m band (suc i) ≡ slope_of m band i
  same_before i zero band same known = absurd (omega (arith, known))
  same_before i (suc n) band same known =
      let parts = and_parts (are_same_slopes m i n) (slope_of m n i == slope_of m n (suc i)) same in
      elim (cases_lt band n) [
        | inl before ↦ same_before i n band parts.0 before
        | inr last ↦
            let is : band ≡ n = omega (arith, last, known) in
            rw is (sym (eqb-true _ _ parts.1))
      ]

  abbrev rising : (i j : ℕ) → i ≤ j → j < length m.starts → get_or m.starts i (pos 0) ≤ℤ get_or m.starts j (pos 0)
  rising = rising_of m.starts starts

  -- past the written segment `w`, those from `suc v` on
  found : (w v left : ℕ) (c : ℤ) → suc v + left ≡ length m.starts → w ≤ v → AreAlike w (suc v) →
      w ≤ segment_of m.starts c → IsFound (w ∷ written_from m (suc v) left) c
  found w v zero c all past alike from = record {
    k = 0;
    inside = record {
      known = omega arith;
      low = λ some. absurd (omega (arith, some));
      high = λ k later known. absurd (omega (arith, later, known));
    };
    alike = λ band in_band. sym (alike band (segment_of m.starts c) in_band from
        (let known = segment_known m.starts c starts in omega (arith, known, all)));
  }
  found w v (suc left) c all past alike from =
      let at = in_segment m.starts c rising starts.some in
      by_lt_z c (first_cell m (suc v))
      (λ (before : c <ℤ first_cell m (suc v)). record {
        k = 0;
        inside = record {
          known = omega arith;
          low = λ some. absurd (omega (arith, some));
          high = λ k later known. past_it before k later known;
        };
        alike = λ band in_band. sym (alike band (segment_of m.starts c) in_band from (earlier before at));
      })
      (λ (begun : first_cell m (suc v) ≤ℤ c).
      by_written (is_written m (suc v)) refl begun (not_before begun at)
      (λ from'. found (suc v) (suc v) left c (omega (arith, all)) (omega arith) (one_alike (suc v)) from')
      (λ alike'. found w (suc v) left c (omega (arith, all)) (omega (arith, past)) alike' from))
    where
      -- no later cell is at or before it
      past_it : c <ℤ first_cell m (suc v) → (k : ℕ) → 0 < k →
          k < length (map (first_cell m) (w ∷ written_from m (suc v) (suc left))) →
          c <ℤ get_or (map (first_cell m) (w ∷ written_from m (suc v) (suc left))) k (pos 0)
      past_it before zero later known = absurd (omega (arith, later))
      past_it before (suc k) later known =
          let ws = written_from m (suc v) (suc left) in
          let count = length-map ws (first_cell m) in
          let here : k < length ws = omega (arith, known, count) in
          let is = written_known (suc v) (suc left) k here in
          let low = rising (suc v) (get_or ws k 0) is.0 (omega (arith, is.1, all)) in
          rw (get_or-map (first_cell m) ws k 0 (pos 0) here) (omega (arith, ints, before, low))

      -- so its segment is an earlier one
      earlier : c <ℤ first_cell m (suc v) → IsInSegment m.starts c (segment_of m.starts c) →
          segment_of m.starts c < suc v
      earlier before at = elim (cases_lt (segment_of m.starts c) (suc v)) [
        | inl lt ↦ lt
        | inr ge ↦ absurd (
            let known = at.known in
            let low = at.low (omega (arith, ge)) in
            let rise = rising (suc v) (segment_of m.starts c) ge known in
            omega (arith, ints, before, low, rise))
      ]

      -- or this one or a later one
      not_before : first_cell m (suc v) ≤ℤ c → IsInSegment m.starts c (segment_of m.starts c) →
          suc v ≤ segment_of m.starts c
      not_before begun at = elim (cases_lt (segment_of m.starts c) (suc v)) [
        | inl lt ↦ absurd (let high = at.high (suc v) lt (omega (arith, all)) in omega (arith, ints, begun, high))
        | inr ge ↦ ge
      ]

      by_written : (b : Bool) → is_written m (suc v) ≡ b → first_cell m (suc v) ≤ℤ c → suc v ≤ segment_of m.starts c →
          (suc v ≤ segment_of m.starts c → IsFound (suc v ∷ written_from m (suc (suc v)) left) c) →
          (AreAlike w (suc (suc v)) → IsFound (w ∷ written_from m (suc (suc v)) left) c) →
          IsFound (w ∷ (if b then suc v ∷ written_from m (suc (suc v)) left else written_from m (suc (suc v)) left)) c
      by_written true is begun from' next same =
          let rest = next from' in
          record {
            k = suc rest.k;
            inside = record {
              known = (let k = rest.inside.known in omega (arith, k));
              low = λ some. at_it rest.k rest.inside.low begun;
              high = λ k later known. past_next rest.k rest.inside.high k later known;
            };
            alike = rest.alike;
          }
        where
          at_it : (k : ℕ) →
              (0 < k → get_or (map (first_cell m) (suc v ∷ written_from m (suc (suc v)) left)) k (pos 0) ≤ℤ c) →
              first_cell m (suc v) ≤ℤ c →
              get_or (map (first_cell m) (suc v ∷ written_from m (suc (suc v)) left)) k (pos 0) ≤ℤ c
          at_it zero low begun = begun
          at_it (suc k) low begun = low (omega arith)

          past_next : (j : ℕ) → ((k : ℕ) → j < k →
              k < length (map (first_cell m) (suc v ∷ written_from m (suc (suc v)) left)) →
              c <ℤ get_or (map (first_cell m) (suc v ∷ written_from m (suc (suc v)) left)) k (pos 0)) →
              (k : ℕ) → suc j < k →
              k < length (map (first_cell m) (w ∷ suc v ∷ written_from m (suc (suc v)) left)) →
              c <ℤ get_or (map (first_cell m) (w ∷ suc v ∷ written_from m (suc (suc v)) left)) k (pos 0)
          past_next j high zero later known = absurd (omega (arith, later))
          past_next j high (suc k) later known = high k (omega (arith, later)) (omega (arith, known))
      by_written false is begun from' next same = same (one_more (all_same is))
        where
          all_same : not (are_same_slopes m v bands) ≡ false → are_same_slopes m v bands ≡ true
          all_same is = by (are_same_slopes m v bands) is
            where
              by : (b : Bool) → not b ≡ false → b ≡ true
              by true is = refl
              by false is = absurd (true≢false is)

          one_more : are_same_slopes m v bands ≡ true → AreAlike w (suc (suc v))
          one_more same band u in_band low high = elim (cases_lt u (suc v)) [
            | inl before ↦ alike band u in_band low before
            | inr last ↦
                let is : u ≡ suc v = omega (arith, last, high) in
                rw is (same_before v bands band same in_band ∙ alike band v in_band past (omega arith))
          ]

  -- of all written segments
  is_found : (c : ℤ) → IsFound (written m) c
  is_found c = of_all (length m.starts) starts.some refl
    where
      of_all : (n : ℕ) → 0 < n → length m.starts ≡ n → IsFound (written_from m 0 n) c
      of_all zero some is = absurd (omega (arith, some))
      of_all (suc n) some is = found 0 0 n c (omega (arith, is)) (omega arith) (one_alike 0) (omega arith)

  -- ---- what the written segments mean

  module _ (near : AreNear) where
    -- the map that is made of the written segments
    abbrev pub thin : SlopeMap
    thin = made_from (meaning_of m) cells

    cells_rising : (i j : ℕ) → i ≤ j → j < length cells → get_or cells i (pos 0) ≤ℤ get_or cells j (pos 0)
    cells_rising i j le known = elim (cases_lt i j) [
      | inl before ↦ omega (arith, ints, cells_rise (pos 0) (pos 0) cells (are_cells near) i j before known)
      | inr same ↦ let is : i ≡ j = omega (arith, le, same) in rw is (omega (arith, ints))
    ]

    -- each of its slopes is one of the map
    slope_is : (band i : ℕ) → band < bands → i < length cells →
        slope_of thin band i ≡ (meaning_of m).slope band (get_or cells i (pos 0))
    slope_is band i in_band known = made_slope (meaning_of m) cells band i in_band known

    -- that of the cell
    at_cell : (band : ℕ) (c : ℤ) → band < bands → (meaning_of thin).slope band c ≡ (meaning_of m).slope band c
    at_cell band c in_band =
        let f = is_found c in
        let i = get_or (written m) f.k 0 in
        let count = length-map (written m) (first_cell m) in
        let inside = f.inside.known in
        let here : f.k < length (written m) = omega (arith, inside, count) in
        let is = written_known 0 (length m.starts) f.k here in
        let known : i < length m.starts = omega (arith, is.1) in
        let cell : get_or cells f.k (pos 0) ≡ first_cell m i = get_or-map (first_cell m) (written m) f.k 0 (pos 0) here in
        let segment : segment_of m.starts (first_cell m i) ≡ i = segment_of_start m.starts i starts known in
        ap (λ (k : ℕ). slope_of thin band k) (segment_is cells c f.k cells_rising f.inside)
        ∙ (slope_is band f.k in_band inside
        ∙ (ap (λ (z : ℤ). (meaning_of m).slope band z) cell
        ∙ (ap (λ (k : ℕ). slope_of m band k) segment ∙ f.alike band in_band)))

    -- so it means the same
    pub thin_means : meaning_of thin ≡ meaning_of m
    thin_means = meaning_is thin (meaning_of m) refl refl (λ band c. elim (cases_lt band bands) [
      | inl in_band ↦ at_cell band c in_band
      | inr past ↦ made_past (meaning_of m) cells band (segment_of cells c) past ∙ sym (slope_past m band c kept past)
    ])

    -- and its slopes are accepted
    pub thin_accepted : AreAccepted (handed_in thin)
    thin_accepted = record {
      strong = λ band in_band i known.
          let least = slope_least m band (get_or cells i (pos 0)) kept (omega (arith, in_band)) in
          rw (slope_kept thin band i, slope_is band i in_band known) (omega (arith, ints, least));
      even = λ band in_band i j known known'.
          let v = variation bands in
          let even = (usable_of m kept).even band (omega (arith, in_band)) (get_or cells i (pos 0))
          (get_or cells j (pos 0)) in
          rw (
            slope_kept thin band i,
            slope_is band i in_band known,
            slope_kept thin band j,
            slope_is band j in_band known',
            scale-pos v ((meaning_of m).slope band (get_or cells j (pos 0))),
          ) (omega (arith, ints, even));
    }
