-- A map that is made of written segments has in each of its segments the slopes of the cell with which this begins, in
-- whatever order they are read.
use Rattle.std.proofs.Common.{◌≡◌, ℕ, zero, suc, ℤ, pos, List, [], ◌∷◌, ◌++◌, ◌+◌, ◌-◌, ◌*◌, ◌<◌, ◌≤◌, get_or, length}
use Rattle.std.proofs.Common.{map, take, refl, ap, ◌∙◌, arith, inl, inr, mul-le-mul_right}
use Rattle.std.proofs.Math.ListN.{get_or-append, get_or-eq_default, get_or-map}
use Rattle.std.proofs.Math.Seq.{get_or-append_right, take-length, take-suc}
use Rattle.std.proofs.lemmas.Bool.{cases_lt}
use Rattle.std.proofs.lemmas.List.{length-append, length-map, map-append}
use Rattle.sdm_rules.specs.Slopes.{Slopes, SlopeMap, bands_of}
use Rattle.sdm_certify.specs.Lines.{slopes_by_band, slopes_of_band}
use Rattle.sdm_certify.proofs.MapBack.{all_slopes, one_each, slopes_in}

module _ (on : Slopes) where
  abbrev bands : ℕ
  bands = bands_of on.uppers

  -- the slope of a band is among those of a cell
  slope_here : (cell : ℤ) (n band : ℕ) → band < n → get_or (slopes_in on cell n) band 0 ≡ on.slope band cell
  slope_here cell zero band known = absurd (omega (arith, known))
  slope_here cell (suc n) band known =
      let long = one_each on cell n in
      elim (cases_lt band n) [
        | inl before ↦ get_or-append (slopes_in on cell n) (on.slope n cell ∷ []) 0 band (omega (arith, before, long))
            ∙ slope_here cell n band before
        | inr last ↦
            let same : band ≡ n = omega (arith, last, known) in
            let none : n - length (slopes_in on cell n) ≡ 0 = omega (arith, long) in
            rw same (get_or-append_right (slopes_in on cell n) (on.slope n cell ∷ []) n 0 (omega (arith, long))
            ∙ rw none refl)
      ]

  -- a slope that is read, by its segment and its band
  slope_read : (cells : List ℤ) (i band : ℕ) → i < length cells → band < bands →
      get_or (all_slopes on cells) (i * bands + band) (pos 0) ≡ pos (on.slope band (get_or cells i (pos 0)))
  slope_read [] i band known in_band = absurd (omega (arith, known))
  slope_read (cell ∷ cells) zero band known in_band =
      let long = one_each on cell bands in
      let as_long = length-map (slopes_in on cell bands) pos in
      let first : 0 * bands + band ≡ band = omega arith in
      rw first (get_or-append (map pos (slopes_in on cell bands)) (all_slopes on cells) (pos 0) band
      (omega (arith, long, as_long, in_band))
      ∙ (get_or-map pos (slopes_in on cell bands) band 0 ∙ ap pos (slope_here cell bands band in_band)))
  slope_read (cell ∷ cells) (suc i) band known in_band =
      let long = one_each on cell bands in
      let as_long = length-map (slopes_in on cell bands) pos in
      let next : suc i * bands + band ≡ bands + (i * bands + band) = omega arith in
      let rest : bands + (i * bands + band) - length (map pos (slopes_in on cell bands)) ≡ i * bands + band =
      omega (arith, long, as_long) in
      rw next (get_or-append_right (map pos (slopes_in on cell bands)) (all_slopes on cells) (bands + (i * bands + band))
      (pos 0) (omega (arith, long, as_long))
      ∙ rw rest (slope_read cells i band (omega (arith, known)) in_band))

  -- the slopes of the first so many bands in these cells, those of one band after the other
  abbrev rows : List ℤ → ℕ → List ℕ
  rows cells zero = []
  rows cells (suc band) = rows cells band ++ map (on.slope band) cells

  -- what is read, put band by band
  row_is : (cells : List ℤ) (band i : ℕ) → band < bands → i ≤ length cells →
      slopes_of_band bands (all_slopes on cells) band i ≡ map pos (map (on.slope band) (take i cells))
  row_is cells band zero in_band known = refl
  row_is cells band (suc i) in_band known =
      rw (
        row_is cells band i in_band (omega (arith, known)),
        slope_read cells i band (omega (arith, known)) in_band,
        take-suc cells i (pos 0) (omega (arith, known)),
        map-append (on.slope band) (take i cells) (get_or cells i (pos 0) ∷ []),
        map-append pos (map (on.slope band) (take i cells)) (on.slope band (get_or cells i (pos 0)) ∷ []),
      ) refl

  rows_are : (cells : List ℤ) (band : ℕ) → band ≤ bands →
      slopes_by_band bands (all_slopes on cells) (length cells) band ≡ map pos (rows cells band)
  rows_are cells zero known = refl
  rows_are cells (suc band) known =
      let row : slopes_of_band bands (all_slopes on cells) band (length cells) ≡ map pos (map (on.slope band) cells) =
      row_is cells band (length cells) (omega (arith, known)) (omega arith)
      ∙ ap (λ (xs : List ℤ). map pos (map (on.slope band) xs)) (take-length cells) in
      rw (rows_are cells band (omega (arith, known)), row, map-append pos (rows cells band) (map (on.slope band) cells))
      refl

  -- so long are they
  pub rows_long : (cells : List ℤ) (band : ℕ) → length (rows cells band) ≡ band * length cells
  rows_long cells zero = omega arith
  rows_long cells (suc band) = omega (
    arith,
    length-append (rows cells band) (map (on.slope band) cells),
    length-map cells (on.slope band),
    rows_long cells band,
  )

  -- each slope at its place
  slope_in_rows : (cells : List ℤ) (n band i : ℕ) → band < n → i < length cells →
      get_or (rows cells n) (band * length cells + i) 0 ≡ on.slope band (get_or cells i (pos 0))
  slope_in_rows cells zero band i in_band known = absurd (omega (arith, in_band))
  slope_in_rows cells (suc n) band i in_band known =
      let long = rows_long cells n in
      let last = map (on.slope n) cells in
      elim (cases_lt band n) [
        | inl before ↦
            let below : suc band * length cells ≤ n * length cells = mul-le-mul_right (length cells) before in
            get_or-append (rows cells n) last 0 (band * length cells + i) (omega (arith, below, long, known))
            ∙ slope_in_rows cells n band i before known
        | inr not_before ↦
            let same : band ≡ n = omega (arith, not_before, in_band) in
            let here : n * length cells + i - length (rows cells n) ≡ i = omega (arith, long) in
            rw same (get_or-append_right (rows cells n) last (n * length cells + i) 0 (omega (arith, long))
            ∙ rw here (get_or_map_to (on.slope n) cells i known))
      ]
    where
      get_or_map_to : (f : ℤ → ℕ) (xs : List ℤ) (k : ℕ) → k < length xs →
          get_or (map f xs) k 0 ≡ f (get_or xs k (pos 0))
      get_or_map_to f [] k known = absurd (omega (arith, known))
      get_or_map_to f (x ∷ xs) zero known = refl
      get_or_map_to f (x ∷ xs) (suc k) known = get_or_map_to f xs k (omega (arith, known))

  -- the map that is made of what is read
  abbrev pub made_from : List ℤ → SlopeMap
  made_from cells = record { q = on.q; uppers = on.uppers; starts = cells; slopes = rows cells bands }

  -- its slopes are those that are read
  pub made_slopes : (cells : List ℤ) →
      slopes_by_band bands (all_slopes on cells) (length cells) bands ≡ map pos (made_from cells).slopes
  made_slopes cells = rows_are cells bands (omega arith)

  -- and each is that of the cell with which its segment begins
  pub made_slope : (cells : List ℤ) (band i : ℕ) → band < bands → i < length cells →
      get_or (made_from cells).slopes (band * length cells + i) 0 ≡ on.slope band (get_or cells i (pos 0))
  made_slope cells band i in_band known = slope_in_rows cells bands band i in_band known

  -- past the last band there is none
  pub made_past : (cells : List ℤ) (band i : ℕ) → bands ≤ band →
      get_or (made_from cells).slopes (band * length cells + i) 0 ≡ 0
  made_past cells band i past =
      let long = rows_long cells bands in
      get_or-eq_default (made_from cells).slopes 0
      (omega (arith, long, mul-le-mul_right (length cells) past))
