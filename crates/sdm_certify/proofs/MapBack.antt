-- The lines of a map are read back as its parts: each line is the next one by its form, and what is read of one tells
-- the form of the next.
use Rattle.std.proofs.Common.{◌≡◌, ℕ, zero, suc, ℤ, pos, neg_ℤ, true, List, [], ◌∷◌, ◌++◌, ◌+◌, ◌-◌, ◌^◌, ◌<◌, ◌≤◌}
use Rattle.std.proofs.Common.{◌+ℤ◌, ◌≤ℤ◌, false, nat_le, Some, Ok, codes, decimal, length, map, refl, ap, sym, subst, ◌∙◌, append_assoc, arith}
use Rattle.std.specs.Fmt.{signed_decimal}
use Rattle.std.specs.List.{list_all, join_with_byte}
use Rattle.std.proofs.lemmas.Bool.{and_from}
use Rattle.std.proofs.lemmas.Bool.Decides.{nat_tests}
use Rattle.std.proofs.lemmas.Int.{ints}
use Rattle.std.proofs.lemmas.List.{append-nil, length-append, length-map, map-append}
use Rattle.sdm_rules.specs.Slopes.{Slopes, bands_of}
use Rattle.sdm_formats.specs.Lines.{lines_of}
use Rattle.sdm_curve.specs.Maps.{map_data}
use Rattle.sdm_certify.specs.Fields.{first_number, rising_after, slopes_after}
use Rattle.sdm_certify.specs.Lines.{head_of, map_in, next_line, segment_of, segments_after}
use Rattle.sdm_certify.specs.Lines.{slopes_by_band, uppers_in, uppers_of}
use Rattle.sdm_certify.specs.WrittenLines.{head_line, last_start, lines_from, segment_line, slopes_at, text_of_lines}
use Rattle.sdm_certify.specs.WrittenLines.{uppers_line, uppers_lines}
use Rattle.sdm_certify.proofs.FieldsLeft.{none_left}
use Rattle.sdm_certify.proofs.LinesBack.{natural, short}
use Rattle.sdm_certify.proofs.ReadBack.{IsShort, fields_written, is_plain, line_back, number_first, plain_number}
use Rattle.sdm_certify.proofs.ReadBack.{word_first}
use Rattle.sdm_certify.proofs.ReadMaps.{AreRising}

-- ---- numbers one after the other

-- no number is above `most`
abbrev pub AreAtMost : ℕ → List ℕ → Type 0
AreAtMost most [] = Unit {0}
AreAtMost most (n ∷ ns) = (n ≤ most) × AreAtMost most ns

-- one more
pub at_most_more : (most : ℕ) (ns : List ℕ) (n : ℕ) → AreAtMost most ns → n ≤ most → AreAtMost most (ns ++ n ∷ [])
at_most_more most [] n all this = (this, tt)
at_most_more most (x ∷ xs) n all this = (all.0, at_most_more most xs n all.1 this)

-- their fields have no comma and no line feed
plain_numbers : (most : ℕ) (ns : List ℕ) → most < 10 ^ 18 → AreAtMost most ns →
    list_all is_plain (map decimal ns) ≡ true
plain_numbers most [] small all = refl
plain_numbers most (n ∷ ns) small all =
    let few = all.0 in
    and_from _ _ (plain_number (pos n) (omega (arith, ints)) (omega (arith, ints, few, small)))
    (plain_numbers most ns small all.1)

-- numbers that rise are at most the greatest
rising_at_most : (least greatest : ℕ) (ns : List ℕ) → AreRising least greatest ns → AreAtMost greatest ns
rising_at_most least greatest [] h = tt
rising_at_most least greatest (n ∷ ns) h = (h.1, rising_at_most (suc n) greatest ns h.2)

-- numbers that rise are read from their fields
rising_back : (done ns : List ℕ) (least greatest : ℕ) → greatest < 10 ^ 18 → AreRising least greatest ns →
    rising_after done (length ns) least greatest (map decimal ns) ≡ Some (done ++ ns, [])
rising_back done [] least greatest small h = rw (append-nil done) refl
rising_back done (n ∷ ns) least greatest small h =
    let first : first_number (pos least) (pos greatest) (decimal n ∷ map decimal ns) ≡ Some (pos n, map decimal ns) =
    number_first _ _ (pos n) (map decimal ns) (natural least greatest n small h.0 h.1) in
    rw first (rising_back (done ++ n ∷ []) ns (suc n) greatest small h.2
    ∙ ap (λ (xs : List ℕ). Some (xs, [])) (append_assoc done (n ∷ []) ns))

-- slopes are read from their fields
slopes_back : (done : List ℤ) (ns : List ℕ) → AreAtMost (10 ^ 15) ns →
    slopes_after done (length ns) (map decimal ns) ≡ Some (done ++ map pos ns, [])
slopes_back done [] all = rw (append-nil done) refl
slopes_back done (n ∷ ns) all =
    let few = all.0 in
    let first : first_number (neg_ℤ (pos (10 ^ 15))) (pos (10 ^ 15)) (decimal n ∷ map decimal ns)
    ≡ Some (pos n, map decimal ns) =
    number_first _ _ (pos n) (map decimal ns) (short _ _ (pos n) (omega (arith, ints)) (omega (arith, ints))
    (omega (arith, ints)) (omega (arith, ints, few))) in
    rw first (slopes_back (done ++ pos n ∷ []) ns all.1
    ∙ ap (λ (xs : List ℤ). Some (xs, [])) (append_assoc done (pos n ∷ []) (map pos ns)))

-- ---- the first lines

-- the line `map` is read as what it says
head_back : (q bands segments : ℕ) → 100 ≤ q → q ≤ 11_730 → 1 ≤ bands → bands ≤ 10 → 1 ≤ segments →
    segments ≤ 2_000 →
    let fields = decimal q ∷ decimal bands ∷ decimal segments ∷ [] in
    (list_all is_plain (codes "map" ∷ fields) ≡ true)
    × (head_of (join_with_byte 44 (codes "map" ∷ fields))
    ≡ Some (record { q = q; bands = bands; segments = segments }))
unfolding head_of
head_back q bands segments low high some few one many =
    let q_is = natural 100 11_730 q (omega arith) low high in
    let bands_are = natural 1 10 bands (omega arith) some few in
    let segments_are = natural 1 2_000 segments (omega arith) one many in
    let from_segments : List (List ℕ) = signed_decimal (pos segments) ∷ [] in
    let from_bands : List (List ℕ) = signed_decimal (pos bands) ∷ from_segments in
    let from_q : List (List ℕ) = signed_decimal (pos q) ∷ from_bands in
    let plain : list_all is_plain (codes "map" ∷ from_q) ≡ true = rw (
      plain_number (pos q) q_is.low q_is.high,
      plain_number (pos bands) bands_are.low bands_are.high,
      plain_number (pos segments) segments_are.low segments_are.high,
    ) refl in (
      plain,
      rw (
        fields_written (codes "map") from_q plain,
        word_first (codes "map") from_q refl,
        number_first _ _ (pos q) from_bands q_is,
        number_first _ _ (pos bands) from_segments bands_are,
        number_first _ _ (pos segments) [] segments_are,
        none_left,
      ) refl,
    )

-- the line `uppers` is read as the upper speeds
uppers_back : (uppers : List ℕ) → AreRising 1 20_000_000 uppers →
    (list_all is_plain (codes "uppers" ∷ map decimal uppers) ≡ true)
    × (uppers_of (length uppers) (join_with_byte 44 (codes "uppers" ∷ map decimal uppers)) ≡ Some uppers)
unfolding uppers_of
uppers_back uppers h =
    let plain : list_all is_plain (codes "uppers" ∷ map decimal uppers) ≡ true =
    plain_numbers 20_000_000 uppers (omega arith) (rising_at_most 1 20_000_000 uppers h) in (
      plain,
      rw (
        fields_written (codes "uppers") (map decimal uppers) plain,
        word_first (codes "uppers") (map decimal uppers) refl,
        rising_back [] uppers 1 20_000_000 (omega arith) h,
        none_left,
      ) refl,
    )

-- so are the lines of a text that tell the upper speeds, if there are any
uppers_lines_back : (on : Slopes) (n : ℕ) (rest : List ℕ) → AreRising 1 20_000_000 on.uppers →
    uppers_in (bands_of on.uppers)
    (record { number = n; lines = lines_of (text_of_lines (uppers_lines on) ++ rest) })
    ≡ Ok (on.uppers, record { number = length (uppers_lines on) + n; lines = lines_of rest })
unfolding uppers_line
uppers_lines_back on n rest h = of_uppers on.uppers h
  where
    of_uppers : (uppers : List ℕ) → AreRising 1 20_000_000 uppers →
        let on' : Slopes = record { q = on.q; uppers = uppers; slope = on.slope } in
        uppers_in (bands_of uppers) (record { number = n; lines = lines_of (text_of_lines (uppers_lines on') ++ rest) })
        ≡ Ok (uppers, record { number = length (uppers_lines on') + n; lines = lines_of rest })
    of_uppers [] h = let none : 0 + n ≡ n = omega arith in rw none refl
    of_uppers (u ∷ us) h =
        let on' : Slopes = record { q = on.q; uppers = u ∷ us; slope = on.slope } in
        let back = uppers_back (u ∷ us) h in
        let several : nat_le (suc (suc (length us))) 1 ≡ false = grind (arith, nat_tests) in
        let less : suc (suc (length us)) - 1 ≡ suc (length us) = omega arith in
        let one : 1 + n ≡ suc n = omega arith in
        rw several (subst (λ (text : List ℕ).
        next_line (uppers_of (suc (suc (length us)) - 1)) (record { number = n; lines = lines_of (text ++ rest) })
        ≡ Ok (u ∷ us, record { number = 1 + n; lines = lines_of rest })) (sym (append-nil (uppers_line on')))
        (rw (less, one) (line_back (uppers_of (suc (length us))) n (codes "uppers") (map decimal (u ∷ us)) rest (u ∷ us)
        back.0 back.1)))

-- ---- segments

-- cells that rise from `least`, up to `greatest` the first one, and the others up to the last with which a segment
-- may begin
abbrev pub AreCells : ℤ → ℤ → List ℤ → Type 0
AreCells least greatest [] = Unit {0}
AreCells least greatest (cell ∷ cells) =
    (least ≤ℤ cell) × (cell ≤ℤ greatest) × AreCells (cell +ℤ pos 1) (pos last_start) cells

module _ (on : Slopes) where
  -- how many bands there are
  abbrev bands : ℕ
  bands = bands_of on.uppers

  -- the slopes of the first so many bands in a cell, as numbers
  abbrev pub slopes_in : ℤ → ℕ → List ℕ
  slopes_in cell zero = []
  slopes_in cell (suc band) = slopes_in cell band ++ on.slope band cell ∷ []

  -- their fields
  fields_are : (cell : ℤ) (band : ℕ) → slopes_at on cell band ≡ map decimal (slopes_in cell band)
  fields_are cell zero = refl
  fields_are cell (suc band) =
      rw (fields_are cell band, map-append decimal (slopes_in cell band) (on.slope band cell ∷ [])) refl

  -- as many as there are bands
  pub one_each : (cell : ℤ) (band : ℕ) → length (slopes_in cell band) ≡ band
  one_each cell zero = refl
  one_each cell (suc band) =
      omega (arith, length-append (slopes_in cell band) (on.slope band cell ∷ []), one_each cell band)

  -- all slopes can be written
  abbrev pub AreSmall : Type 0
  AreSmall = (cell : ℤ) (band : ℕ) → band < bands → on.slope band cell ≤ 10 ^ 15

  small_in : AreSmall → (cell : ℤ) (band : ℕ) → band ≤ bands → AreAtMost (10 ^ 15) (slopes_in cell band)
  small_in small cell zero known = tt
  small_in small cell (suc band) known =
      at_most_more (10 ^ 15) (slopes_in cell band) (on.slope band cell)
      (small_in small cell band (omega (arith, known))) (small cell band (omega (arith, known)))

  -- the line of a segment is read as its first cell and its slopes
  segment_back : AreSmall → (cell least greatest : ℤ) → IsShort least greatest cell →
      let fields = signed_decimal cell ∷ slopes_at on cell bands in
      (list_all is_plain (codes "seg" ∷ fields) ≡ true)
      × (segment_of bands least greatest (join_with_byte 44 (codes "seg" ∷ fields))
      ≡ Some (record { start = cell; slopes = map pos (slopes_in cell bands) }))
  unfolding segment_of
  segment_back small cell least greatest h =
      let ns = slopes_in cell bands in
      let few = small_in small cell bands (omega arith) in
      let from_start : List (List ℕ) = signed_decimal cell ∷ map decimal ns in
      let plain : list_all is_plain (codes "seg" ∷ from_start) ≡ true =
      and_from _ _ (plain_number cell h.low h.high) (plain_numbers (10 ^ 15) ns (omega arith) few) in
      let back : slopes_after [] bands (map decimal ns) ≡ Some (map pos ns, []) =
      ap (λ (k : ℕ). slopes_after [] k (map decimal ns)) (sym (one_each cell bands)) ∙ slopes_back [] ns few in
      rw (fields_are cell bands) (
        plain,
        rw (
          fields_written (codes "seg") from_start plain,
          word_first (codes "seg") from_start refl,
          number_first least greatest cell (map decimal ns) h,
          back,
          none_left,
        ) refl,
      )

  -- the slopes of all segments that begin with these cells, those of one segment after the other
  abbrev pub all_slopes : List ℤ → List ℤ
  all_slopes [] = []
  all_slopes (cell ∷ cells) = map pos (slopes_in cell bands) ++ all_slopes cells

  -- the lines of segments are read as these cells and their slopes
  segments_back : AreSmall → (starts slopes : List ℤ) (cells : List ℤ) (least greatest : ℤ) (n : ℕ) (rest : List ℕ) →
      pos 0 ≤ℤ least → greatest ≤ℤ pos last_start → AreCells least greatest cells →
      segments_after bands (record { starts = starts; slopes = slopes }) (length cells) least greatest
      (record { number = n; lines = lines_of (text_of_lines (map (segment_line on) cells) ++ rest) })
      ≡ Ok (
        record { starts = starts ++ cells; slopes = slopes ++ all_slopes cells },
        record { number = length cells + n; lines = lines_of rest },
      )
  unfolding segment_line
  segments_back small starts slopes [] least greatest n rest from to h =
      let none : 0 + n ≡ n = omega arith in rw (append-nil starts, append-nil slopes, none) refl
  segments_back small starts slopes (cell ∷ cells) least greatest n rest from to h =
      let low = h.0 in
      let high = h.1 in
      let fields = signed_decimal cell ∷ slopes_at on cell bands in
      let more = text_of_lines (map (segment_line on) cells) in
      let back = segment_back small cell least greatest (short least greatest cell (omega (arith, ints, from))
      (omega (arith, ints, to)) low high) in
      let ns = map pos (slopes_in cell bands) in
      let first = line_back (segment_of bands least greatest) n (codes "seg") fields (more ++ rest)
      (record { start = cell; slopes = ns }) back.0 back.1 in
      let split : lines_of (text_of_lines (map (segment_line on) (cell ∷ cells)) ++ rest)
      ≡ lines_of (segment_line on cell ++ (more ++ rest)) =
      ap lines_of (append_assoc (segment_line on cell) more rest) in
      let later = segments_back small (starts ++ cell ∷ []) (slopes ++ ns) cells (cell +ℤ pos 1) (pos last_start)
      (suc n) rest (omega (arith, ints, from, low)) (omega (arith, ints)) h.2 in
      let count : length cells + suc n ≡ suc (length cells) + n = omega arith in
      rw (split, first) (later ∙ (λ k. Ok (
        record {
          starts = append_assoc starts (cell ∷ []) cells k;
          slopes = append_assoc slopes ns (all_slopes cells) k;
        },
        record { number = count k; lines = lines_of rest },
      )))

-- ---- the map

-- what can be written of slopes, by segments that begin with these cells
pub record AreWritable (on : Slopes) (cells : List ℤ) : Type 0 where
  pub low_q : 100 ≤ on.q
  pub high_q : on.q ≤ 11_730
  pub few_bands : bands_of on.uppers ≤ 10
  pub rising : AreRising 1 20_000_000 on.uppers
  pub some : 1 ≤ length cells
  pub few : length cells ≤ 2_000
  pub are_cells : AreCells (pos 0) (pos 0) cells
  pub small : AreSmall on

-- the lines of the map are read as its parts, and then the lines that follow are left
pub map_back : (on : Slopes) (cells : List ℤ) (rest : List ℕ) → AreWritable on cells →
    map_in (record { number = 1; lines = lines_of (text_of_lines (lines_from on cells) ++ rest) })
    ≡ Ok (
      map_data on.q on.uppers cells
          (slopes_by_band (bands_of on.uppers) (all_slopes on cells) (length cells) (bands_of on.uppers)),
      record { number = suc (length (lines_from on cells)); lines = lines_of rest },
    )
unfolding map_in head_line
map_back on cells rest h =
    let segments = text_of_lines (map (segment_line on) cells) in
    let uppers = text_of_lines (uppers_lines on) in
    let fields = decimal on.q ∷ decimal (bands_of on.uppers) ∷ decimal (length cells) ∷ [] in
    let head = head_back on.q (bands_of on.uppers) (length cells) h.low_q h.high_q (omega arith) h.few_bands h.some
    h.few in
    let first = line_back head_of 1 (codes "map") fields (uppers ++ (segments ++ rest)) _ head.0 head.1 in
    let split : lines_of (text_of_lines (lines_from on cells) ++ rest)
    ≡ lines_of (head_line on (length cells) ++ (uppers ++ (segments ++ rest))) =
    ap lines_of (append_assoc (head_line on (length cells)) _ rest
    ∙ ap (λ text. head_line on (length cells) ++ text) (ap (λ text. text ++ rest) (text_both (uppers_lines on) _)
    ∙ append_assoc uppers segments rest)) in
    let second = uppers_lines_back on 2 (segments ++ rest) h.rising in
    let third = segments_back on h.small [] [] cells (pos 0) (pos 0) (length (uppers_lines on) + 2) rest
    (omega (arith, ints)) (omega (arith, ints)) h.are_cells in
    let count : length cells + (length (uppers_lines on) + 2) ≡ suc (length (lines_from on cells)) =
    omega (arith, length-append (uppers_lines on) (map (segment_line on) cells), length-map cells (segment_line on)) in
    rw (split, first, second, third, count) refl
  where
    text_both : (xs ys : List (List ℕ)) → text_of_lines (xs ++ ys) ≡ text_of_lines xs ++ text_of_lines ys
    text_both [] ys = refl
    text_both (x ∷ xs) ys =
        ap (λ text. x ++ text) (text_both xs ys) ∙ sym (append_assoc x (text_of_lines xs) (text_of_lines ys))
