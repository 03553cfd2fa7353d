-- The lines of a certificate text that are written (own).
use Rattle.std.specs.Prelude.{ℕ, zero, suc, ℤ, pos, neg_ℤ, Bool, true, not, ◌&&◌, ◌==◌, ◌+ℤ◌, nat_le, List, [], ◌∷◌}
use Rattle.std.specs.Prelude.{◌++◌, map, length, codes, decimal, slice_index_or, if◌then◌else◌}
use Rattle.std.specs.Fmt.{signed_decimal}
use Rattle.sdm_rules.specs.declared.certificates.Claim.{Claim}
use Rattle.sdm_rules.specs.declared.certificates.Mark.{Mark}
use Rattle.sdm_rules.specs.Slopes.{Slopes, SlopeMap, bands_of, meaning_of}
use Rattle.sdm_formats.specs.Text.{text_line}
use Rattle.sdm_curve.specs.Integrals.{slope_of}

-- lines one after the other
abbrev pub text_of_lines : List (List ℕ) → List ℕ
text_of_lines [] = []
text_of_lines (line ∷ more) = line ++ text_of_lines more

-- ---- the written map of slopes

-- in the first so many bands the slopes of a cell are those of the cell before
abbrev pub has_slopes_before : Slopes → ℤ → ℕ → Bool
has_slopes_before on cell zero = true
has_slopes_before on cell (suc band) =
    has_slopes_before on cell band && (on.slope band (cell +ℤ neg_ℤ (pos 1)) == on.slope band cell)

-- of `n` cells from `cell` on, those that have another slope in some band than the cell before
unfoldable pub changed_cells : Slopes → ℤ → ℕ → List ℤ
changed_cells on cell zero = []
changed_cells on cell (suc n) =
    let later = changed_cells on (cell +ℤ pos 1) n in
    if has_slopes_before on cell (bands_of on.uppers) then later else cell ∷ later

-- the furthest cell with which a segment begins
abbrev pub last_start : ℕ
last_start = 10_200_000

-- the cells with which written segments begin: cell 0, and those with another slope in some band than the cell before
abbrev pub segment_cells : Slopes → List ℤ
segment_cells on = pos 0 ∷ changed_cells on (pos 1) last_start

-- the slopes of the first so many bands in a cell
abbrev pub slopes_at : Slopes → ℤ → ℕ → List (List ℕ)
slopes_at on cell zero = []
slopes_at on cell (suc band) = slopes_at on cell band ++ decimal (on.slope band cell) ∷ []

-- `seg,start` and the slopes of all bands
unfoldable pub segment_line : Slopes → ℤ → List ℕ
segment_line on cell = text_line (codes "seg" ∷ signed_decimal cell ∷ slopes_at on cell (bands_of on.uppers))

-- `map,q,b,s`, of so many segments
unfoldable pub head_line : Slopes → ℕ → List ℕ
head_line on segments =
    text_line (codes "map" ∷ decimal on.q ∷ decimal (bands_of on.uppers) ∷ decimal segments ∷ [])

-- `uppers` and the upper speeds
unfoldable pub uppers_line : Slopes → List ℕ
uppers_line on = text_line (codes "uppers" ∷ map decimal on.uppers)

-- the line of upper speeds, which stands only where there is more than one band
abbrev pub uppers_lines : Slopes → List (List ℕ)
uppers_lines on = if nat_le (bands_of on.uppers) 1 then [] else uppers_line on ∷ []

-- the lines of the map whose written segments begin with these cells
abbrev pub lines_from : Slopes → List ℤ → List (List ℕ)
lines_from on cells = head_line on (length cells) ∷ uppers_lines on ++ map (segment_line on) cells

-- the written map of slopes
abbrev pub map_text : Slopes → List ℕ
map_text on = text_of_lines (lines_from on (segment_cells on))

-- ---- the same, found in a map that is kept by its segments

-- in the first so many bands the slopes of a segment are those of the segment before
abbrev pub are_same_slopes : SlopeMap → ℕ → ℕ → Bool
are_same_slopes m i zero = true
are_same_slopes m i (suc band) = are_same_slopes m i band && (slope_of m band i == slope_of m band (suc i))

-- the segment is written: the first one, and each whose slopes aren't equal in all bands to those of the one before
abbrev pub is_written : SlopeMap → ℕ → Bool
is_written m zero = true
is_written m (suc i) = not (are_same_slopes m i (bands_of m.uppers))

-- the segments that are written of so many from one on
abbrev pub written_from : SlopeMap → ℕ → ℕ → List ℕ
written_from m i zero = []
written_from m i (suc count) =
    let later = written_from m (suc i) count in if is_written m i then i ∷ later else later

-- the segments that are written
abbrev pub written : SlopeMap → List ℕ
written m = written_from m 0 (length m.starts)

-- the first cell of a segment
abbrev pub first_cell : SlopeMap → ℕ → ℤ
first_cell m i = slice_index_or m.starts i (pos 0)

-- the lines of the map
abbrev pub written_lines : SlopeMap → List (List ℕ)
written_lines m = lines_from (meaning_of m) (map (first_cell m) (written m))

-- ---- claims and marks

-- `claim,time,front,speed,a1,a2,tt,tb,svl,n`, of a claim with so many marks
unfoldable pub claim_text : Claim → ℕ → List ℕ
claim_text c marks = text_line
    (codes "claim" ∷ decimal c.time ∷ signed_decimal c.front ∷ decimal c.speed ∷ decimal c.accel1 ∷ decimal c.accel2
    ∷ decimal c.traction ∷ decimal c.berem ∷ signed_decimal c.svl ∷ decimal marks ∷ [])

-- `mark,place,energy`
unfoldable pub mark_text : Mark → List ℕ
mark_text x = text_line (codes "mark" ∷ signed_decimal x.place ∷ decimal x.energy ∷ [])

-- a claim with its marks
abbrev pub marked_claim_text : Claim → List Mark → List ℕ
marked_claim_text c marks = claim_text c (length marks) ++ text_of_lines (map mark_text marks)
