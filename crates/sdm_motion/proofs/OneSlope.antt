-- The cells of a stretch have one slope exactly where the segments that it meets do.
use Rattle.std.proofs.Common.{◌≡◌, ℕ, ℤ, ◌<◌, ◌≤◌, ◌≤ℤ◌, arith, sym, subst, ◌∙◌}
use Rattle.std.proofs.lemmas.Int.{ints}
use Rattle.sdm_rules.specs.declared.motions.Point.{Point}
use Rattle.sdm_rules.specs.Slopes.{SlopeMap, meaning_of, segment_of}
use Rattle.sdm_rules.specs.Motion.{BrakesAtLeast, HasPart}
use Rattle.sdm_laws.proofs.OneBand.Segments.{in_segment, slope_in_segment}
use Rattle.sdm_curve.specs.Integrals.{slope_of}
use Rattle.sdm_curve.specs.Maps.{AreStarts}
use Rattle.sdm_curve.proofs.Meanings.{rising_of}
use Rattle.sdm_motion.specs.Steps.{BrakesIn, HaveSlope, IsMet, NoneIsMet}
use Rattle.sdm_motion.proofs.SegmentParts.{meets_of, found}

-- every cell that has a part strictly between the places has the slope
abbrev pub HasOneSlope : SlopeMap → ℕ → ℕ → ℤ → ℤ → ℕ → Type 0
HasOneSlope map m band p p' a = (cell : ℤ) → HasPart m cell p p' → (meaning_of map).slope band cell ≡ a

-- the segment of a cell that has a part is met
pub cell_met : (map : SlopeMap) (m : ℕ) (p p' cell : ℤ) → AreStarts map.starts → HasPart m cell p p' →
    IsMet m map.starts (segment_of map.starts cell) p p'
cell_met map m p p' cell starts part =
    let g = in_segment map.starts cell (rising_of map.starts starts) starts.some in
    record { known = g.known; meets = meets_of m map.starts p p' cell (segment_of map.starts cell) part g }

-- the one slope of the segments that are met is that of the cells
pub cells_have : (map : SlopeMap) (m band : ℕ) (p p' : ℤ) (a : ℕ) → AreStarts map.starts →
    HaveSlope map m band p p' a → HasOneSlope map m band p p' a
cells_have map m band p p' a starts have cell part =
    let met = cell_met map m p p' cell starts part in
    have (segment_of map.starts cell) met.known met.meets

-- and that of the cells is that of the segments
pub segments_have : (map : SlopeMap) (m band : ℕ) (p p' : ℤ) (a : ℕ) → 0 < m → AreStarts map.starts →
    HasOneSlope map m band p p' a → HaveSlope map m band p p' a
segments_have map m band p p' a some starts one i known met =
    let f = found m map.starts i p p' some starts known met in
    sym (slope_in_segment map band f.cell i (rising_of map.starts starts) f.segment) ∙ one f.cell f.part

-- ---- braking on a distance

-- where no segment is met, no slope is asked
pub stays : (map : SlopeMap) (m band : ℕ) (x y : Point) → AreStarts map.starts →
    NoneIsMet m map.starts x.place y.place → x.place ≤ℤ y.place → y.square ≤ x.square →
    BrakesIn (meaning_of map) m band x y
stays map m band x y starts none forward slower = record {
  slope = 0;
  one_slope = λ cell part. let met = cell_met map m x.place y.place cell starts part
      in absurd (none (segment_of map.starts cell) met.known met.meets);
  brakes = record { forward = forward; slower = slower; enough = omega (arith, ints) };
}

-- where a segment is met, the one slope can be no other than its own
pub slope_is : (map : SlopeMap) (m band i : ℕ) (x y : Point) → 0 < m → AreStarts map.starts →
    IsMet m map.starts i x.place y.place → (h : BrakesIn (meaning_of map) m band x y) → h.slope ≡ slope_of map band i
slope_is map m band i x y some starts met h =
    sym (segments_have map m band x.place y.place h.slope some starts h.one_slope i met.known met.meets)

-- so each segment that is met has the slope of this one
pub all_have : (map : SlopeMap) (m band i : ℕ) (x y : Point) (a : ℕ) → a ≡ slope_of map band i → 0 < m →
    AreStarts map.starts → IsMet m map.starts i x.place y.place → BrakesIn (meaning_of map) m band x y →
    HaveSlope map m band x.place y.place a
all_have map m band i x y a e some starts met h =
    let is = slope_is map m band i x y some starts met h in
    subst (λ (b : ℕ). HaveSlope map m band x.place y.place b) (is ∙ sym e)
    (segments_have map m band x.place y.place h.slope some starts h.one_slope)

-- and the train brakes at least with it
pub brakes_out : (map : SlopeMap) (m band i : ℕ) (x y : Point) → 0 < m → AreStarts map.starts →
    IsMet m map.starts i x.place y.place → BrakesIn (meaning_of map) m band x y →
    BrakesAtLeast (meaning_of map) (slope_of map band i) x.place x.square y.place y.square
brakes_out map m band i x y some starts met h =
    subst (λ (b : ℕ). BrakesAtLeast (meaning_of map) b x.place x.square y.place y.square)
    (slope_is map m band i x y some starts met h) h.brakes

-- where the segments that are met have one slope and the train brakes at least with it, it brakes in the band
pub brakes_of : (map : SlopeMap) (m band i : ℕ) (x y : Point) (a : ℕ) → a ≡ slope_of map band i →
    AreStarts map.starts → HaveSlope map m band x.place y.place a →
    BrakesAtLeast (meaning_of map) (slope_of map band i) x.place x.square y.place y.square →
    BrakesIn (meaning_of map) m band x y
brakes_of map m band i x y a e starts have brakes = record {
  slope = slope_of map band i;
  one_slope = cells_have map m band x.place y.place (slope_of map band i) starts
      (subst (λ (b : ℕ). HaveSlope map m band x.place y.place b) e have);
  brakes = brakes;
}
