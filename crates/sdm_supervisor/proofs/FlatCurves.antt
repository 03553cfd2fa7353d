-- The one band of a flat map has the slope of the flat supervisor in each cell, and a curve from standstill stays in
-- this band, so that both give the same places; and in one band the stepped place is the exact one rounded down to a
-- grain.
use Rattle.std.proofs.Common.{◌≡◌, ℕ, zero, suc, ℤ, pos, neg_ℤ, unsigned_abs, Bool, true, false, cond, get_or, List}
use Rattle.std.proofs.Common.{[], ◌∷◌, map, ◌*◌, ◌+◌, ◌-◌, ◌+ℤ◌, ◌*ℤ◌, int_lt, not, ◌&&◌, ◌||◌, nat_lt, refl, ap, sym}
use Rattle.std.proofs.Common.{◌∙◌, arith}
use Rattle.std.proofs.lemmas.Int.{ints}
use Rattle.sdm_num.specs.Fractions.{Fraction, floor, whole}
use Rattle.sdm_num.specs.Bounds.{mm_below}
use Rattle.sdm_rules.specs.Cells.{place_of_cell}
use Rattle.sdm_rules.specs.Slopes.{Slopes, SlopeMap, meaning_of}
use Rattle.sdm_rules.specs.Curves.{cell_at, cell_start, back, arc_back, exact_at, exact, stepped, as_is, to_grain}
use Rattle.sdm_rules.specs.Curves.{place_at, corner}
use Rattle.sdm_laws.proofs.OneBand.BothWays.{arc_is_back}
use Rattle.sdm_laws.proofs.BrakeCurves.CurveOrder.{floor_whole}
use Rattle.sdm_rules.specs.Supervision.{whole_mm}
use Rattle.sdm_formats.specs.Flat.{FlatSupervision, FlatLine, flat_slopes, flat_row, flat_after}
use Rattle.sdm_curve.specs.Maps.{map_data, handed_in, MapData}
use Rattle.sdm_supervisor.specs.Flats.{flat_map}

-- ---- the map

-- a list that is one slope as whole numbers is that one as naturals
one_slope : (xs : List ℕ) (k : ℕ) → map pos xs ≡ pos k ∷ [] → xs ≡ k ∷ []
one_slope [] k is = cc
one_slope (x ∷ []) k is = cc
one_slope (x ∷ y ∷ xs) k is = cc

-- a map is told by its parts
map_of_parts : (m : SlopeMap) (q : ℕ) (uppers : List ℕ) (starts : List ℤ) (slopes : List ℕ) → m.q ≡ q →
    m.uppers ≡ uppers → m.starts ≡ starts → m.slopes ≡ slopes →
    m ≡ record { q = q; uppers = uppers; starts = starts; slopes = slopes }
map_of_parts m q uppers starts slopes a b c d = rw (← a, ← b, ← c, ← d)

-- the map of what is handed in for a flat supervisor is the flat map
pub flat_map_from : (m : SlopeMap) (decel : ℕ) →
    handed_in m ≡ map_data 100 [] (pos 0 ∷ []) (pos (2_000_000_000 * decel) ∷ []) → m ≡ flat_map decel
flat_map_from m decel is = map_of_parts m 100 [] (pos 0 ∷ []) (2_000_000_000 * decel ∷ [])
    (ap (λ (d : MapData). d.q) is) (ap (λ (d : MapData). d.uppers) is) (ap (λ (d : MapData). d.starts) is)
    (one_slope m.slopes _ (ap (λ (d : MapData). d.slopes) is))

-- ---- its places

-- a walk back in one band knows only the slopes of this band
back_same : (on on' : Slopes) (s band fuel : ℕ) (x : Fraction) (r : ℕ) →
    ((c : ℤ) → on.slope band c ≡ on'.slope band c) → back on s band fuel x r ≡ back on' s band fuel x r
unfolding back
back_same on on' s band zero x r h = refl
back_same on on' s band (suc fuel) x r h =
    let cell = cell_at (s * x.m) (x.n +ℤ neg_ℤ (pos 1)) in
    let start = cell_start (s * x.m) cell in
    let left = r - 27 * on'.slope band cell * unsigned_abs (x.n +ℤ neg_ℤ start) in
    let next = back_same on on' s band fuel (record { n = start; m = x.m }) left h in
    rw (h cell, next)

-- the one segment has the one slope
one_segment : (k : ℕ) (b : Bool) → get_or (k ∷ []) (0 * 1 + (0 + cond b 1 0 - 1)) 0 ≡ k
one_segment k true = refl
one_segment k false = refl

-- an arc back from a place, by both slopes
same_arc : (decel : ℕ) (x : Fraction) (change : ℕ) →
    arc_back (meaning_of (flat_map decel)) 1 0 x change ≡ arc_back (flat_slopes decel) 1 0 x change
unfolding arc_back
same_arc decel x change =
    back_same (meaning_of (flat_map decel)) (flat_slopes decel) 1 0 _ x _ (λ c. one_segment (2_000_000_000 * decel) _)

-- slopes of one band
abbrev one_band : ℕ → (ℕ → ℤ → ℕ) → Slopes
one_band q slope = record { q = q; uppers = []; slope = slope }

-- with one band the place of a speed is the end of one arc back from a foot with speed 0
one_arc : (round : Fraction → Fraction) (q : ℕ) (slope : ℕ → ℤ → ℕ) (f : ℤ) (v : ℕ) →
    place_at round (one_band q slope) 1 f 0 (v * v)
    ≡ round (arc_back (one_band q slope) 1 0 (whole (pos 1 *ℤ f)) (v * v - 0))
unfolding place_at corner
one_arc round q slope f v =
    ap round (arc_is_back (one_band q slope) 1 0 (whole (pos 1 *ℤ f)) 0 (v * v) (omega arith))

-- so is the stepped place, rounded down
stepped_arc : (q : ℕ) (slope : ℕ → ℤ → ℕ) (f : ℤ) (v : ℕ) →
    stepped (one_band q slope) f 0 v ≡ floor (arc_back (one_band q slope) 1 0 (whole (pos 1 *ℤ f)) (v * v - 0))
unfolding stepped
stepped_arc q slope f v = ap floor (one_arc to_grain q slope f v) ∙ floor_whole _

-- and the exact place
pub exact_arc : (decel : ℕ) (f : ℤ) (v : ℕ) →
    exact (flat_slopes decel) f 0 v ≡ arc_back (flat_slopes decel) 1 0 (whole (pos 1 *ℤ f)) (v * v - 0)
unfolding exact exact_at
exact_arc decel f v = one_arc as_is (flat_slopes decel).q (flat_slopes decel).slope f v

-- the stepped place on the flat slopes
flat_stepped : (decel : ℕ) (f : ℤ) (v : ℕ) →
    stepped (flat_slopes decel) f 0 v ≡ floor (arc_back (flat_slopes decel) 1 0 (whole (pos 1 *ℤ f)) (v * v - 0))
flat_stepped decel f v = stepped_arc (flat_slopes decel).q (flat_slopes decel).slope f v

-- is that on the flat map
pub same_stepped : (decel : ℕ) (f : ℤ) (v : ℕ) →
    stepped (meaning_of (flat_map decel)) f 0 v ≡ stepped (flat_slopes decel) f 0 v
same_stepped decel f v =
    stepped_arc (meaning_of (flat_map decel)).q (meaning_of (flat_map decel)).slope f v
    ∙ (ap floor (same_arc decel (whole (pos 1 *ℤ f)) (v * v - 0)) ∙ sym (flat_stepped decel f v))

-- which is the exact one rounded down to a grain
stepped_floor : (decel : ℕ) (f : ℤ) (v : ℕ) →
    stepped (flat_slopes decel) f 0 v ≡ floor (exact (flat_slopes decel) f 0 v)
stepped_floor decel f v = flat_stepped decel f v ∙ ap floor (sym (exact_arc decel f v))

-- ---- its rows

-- the row of a line, by the stepped place
pub row_by_place : (s : FlatSupervision) (l : FlatLine) (at : ℤ) →
    at ≡ stepped (flat_slopes s.decel) (place_of_cell (pos s.end)) 0 l.speed →
    flat_row s l ≡ record {
      time = l.time;
      ebi = mm_below at;
      covered = not (int_lt at l.front);
      eb = ((nat_lt 0 l.speed && int_lt at l.front) || int_lt (place_of_cell (pos s.end)) l.front)
          || (s.eb && nat_lt 0 l.speed);
    }
unfolding flat_row flat_after
row_by_place s l at is =
    let no_shift : pos 1 *ℤ (l.front +ℤ pos 0) ≡ l.front = omega (arith, ints) in
    rw (no_shift, is, stepped_floor s.decel (place_of_cell (pos s.end)) l.speed)

-- what it shows is the exact place, in whole millimetres
pub shown_place : (s : FlatSupervision) (l : FlatLine) →
    (flat_row s l).ebi ≡ whole_mm (exact (flat_slopes s.decel) (place_of_cell (pos s.end)) 0 l.speed)
unfolding flat_row
shown_place s l = refl
