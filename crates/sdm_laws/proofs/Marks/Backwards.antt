-- The law of one stretch, read backwards: where a way in one band and with one slope takes at least the energy that is
-- lost on it, and its end is within a curve, so is its beginning. Were the beginning past the curve, the arc of the
-- curve between the two squares would cover the whole way and more, and use more energy than is lost.
use Rattle.std.proofs.Common.{◌≡◌, ℕ, ℤ, pos, neg_ℤ, ◌+◌, ◌-◌, ◌*◌, ◌<◌, ◌≤◌, ◌+ℤ◌, ◌*ℤ◌, ◌≤ℤ◌, ◌<ℤ◌, unsigned_abs}
use Rattle.std.proofs.Common.{ap, arith}
use Rattle.std.proofs.lemmas.Int.{ints, by_lt_z}
use Rattle.std.proofs.Math.Nat.{mul-pos}
use Rattle.sdm_num.specs.Units.{centimetre}
use Rattle.sdm_num.specs.Fractions.{Fraction, IsAtMost, IsBefore, whole}
use Rattle.sdm_num.proofs.Ints.{scales, scale-≤, scale-+ℤ}
use Rattle.sdm_num.proofs.Floors.{scale-<_cancel}
use Rattle.sdm_num.proofs.Order.{at_most_in}
use Rattle.sdm_rules.specs.declared.motions.Point.{Point}
use Rattle.sdm_rules.specs.Slopes.{Slopes, IsUsable}
use Rattle.sdm_rules.specs.Curves.{cell_at, cell_start, grain_energy, exact_at}
use Rattle.sdm_rules.specs.Motion.{HasPart, IsInBand}
use Rattle.sdm_laws.specs.Energy.{energy}
use Rattle.sdm_laws.specs.MotionLaws.{IsWithinCurve}
use Rattle.sdm_laws.proofs.OneBand.Totals.{total_at_least}
use Rattle.sdm_laws.proofs.OneBand.Cells.{cell_low, cell_high, start_finer}
use Rattle.sdm_laws.proofs.OneBand.Energy.{IsPositive, energy-add, energy_at_least}
use Rattle.sdm_laws.proofs.OneBand.CommonSteps.{steps_of_at_most, steps_of_before}
use Rattle.sdm_laws.proofs.OneBand.Arcs.{Arc}
use Rattle.sdm_laws.proofs.BrakeCurves.CurveLevels.{exact_arc}

-- ---- an arc that covers a way

-- a step between two places is in a cell with a part there; `n` steps of it are one step of the places
step_part : (s n : ℕ) (p p' at : ℤ) → 0 < s → 0 < n → (pos n *ℤ p) ≤ℤ at → at <ℤ (pos n *ℤ p') →
    HasPart s (cell_at (s * n) at) p p'
step_part s n p p' at s_pos n_pos from to =
    let cell = cell_at (s * n) at in
    let begins = cell_low (s * n) at (mul-pos s_pos n_pos) in
    let ends = cell_high (s * n) at (mul-pos s_pos n_pos) in
    let start : cell_start (s * n) cell ≡ pos n *ℤ cell_start s cell = start_finer n s cell (s * n) (omega arith) in
    let width : (s * n) * centimetre ≡ n * (s * centimetre) = omega arith in
    record {
      apart = scale-<_cancel n _ _ (omega (arith, ints, from, to));
      begins = scale-<_cancel n _ _ (rw (← start) (omega (arith, ints, begins, to)));
      ends = scale-<_cancel n _ _ (rw scale-+ℤ (rw (← start) (omega (arith, ints, ends, from, width))));
    }

-- an arc that begins before a way of one slope and ends at or past it uses more energy than the way
arc_covers : (on : Slopes) (s band a c : ℕ) (y x : Fraction) (p p' : ℤ) → 0 < s → IsPositive on band →
    Arc on s band y x c → ((cell : ℤ) → HasPart s cell p p' → on.slope band cell ≡ a) → p ≤ℤ p' →
    IsBefore y (whole p) → IsAtMost (whole p') x → (pos (27 * a) *ℤ p') <ℤ (pos (27 * a) *ℤ p +ℤ pos c)
arc_covers on s band a c y x p p' s_pos some h same le low high =
    let n = h.n in
    let start = pos h.is.from *ℤ y.n in
    let end = pos h.is.to *ℤ x.n in
    let at_p = pos n *ℤ p in
    let at_p' = pos n *ℤ p' in
    let from : start <ℤ at_p =
    steps_of_before n n h.is.from (whole p) y h.is.positive (omega arith) h.is.from_is low in
    let to : at_p' ≤ℤ end =
    steps_of_at_most n h.is.to n x (whole p') h.is.positive h.is.to_is (omega arith) high in
    let mid_le : at_p ≤ℤ at_p' = scale-≤ n p p' le in
    let fore = unsigned_abs (at_p +ℤ neg_ℤ start) in
    let mid = unsigned_abs (at_p' +ℤ neg_ℤ at_p) in
    let aft = unsigned_abs (end +ℤ neg_ℤ at_p') in
    let fore_is : at_p ≡ start +ℤ pos fore = omega (arith, ints) in
    let mid_is : at_p' ≡ at_p +ℤ pos mid = omega (arith, ints) in
    let distance = h.is.is.distance in
    let d_is : h.is.d ≡ fore + (mid + aft) = omega (arith, ints) in
    let used : 27 * energy on band (s * n) start (fore + (mid + aft)) ≡ n * c = rw d_is at h.is.is.used in
    let one = energy-add on band (s * n) start fore (mid + aft) in
    let two = energy-add on band (s * n) (start +ℤ pos fore) mid aft in
    let before = energy_at_least on band (s * n) 1 fore start some in
    let slopes : (k : ℕ) → k < mid → a ≤ on.slope band (cell_at (s * n) ((start +ℤ pos fore) +ℤ pos k)) =
    λ k lt. (
    let part = step_part s n p p' ((start +ℤ pos fore) +ℤ pos k) s_pos h.is.positive (omega (arith, ints))
    (omega (arith, ints)) in
    let is = same _ part in
    omega arith) in
    let between : a * mid ≤ energy on band (s * n) (start +ℤ pos fore) mid =
    total_at_least (λ k. on.slope band (cell_at (s * n) ((start +ℤ pos fore) +ℤ pos k))) a mid slopes in
    let fore_some : 0 < fore = omega (arith, ints) in
    let more : 27 * (a * mid) < n * c = omega arith in
    let scaled = simp scales at (ap (λ (z : ℤ). pos (27 * a) *ℤ z) mid_is) in
    scale-<_cancel n _ _ (simp scales (omega (arith, ints, more, scaled)))

-- ---- the stretch backwards

-- from the end of a way that takes at least the energy that is lost, being within the curve carries over to its
-- beginning
pub backwards : (on : Slopes) (m : ℕ) (f : ℤ) (w band a : ℕ) (x y : Point) → IsUsable on → 0 < m →
    IsInBand on m band x.square → IsInBand on m band y.square →
    ((cell : ℤ) → HasPart m cell x.place y.place → on.slope band cell ≡ a) → x.place ≤ℤ y.place →
    y.square ≤ x.square →
    (pos (27 * a) *ℤ x.place +ℤ pos (grain_energy on (x.square - y.square))) ≤ℤ (pos (27 * a) *ℤ y.place) →
    IsWithinCurve on m f w y → IsWithinCurve on m f w x
backwards on m f w band a x y usable m_pos in_x in_y same forward falls enough within =
    let from = exact_at on m f w x.square in
    let to = exact_at on m f w y.square in
    by_lt_z from.n (pos from.m *ℤ x.place)
    (λ lt.
    let before : IsBefore from (whole x.place) = record { crossed = omega (arith, ints, lt) } in
    let arc = exact_arc on m f w band y.square x.square usable m_pos in_y in_x falls in
    let more = arc_covers on m band a _ from to x.place y.place m_pos (usable.positive band in_x.known) arc same
    forward before within in
    absurd (omega (arith, ints, more, enough)))
    (λ le. at_most_in x.place from le)
