-- With one slope the energy of a distance is the slope for each of its grains; so the exact place is the foot less the
-- square over twice the deceleration, and rounding it to a grain first and to a millimetre then is rounding it once.
use Rattle.std.proofs.Common.{◌≡◌, ℕ, ℤ, pos, neg_ℤ, ◌-◌, ◌*◌, ◌<◌, ◌+ℤ◌, ◌*ℤ◌, ◌≤ℤ◌, ◌<ℤ◌, ap, sym, ◌∙◌, refl, arith}
use Rattle.std.proofs.lemmas.Int.{ints}
use Rattle.std.specs.Int.{int_div_euclid}
use Rattle.sdm_num.specs.Units.{millimetre, centimetre, notches_of_mm_s}
use Rattle.sdm_num.specs.Fractions.{Fraction, whole}
use Rattle.sdm_num.specs.Bounds.{mm_below}
use Rattle.sdm_num.proofs.Ints.{scales, scale-+ℤ, scale-neg, scale-scale, scale-swap, scale-≤, scale-≤_cancel}
use Rattle.sdm_num.proofs.Floors.{floor_low, floor_high, floor_is, scale-<_cancel}
use Rattle.sdm_rules.specs.Cells.{place_of_cell}
use Rattle.sdm_rules.specs.Curves.{arc_back, back, grain_energy, exact}
use Rattle.sdm_rules.specs.Supervision.{whole_mm}
use Rattle.sdm_formats.specs.Flat.{flat_slopes}
use Rattle.sdm_laws.specs.Energy.{energy}
use Rattle.sdm_laws.proofs.OneBand.Energy.{energy_at_most, energy_at_least}
use Rattle.sdm_laws.proofs.OneBand.Walks.{IsBackBy, back-is}
use Rattle.sdm_supervisor.specs.Flats.{ebi_mm}
use Rattle.sdm_supervisor.proofs.FlatCurves.{exact_arc}

-- ---- the exact place

-- 27 times the slope: the energy of a grain
abbrev rate : ℕ → ℕ
rate decel = 54_000_000_000 * decel

-- the energy of a speed in notches
abbrev energy_of : ℕ → ℕ
energy_of v = 500_000_000_000_000 * (v * v)

-- the energy of a distance is the slope for each of its steps
one_energy : (decel m d : ℕ) (p : ℤ) → 27 * energy (flat_slopes decel) 0 m p d ≡ rate decel * d
one_energy decel m d p =
    omega (
      arith,
      energy_at_most (flat_slopes decel) 0 m (2_000_000_000 * decel) d p (λ z. omega arith),
      energy_at_least (flat_slopes decel) 0 m (2_000_000_000 * decel) d p (λ z. omega arith),
    )

-- an arc back from a whole grain ends where the energy is used up
arc_formula : (decel : ℕ) (f : ℤ) (e : ℕ) (y : Fraction) → 0 < decel → IsBackBy (flat_slopes decel) 1 0 (whole f) y e →
    (0 < y.m) × (pos (rate decel) *ℤ y.n ≡ pos y.m *ℤ (pos (rate decel) *ℤ f +ℤ neg_ℤ (pos e)))
arc_formula decel f e y some h =
    let m_is : y.m ≡ h.t = h.finer ∙ omega arith in
    let used : rate decel * h.d ≡ h.t * e = sym (one_energy decel (1 * y.m) h.d y.n) ∙ h.is.used in
    (omega (arith, m_is, h.positive), rw m_is (by_distance (rate decel) h.t h.d e y.n f h.is.distance used))
  where
    by_distance : (r t d e : ℕ) (n f : ℤ) → pos t *ℤ f ≡ n +ℤ pos d → r * d ≡ t * e →
        pos r *ℤ n ≡ pos t *ℤ (pos r *ℤ f +ℤ neg_ℤ (pos e))
    by_distance r t d e n f distance used =
        let n_is : n ≡ pos t *ℤ f +ℤ neg_ℤ (pos d) = omega (arith, ints) in
        let turned : r * t ≡ t * r = omega arith in
        rw n_is (simp scales (rw (turned, used)))

-- the exact place lies back from the foot by this energy
exact_back : (decel : ℕ) (f : ℤ) (v : ℕ) →
    exact (flat_slopes decel) f 0 v ≡ back (flat_slopes decel) 1 0 (energy_of v) (whole f) (energy_of v)
unfolding arc_back
exact_back decel f v =
    let foot : pos 1 *ℤ f ≡ f = omega (arith, ints) in
    let used : 1 * grain_energy (flat_slopes decel) (v * v - 0) ≡ energy_of v = omega arith in
    exact_arc decel f v ∙ rw (foot, used)

-- the exact place is the foot less the energy of the speed over the slope, by cross products
exact_formula : (decel : ℕ) (f : ℤ) (v : ℕ) (x : Fraction) → 0 < decel → x ≡ exact (flat_slopes decel) f 0 v →
    (0 < x.m) × (pos (rate decel) *ℤ x.n ≡ pos x.m *ℤ (pos (rate decel) *ℤ f +ℤ neg_ℤ (pos (energy_of v))))
exact_formula decel f v x some is =
    rw (is, exact_back decel f v) (arc_formula decel f (energy_of v) _ some
    (back-is (flat_slopes decel) 1 0 (energy_of v) (whole f) (energy_of v) (λ c. omega arith) (omega arith)
    (omega arith)))

-- ---- rounded down once

-- a fraction n / m that is N / r, in whole millimetres
rounded_once : (m r : ℕ) (n N c : ℤ) → 0 < m → 0 < r → pos r *ℤ n ≡ pos m *ℤ N →
    c ≡ mm_below (int_div_euclid n (pos m)) →
    ((pos r *ℤ (pos millimetre *ℤ c)) ≤ℤ N) × (N <ℤ (pos r *ℤ (pos millimetre *ℤ (c +ℤ pos 1))))
rounded_once m r n N c m_pos r_pos same is =
    let fl = int_div_euclid n (pos m) in
    let low = pos millimetre *ℤ c in
    let high = pos millimetre *ℤ (c +ℤ pos 1) in
    let grain_low : (pos m *ℤ fl) ≤ℤ n = floor_low m n m_pos in
    let grain_high : n <ℤ (pos m *ℤ (fl +ℤ pos 1)) = floor_high m n m_pos in
    let mm_low : low ≤ℤ fl = rw is (floor_low millimetre fl (omega arith)) in
    let mm_high : fl <ℤ high = rw is (floor_high millimetre fl (omega arith)) in
    let mm_next : (fl +ℤ pos 1) ≤ℤ high = omega (arith, ints) in
    let at_most : (pos m *ℤ low) ≤ℤ n = omega (arith, ints, scale-≤ m low fl mm_low) in
    let below : n <ℤ (pos m *ℤ high) = omega (arith, ints, scale-≤ m (fl +ℤ pos 1) high mm_next) in
    let next : (n +ℤ pos 1) ≤ℤ (pos m *ℤ high) = omega (arith, ints) in
    let less : (pos r *ℤ n) <ℤ (pos r *ℤ (pos m *ℤ high)) = omega
    (arith, ints, rw scale-+ℤ at (scale-≤ r (n +ℤ pos 1) (pos m *ℤ high) next)) in (
      scale-≤_cancel m (pos r *ℤ low) N m_pos (rw (scale-swap m r low, ← same) (scale-≤ r (pos m *ℤ low) n at_most)),
      scale-<_cancel m N (pos r *ℤ high) (rw (scale-swap m r high, ← same) less),
    )

-- ---- in millimetres

-- what both sides of the formula are multiplied by
abbrev common : ℕ
common = 1_458_000_000_000_000_000

-- a number of grains, scaled, and the same number of millimetres by the common factor
in_common : (r k a : ℕ) (z : ℤ) → r * millimetre ≡ k * a → pos r *ℤ (pos millimetre *ℤ z) ≡ pos k *ℤ (pos a *ℤ z)
in_common r k a z e = scale-scale r millimetre z ∙ (ap (λ (t : ℕ). pos t *ℤ z) e ∙ sym (scale-scale k a z))

-- a multiple of a difference is the difference of the multiples
difference : (k a b : ℕ) → pos k *ℤ (pos a +ℤ neg_ℤ (pos b)) ≡ pos (k * a) +ℤ neg_ℤ (pos (k * b))
difference k a b = scale-+ℤ k (pos a) (neg_ℤ (pos b)) ∙ ap (λ (z : ℤ). pos (k * a) +ℤ z) (scale-neg k (pos b))

-- both bounds, by the common factor
floor_in_common : (k a : ℕ) (low high N M c : ℤ) → 0 < k → 0 < a → low ≡ pos k *ℤ (pos a *ℤ c) →
    high ≡ pos k *ℤ (pos a *ℤ (c +ℤ pos 1)) → M ≡ pos k *ℤ N → low ≤ℤ M → M <ℤ high →
    int_div_euclid N (pos a) ≡ c
floor_in_common k a low high N M c k_pos a_pos low_is high_is m_is below above =
    floor_is a N c a_pos
    (scale-≤_cancel k (pos a *ℤ c) N k_pos (rw (← low_is, ← m_is) below))
    (scale-<_cancel k N (pos a *ℤ (c +ℤ pos 1)) (rw (← high_is, ← m_is) above))

-- for a whole speed in mm/s the exact place, rounded down to a millimetre, is END - v² / (2A)
pub ebi_is : (decel end v : ℕ) → 0 < decel →
    whole_mm (exact (flat_slopes decel) (place_of_cell (pos end)) 0 (notches_of_mm_s v)) ≡ ebi_mm decel end v
ebi_is decel end v some =
    let x = exact (flat_slopes decel) (place_of_cell (pos end)) 0 (notches_of_mm_s v) in
    let c = whole_mm x in
    let formula = exact_formula decel (place_of_cell (pos end)) (notches_of_mm_s v) x some refl in
    let bounds = rounded_once x.m (rate decel) x.n _ c formula.0 (omega arith) formula.1 refl in
    let distance : rate decel * (end * centimetre) ≡ common * (200 * decel * end) = omega arith in
    let used : energy_of (notches_of_mm_s v) ≡ common * (v * v) = omega arith in
    let unit : rate decel * millimetre ≡ common * (20 * decel) = omega arith in
    let whole_distance : pos (rate decel * (end * centimetre)) +ℤ neg_ℤ (pos (energy_of (notches_of_mm_s v)))
    ≡ pos common *ℤ (pos (200 * decel * end) +ℤ neg_ℤ (pos (v * v)))
    = rw (distance, used) (sym (difference common (200 * decel * end) (v * v))) in
    sym (floor_in_common common (20 * decel) _ _ _ _ c (omega arith) (omega arith)
    (in_common (rate decel) common (20 * decel) c unit)
    (in_common (rate decel) common (20 * decel) (c +ℤ pos 1) unit) whole_distance bounds.0 bounds.1)
