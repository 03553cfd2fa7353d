-- Marks that hold stop every motion: from the last mark back to the first, each is within the exact curve to the
-- claim's place, in the scale in which an energy is a square; so is the first braking point of every motion, at its
-- own scale.
use Rattle.std.proofs.Common.{◌≡◌, ℕ, ℤ, zero, suc, pos, List, [], ◌∷◌, ◌*◌, ◌<◌, ◌≤◌, ◌*ℤ◌, ◌≤ℤ◌, refl, arith}
use Rattle.std.proofs.lemmas.Int.{ints}
use Rattle.std.proofs.lemmas.List.Elements.{All-weaker}
use Rattle.std.proofs.Math.Nat.{mul-le-mul_left, mul-pos}
use Rattle.sdm_num.specs.Units.{centimetre}
use Rattle.sdm_num.specs.Fractions.{IsAtMost, whole}
use Rattle.sdm_num.proofs.Ints.{scales, scale-≤, scale-≤_cancel, scale-+ℤ}
use Rattle.sdm_num.proofs.Floors.{scale-<_cancel}
use Rattle.sdm_num.proofs.Order.{at_most_trans, at_most_in, at_most_out, whole_at_most}
use Rattle.sdm_rules.specs.declared.certificates.Mark.{Mark}
use Rattle.sdm_rules.specs.declared.motions.Point.{Point}
use Rattle.sdm_rules.specs.Certificates.{start_of, v_bec_of, IsEnergyIn, IsNext, LeadTo, LawOfMarks}
use Rattle.sdm_rules.specs.Slopes.{Slopes, IsUsable}
use Rattle.sdm_rules.specs.Curves.{cell_start, grain_energy, upper_square, exact_at}
use Rattle.sdm_rules.specs.Motion.{HasPart, IsInBand, IsBy, lower_square}
use Rattle.sdm_laws.specs.MotionLaws.{IsWithinCurve, IsHeldByCurve}
use Rattle.sdm_laws.proofs.OneBand.Cells.{start_finer}
use Rattle.sdm_laws.proofs.BrakeCurves.CurveOrder.{exact_positive, exact_falls, exact_foot}
use Rattle.sdm_laws.proofs.BrakeCurves.CurveScales.{exact_scaled}
use Rattle.sdm_laws.proofs.Moving.Braking.{braking}
use Rattle.sdm_laws.proofs.Moving.Reaction.{in_reach}
use Rattle.sdm_laws.proofs.Marks.Backwards.{backwards}

-- ---- the scale in which an energy is a square

-- how much energy a squared notch has
abbrev energy_scale : Slopes → ℕ
energy_scale on = 5_000_000_000_000 * on.q

-- the mark as a point in this scale
abbrev point_of : Slopes → Mark → Point
point_of on x = record { place = pos (energy_scale on) *ℤ x.place; square = x.energy }

-- the energy of a band's lower border is its square in this scale
lower_is : (on : Slopes) (band : ℕ) → lower_square on (energy_scale on) band ≡ grain_energy on (lower_square on 1 band)
lower_is on zero = omega arith
lower_is on (suc band) = omega arith

-- and so is that of its upper border
upper_is : (on : Slopes) (band : ℕ) → upper_square on (energy_scale on) band ≡ grain_energy on (upper_square on 1 band)
upper_is on band = omega arith

-- an energy in a band is a square in it
in_band : (on : Slopes) (band e : ℕ) → IsEnergyIn on band e → IsInBand on (energy_scale on) band e
in_band on band e h = record {
  known = h.known;
  above = rw (lower_is on band) h.above;
  below = λ lt. rw (upper_is on band) (h.below lt);
}

-- a part between two places in a finer scale is one in grains
coarser : (k : ℕ) (cell p p' : ℤ) → HasPart k cell (pos k *ℤ p) (pos k *ℤ p') → HasPart 1 cell p p'
coarser k cell p p' h =
    let start : cell_start k cell ≡ pos k *ℤ cell_start 1 cell = start_finer k 1 cell k (omega arith) in
    let begins = rw start at h.begins in
    let ends = rw start at h.ends in
    let width : k * centimetre ≡ k * (1 * centimetre) = omega arith in
    record {
      apart = scale-<_cancel k _ _ h.apart;
      begins = scale-<_cancel k _ _ begins;
      ends = scale-<_cancel k _ _ (rw scale-+ℤ (omega (arith, ints, ends, width)));
    }

-- the scale is above 0
scale_some : (on : Slopes) → IsUsable on → 0 < energy_scale on
scale_some on usable = mul-pos (omega arith) usable.unit

-- ---- the marks are within the curve to the claim's place

-- the mark before one that is within the curve is within it
mark_within : (on : Slopes) (svl : ℤ) (x y : Mark) → IsUsable on → IsNext on x y →
    IsWithinCurve on (energy_scale on) svl 0 (point_of on y) → IsWithinCurve on (energy_scale on) svl 0 (point_of on x)
mark_within on svl x y usable next within =
    let k = energy_scale on in
    let enough = simp scales at (scale-≤ k _ _ next.enough) in
    backwards on k svl 0 next.band next.slope (point_of on x) (point_of on y) usable (scale_some on usable)
    (in_band on next.band x.energy next.from_band) (in_band on next.band y.energy next.to_band)
    (λ cell part. next.one_slope cell (coarser k cell x.place y.place part))
    (scale-≤ k _ _ next.forward) next.falls (simp scales (omega (arith, ints, enough))) within

-- a mark with no energy at or before the place is within the curve
last_within : (on : Slopes) (svl : ℤ) (x : Mark) → IsUsable on → x.energy ≡ 0 → x.place ≤ℤ svl →
    IsWithinCurve on (energy_scale on) svl 0 (point_of on x)
last_within on svl x usable none by =
    let k = energy_scale on in
    let zero_is : k * (0 * 0) ≡ x.energy = omega arith in
    rw (rw zero_is at (exact_foot on k svl 0)) (whole_at_most _ _ (scale-≤ k _ _ by))

-- a mark from which marks lead to the place is within the curve
lead_within : (on : Slopes) (svl : ℤ) (x : Mark) (ys : List Mark) → IsUsable on → LeadTo on svl x ys →
    IsWithinCurve on (energy_scale on) svl 0 (point_of on x)
lead_within on svl x [] usable lead = last_within on svl x usable lead.0 lead.1
lead_within on svl x (y ∷ ys) usable lead =
    mark_within on svl x y usable lead.0 (lead_within on svl y ys usable lead.1)

-- ---- from the first mark to the first braking point

module _ (on : Slopes) (usable : IsUsable on) (svl : ℤ) (k m : ℕ) (k_pos : 0 < k) (m_pos : 0 < m) where
  -- a place within the curve at the scale `k` is within it at the scale `m`, of every square that is no greater
  between_scales : (p : ℤ) (e u : ℕ) → IsAtMost (whole (pos k *ℤ p)) (exact_at on k svl 0 e) → k * u ≤ m * e →
      IsAtMost (whole (pos m *ℤ p)) (exact_at on m svl 0 u)
  between_scales p e u within le =
      let a = exact_at on k svl 0 e in
      let b = exact_at on m svl 0 u in
      let fine_a = exact_at on (m * k) svl 0 (m * e) in
      let fine_b = exact_at on (k * m) svl 0 (k * u) in
      let turn : k * m ≡ m * k = omega arith in
      let a_is = exact_scaled on k m svl 0 e usable k_pos m_pos in
      let b_is = exact_scaled on m k svl 0 u usable m_pos k_pos in
      let falls : IsAtMost fine_a fine_b =
      rw turn (exact_falls on (m * k) svl 0 (k * u) (m * e) usable (mul-pos m_pos k_pos) le) in
      let a_pos = exact_positive on k svl 0 e usable k_pos in
      let fine_a_pos = exact_positive on (m * k) svl 0 (m * e) usable (mul-pos m_pos k_pos) in
      let fine_b_pos = exact_positive on (k * m) svl 0 (k * u) usable (mul-pos k_pos m_pos) in
      let one : IsAtMost (whole (pos m *ℤ (pos k *ℤ p))) fine_a =
      up m (pos k *ℤ p) a.n fine_a.n a.m fine_a.m a_pos (at_most_out _ a within) a_is.crossed in
      let two : IsAtMost (whole (pos m *ℤ (pos k *ℤ p))) fine_b = at_most_trans _ fine_a fine_b fine_a_pos one falls in
      at_most_in _ b (down k m p b.n fine_b.n b.m fine_b.m k_pos fine_b_pos (at_most_out _ fine_b two) b_is.crossed)
    where
      up : (m : ℕ) (p y_n b_n : ℤ) (y_m b_m : ℕ) → 0 < y_m → (pos y_m *ℤ p) ≤ℤ y_n →
          pos y_m *ℤ b_n ≡ pos b_m *ℤ (pos m *ℤ y_n) → IsAtMost (whole (pos m *ℤ p)) (record { n = b_n; m = b_m })
      up m p y_n b_n y_m b_m y_pos h same =
          let one = simp scales at (scale-≤ b_m _ _ (scale-≤ m _ _ h)) in
          let two = simp scales at same in
          at_most_in (pos m *ℤ p) (record { n = b_n; m = b_m })
          (scale-≤_cancel y_m _ _ y_pos (simp scales (omega (arith, ints, one, two))))

      down : (k m : ℕ) (p y_n b_n : ℤ) (y_m b_m : ℕ) → 0 < k → 0 < b_m →
          (pos b_m *ℤ (pos m *ℤ (pos k *ℤ p))) ≤ℤ b_n → pos y_m *ℤ b_n ≡ pos b_m *ℤ (pos k *ℤ y_n) →
          (pos y_m *ℤ (pos m *ℤ p)) ≤ℤ y_n
      down k m p y_n b_n y_m b_m k_pos b_pos h same =
          let one = simp scales at (scale-≤ y_m _ _ h) in
          let two = simp scales at same in
          scale-≤_cancel (b_m * k) _ _ (mul-pos b_pos k_pos) (simp scales (omega (arith, ints, one, two)))

-- ---- the law

-- the first braking point of a motion is reached with at most the energy of the first mark, at or before it
pub marks_stop : LawOfMarks
marks_stop on c marks usable h m is =
    let s = m.scale in
    let first = m.first in
    let k = energy_scale on in
    let motion = is.1.motion in
    let s_pos : 0 < s * s = mul-pos is.0 is.0 in
    let bound = (in_reach on (start_of c) m 0 motion is.1.speed).begins in
    let marked = lead_within on c.svl h.first h.more usable h.lead in
    let square : first.square ≤ s * s * (v_bec_of c * v_bec_of c) = (let b = bound.square in omega arith) in
    let energy : k * first.square ≤ s * s * h.first.energy = scaled_energy k (s * s) first.square
    (v_bec_of c * v_bec_of c) h.first.energy square h.begins.energy in
    let far : IsAtMost (whole (pos (s * s) *ℤ h.first.place)) (exact_at on (s * s) c.svl 0 first.square) =
    between_scales on usable c.svl k (s * s) (scale_some on usable) s_pos h.first.place h.first.energy first.square
    marked energy in
    let front = rw scale-+ℤ at (scale-≤ (s * s) _ _ h.begins.place) in
    let begins = is.1.place in
    let reach = bound.place in
    let place : first.place ≤ℤ (pos (s * s) *ℤ h.first.place) = omega (arith, ints) in
    let within : IsWithinCurve on (s * s) c.svl 0 first = at_most_trans (whole first.place)
    (whole (pos (s * s) *ℤ h.first.place)) _ (omega arith) (whole_at_most _ _ place) far in
    let held = braking on (s * s) c.svl 0 first m.more usable s_pos motion.braking within in
    All-weaker (IsHeldByCurve on (s * s) c.svl 0) (IsBy s c.svl) (λ y l. l.standing refl) (first ∷ m.more) held
  where
    scaled_energy : (k m u w e : ℕ) → u ≤ m * w → k * w ≤ e → k * u ≤ m * e
    scaled_energy k m u w e h g = omega (arith, mul-le-mul_left k h, mul-le-mul_left m g)
