-- A curve through a place that another curve has left behind stays past it: where two curves over one map of slopes
-- have places in one order, arcs of one energy lead to places in that order, in each band and so in all.
use Rattle.std.proofs.Common.{◌≡◌, ℕ, ℤ, suc, pos, ◌-◌, ◌*◌, ◌<◌, ◌≤◌, ◌+ℤ◌, ◌*ℤ◌, ◌≤ℤ◌, ◌<ℤ◌, zero, ap, arith, refl}
use Rattle.std.proofs.Common.{subst, sym}
use Rattle.std.specs.Int.{int_gap}
use Rattle.std.proofs.lemmas.Int.{ints, by_lt_z}
use Rattle.std.proofs.lemmas.Nat.{mul-le}
use Rattle.std.proofs.Math.Nat.{mul-pos, mul-le-mul_left}
use Rattle.sdm_num.specs.Fractions.{Fraction, IsAtMost, IsBefore, IsSame, more, times, whole}
use Rattle.sdm_num.proofs.Ints.{scales, scale-≤, scale-≤_cancel}
use Rattle.sdm_num.proofs.Order.{at_most_in, not_both}
use Rattle.sdm_rules.specs.Slopes.{Slopes, IsUsable}
use Rattle.sdm_rules.specs.Curves.{as_is, exact_at, grain_energy, upper_square}
use Rattle.sdm_rules.specs.Motion.{IsInBand}
use Rattle.sdm_laws.proofs.OneBand.Arcs.{Arc, past_back}
use Rattle.sdm_laws.proofs.OneBand.CommonSteps.{IsPastBy, past_of_steps}
use Rattle.sdm_laws.proofs.OneBand.Energy.{IsPositive, energy_at_least}
use Rattle.sdm_laws.proofs.BrakeCurves.Bands.{band_at, in_its_band, past_lower}
use Rattle.sdm_laws.proofs.BrakeCurves.Corners.{joined}
use Rattle.sdm_laws.proofs.BrakeCurves.CurveLevels.{exact_arc}
use Rattle.sdm_laws.proofs.BrakeCurves.CurveOrder.{exact_foot, exact_positive}
use Rattle.sdm_laws.proofs.BrakeCurves.CurveScales.{exact_scaled}
use Rattle.sdm_laws.proofs.BrakeCurves.TwoCurves.{usable_fair}
use Rattle.sdm_laws.proofs.Rows.Falls.{int_gap_is}

-- ---- two curves in order

-- a place at or past another is so by some grains
past_by_some : (x x' : Fraction) → 0 < x.m → 0 < x'.m → IsAtMost x' x →
    IsPastBy x x' (int_gap (pos x.m *ℤ x'.n) (pos x'.m *ℤ x.n))
past_by_some x x' x_pos x'_pos le =
    let gap = int_gap (pos x.m *ℤ x'.n) (pos x'.m *ℤ x.n) in
    record {
      left = x_pos;
      right = x'_pos;
      not_before = le;
      near = record { crossed = within_gap x.m x'.m x.n x'.n gap x_pos x'_pos (int_gap_is _ _ le.crossed) };
    }
  where
    within_gap : (m m' : ℕ) (n n' : ℤ) (gap : ℕ) → 0 < m → 0 < m' → pos m' *ℤ n ≡ (pos m *ℤ n') +ℤ pos gap →
        (pos m' *ℤ n) ≤ℤ (pos m *ℤ (n' +ℤ pos (gap * m')))
    within_gap m m' n n' gap m_pos m'_pos is =
        let some = mul-le-mul_left gap (mul-pos m_pos m'_pos) in
        simp scales (omega (arith, ints, is, some))

module _ (on : Slopes) (usable : IsUsable on) (f z : ℤ) (w v : ℕ) where
  -- at a square the curve from `z` is past that from `f`
  abbrev IsPast : ℕ → Type 0
  IsPast u = IsBefore (exact_at on 1 f w u) (exact_at on 1 z v u)

  past_in_band : (band u' u : ℕ) → IsInBand on 1 band u' → IsInBand on 1 band u → u' ≤ u → IsPast u → IsPast u'
  past_in_band band u' u h' h le past =
      let x' = exact_at on 1 f w u' in
      let y' = exact_at on 1 z v u' in
      let fair = usable_fair on usable in
      by_lt_z (pos y'.m *ℤ x'.n) (pos x'.m *ℤ y'.n)
      (λ (lt : (pos y'.m *ℤ x'.n) <ℤ (pos x'.m *ℤ y'.n)). record { crossed = lt })
      (λ (ge : (pos x'.m *ℤ y'.n) ≤ℤ (pos y'.m *ℤ x'.n)).
      let apart = past_by_some x' y' (exact_positive on 1 f w u' usable (omega arith))
      (exact_positive on 1 z v u' usable (omega arith)) (record { crossed = ge }) in
      let before = past_back on 1 band _ _ _ _ _ _ _ (omega arith) (fair.positive band h.known)
      (fair.even band h.known) apart (exact_arc on 1 f w band u' u usable (omega arith) h' h le)
      (exact_arc on 1 z v band u' u usable (omega arith) h' h le) in
      absurd (not_both _ _ past before.not_before))

  -- and so it is at each lesser square
  pub past_below : (u' u : ℕ) → u' ≤ u → IsPast u → IsPast u'
  past_below u' u le =
      joined as_is on 1 (λ _ u _ u'. IsPast u → IsPast u') (λ y x z u v w h k past. k (h past))
      (λ band x c u' u h' h le x_pos. past_in_band band u' u h' h le) (λ x. refl) (λ x h. h) usable (omega arith) f w
      u' u le

-- where the place `z` is past the curve from the foot, the curve through `z` is past the foot
pub past_foot : (on : Slopes) → IsUsable on → (f z : ℤ) (w v : ℕ) → w ≤ v →
    IsBefore (exact_at on 1 f w (v * v)) (whole z) → IsBefore (whole f) (exact_at on 1 z v (w * w))
past_foot on usable f z w v le before =
    let once : (u : ℕ) → 1 * u ≡ u = λ u. omega arith in
    let same : (a : ℤ) → pos 1 *ℤ a ≡ a = λ a. omega (arith, ints) in
    let through : exact_at on 1 z v (v * v) ≡ whole z = rw (once (v * v), same z) at (exact_foot on 1 z v) in
    let foot : exact_at on 1 f w (w * w) ≡ whole f = rw (once (w * w), same f) at (exact_foot on 1 f w) in
    subst (λ (x : Fraction). IsBefore x (exact_at on 1 z v (w * w))) foot
    (past_below on usable f z w v (w * w) (v * v) (mul-le w w v v le le)
    (subst (IsBefore (exact_at on 1 f w (v * v))) (sym through) before))

-- ---- a little faster

-- an arc is no longer than its energy, in grains
arc_length : (on : Slopes) (s band c : ℕ) (y x : Fraction) → IsPositive on band → Arc on s band y x c → IsPastBy x y c
arc_length on s band c y x some h =
    let d = h.is.d in
    let least = energy_at_least on band (s * h.n) 1 d (pos h.is.from *ℤ y.n) some in
    let used = h.is.is.used in
    past_of_steps h.n h.is.to h.is.from c x y h.is.positive h.is.to_is h.is.from_is
    (record { f = d; is = h.is.is.distance; most = omega arith })

-- a place at most `b` before `s` times one past `f`, where `b` is little beside `s`, is at or past `s` times `f`
still_past : (s b : ℕ) (f : ℤ) (x0 big x : Fraction) → 0 < x0.m → 0 < big.m → 0 < x.m → IsBefore (whole f) x0 →
    IsSame big (times s x0) → IsAtMost big (more x b) → b * x0.m ≤ s → IsAtMost (whole (pos s *ℤ f)) x
still_past s b f x0 big x x0_pos big_pos x_pos past same near little =
    at_most_in (pos s *ℤ f) x
    (over_all s b x0.m big.m x.m f x0.n big.n x.n x0_pos big_pos past.crossed same.crossed near.crossed little)
  where
    over_all : (s b m0 m1 m : ℕ) (f n0 n1 n : ℤ) → 0 < m0 → 0 < m1 → (pos m0 *ℤ f) <ℤ (pos 1 *ℤ n0) →
        pos m0 *ℤ n1 ≡ pos m1 *ℤ (pos s *ℤ n0) → (pos m *ℤ n1) ≤ℤ (pos m1 *ℤ (n +ℤ pos (b * m))) → b * m0 ≤ s →
        (pos m *ℤ (pos s *ℤ f)) ≤ℤ n
    over_all s b m0 m1 m f n0 n1 n m0_pos m1_pos past same near little =
        let next : ((pos m0 *ℤ f) +ℤ pos 1) ≤ℤ n0 = omega (arith, ints, past) in
        let one = simp scales at (scale-≤ (m * m1 * s) _ _ next) in
        let two = simp scales at (scale-≤ m0 _ _ near) in
        let three = simp scales at (ap (λ (t : ℤ). pos m *ℤ t) same) in
        let some = mul-le-mul_left (m * m1) little in
        scale-≤_cancel (m0 * m1) _ _ (mul-pos m0_pos m1_pos)
        (simp scales (omega (arith, ints, one, two, three, some)))

-- A scale at which the place of a square one above that of `w` is at or past the foot
pub record HasSlower (on : Slopes) (f z : ℤ) (w v : ℕ) : Type 0 where
  pub r : ℕ
  pub positive : 0 < r
  pub reached : IsAtMost (whole (pos (r * r) *ℤ f)) (exact_at on (r * r) z v (suc (r * r * (w * w))))

pub has_slower : (on : Slopes) → IsUsable on → (f z : ℤ) (w v : ℕ) → IsBefore (whole f) (exact_at on 1 z v (w * w)) →
    HasSlower on f z w v
has_slower on usable f z w v past =
    let x0 = exact_at on 1 z v (w * w) in
    let x0_pos : 0 < x0.m = exact_positive on 1 z v (w * w) usable (omega arith) in
    let b = grain_energy on 1 in
    let unit = usable.unit in
    let b_pos : 0 < b = mul-pos (mul-pos (omega arith) unit) (omega arith) in
    let r = b * x0.m in
    let r_pos : 0 < r = mul-pos b_pos x0_pos in
    let s = r * r in
    let s_pos : 0 < s = mul-pos r_pos r_pos in
    let u = s * (w * w) in
    let h = in_its_band on s (suc u) in
    let band = band_at on s (suc u) in
    let once : s * 1 ≡ s = omega arith in
    let same : IsSame (exact_at on s z v u) (times s x0) = subst (λ (k : ℕ). IsSame (exact_at on k z v u) (times s x0))
    once (exact_scaled on 1 s z v (w * w) usable (omega arith) s_pos) in
    let one : suc u - u ≡ 1 = omega arith in
    let part = rw one at (exact_arc on s z v band u (suc u) usable s_pos (below on s u band (past_lower on s (suc u)) h) h (omega arith)) in
    let near = (arc_length on s band _ _ _ (usable.positive band h.known) part).near in
    record {
      r = r;
      positive = r_pos;
      reached =
          still_past s b f x0 _ _ x0_pos (exact_positive on s z v u usable s_pos)
          (exact_positive on s z v (suc u) usable s_pos) past same near
          (omega (arith, mul-le-mul_left r r_pos));
    }
  where
    -- a square one less is in the band, too
    below : (on : Slopes) (s u band : ℕ) → ((b : ℕ) → b < band → upper_square on s b < suc u) →
        IsInBand on s band (suc u) → IsInBand on s band u
    below on s u zero past h = record {
      known = h.known;
      above = omega arith;
      below = λ lt. omega (arith, h.below lt);
    }
    below on s u (suc b) past h = record {
      known = h.known;
      above = omega (arith, past b (omega arith));
      below = λ lt. omega (arith, h.below lt);
    }
