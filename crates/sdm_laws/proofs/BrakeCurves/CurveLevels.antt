-- The places of a curve keep one level in each band, and no other stepped places do from its foot.
use Rattle.std.proofs.Common.{◌≡◌, ℕ, ℤ, suc, pos, neg_ℤ, length, get_or, ◌+◌, ◌-◌, ◌*◌, ◌<◌, ◌≤◌, ◌+ℤ◌, ap}
use Rattle.std.proofs.Common.{arith, refl, sym, ◌∙◌, inl, inr}
use Rattle.std.proofs.lemmas.Bool.{cases_lt}
use Rattle.sdm_num.specs.Fractions.{Fraction, IsSame, whole, floor}
use Rattle.sdm_rules.specs.Slopes.{Slopes, IsUsable}
use Rattle.sdm_rules.specs.Curves.{grain_energy, to_grain, as_is, upper_square, arc, place_at, stepped, exact_at}
use Rattle.sdm_rules.specs.Motion.{IsInBand}
use Rattle.sdm_laws.specs.Levels.{nearest, corner_level, IsLastAtMost, IsSteppedCurve, IsExactCurve, exact_level}
use Rattle.sdm_laws.specs.CurveLaws.{KeepsLevels}
use Rattle.sdm_laws.proofs.OneBand.Arcs.{Arc}
use Rattle.sdm_laws.proofs.OneBand.Integrals.{last_unique}
use Rattle.sdm_laws.proofs.OneBand.Levels.{arc_last, arc_level, energy_sum}
use Rattle.sdm_laws.proofs.OneBand.BothWays.{arc_part}
use Rattle.sdm_laws.proofs.BrakeCurves.CurveOrder.{exact_positive, exact_foot, floor_whole, grain_stays, stepped_foot}
use Rattle.sdm_laws.proofs.BrakeCurves.CurveOrder.{whole_place}
use Rattle.sdm_laws.proofs.BrakeCurves.Corners.{at, foot_at, own_of, outwards, at_pos}
use Rattle.sdm_laws.proofs.BrakeCurves.Nearest.{is_corner, corner_is, place_any, nearest_own, nearest_below}
use Rattle.sdm_laws.proofs.BrakeCurves.Nearest.{nearest_above}
use Rattle.sdm_laws.proofs.BrakeCurves.Bands.{in_its_band, border_below, border_above}

-- ---- stepped places

-- a whole place is rounded already
grain_wholes : (a : ℤ) → to_grain (whole a) ≡ whole a
grain_wholes a = ap whole (floor_whole a)

-- the stepped places are a stepped curve
pub stepped_curve : (on : Slopes) (f : ℤ) (w : ℕ) → IsUsable on → IsSteppedCurve on f w (stepped on f w)
unfolding stepped
stepped_curve on f w usable = record { foot = stepped_foot on f w; level = levels }
  where
    levels : (band v : ℕ) → IsInBand on 1 band (v * v) → IsLastAtMost on band
        (corner_level on w (λ v. floor (place_at to_grain on 1 f w (v * v))) band
        +ℤ neg_ℤ (pos (grain_energy on (v * v))))
        (floor (place_at to_grain on 1 f w (v * v)))
    levels band v h =
        let corner = at to_grain on 1 (foot_at 1 f w) (own_of on 1 w) band in
        let c = nearest on band w in
        let one : 1 * (c * c) ≡ c * c = omega arith in
        let square = rw one at
        (is_corner to_grain on 1 usable (omega arith) grain_stays grain_wholes f w band h.known).square in
        let from = rw one at
        (corner_is to_grain on 1 usable (omega arith) grain_stays grain_wholes f w (λ x h. omega arith) band h.known) in
        let here = place_any to_grain on 1 usable (omega arith) grain_stays grain_wholes f w (λ x h. omega arith) band
        (v * v) h in
        let last = arc_last on band (floor (place_at to_grain on 1 f w (c * c))) (c * c) (v * v)
        (usable.positive band h.known) in
        let value : floor (place_at to_grain on 1 f w (v * v))
        ≡ floor (arc on 1 band (whole (floor (place_at to_grain on 1 f w (c * c)))) (c * c) (v * v)) =
        ap floor (sym here) ∙ (floor_whole _ ∙ rw (from, square, whole_place on f w (c * c)) refl) in
        rw value last

-- ---- exact places

-- the exact places of two squares of one band are joined by one arc in it
pub exact_arc : (on : Slopes) (s : ℕ) (f : ℤ) (w band z' z : ℕ) → IsUsable on → 0 < s → IsInBand on s band z' →
    IsInBand on s band z → z' ≤ z →
    Arc on s band (exact_at on s f w z) (exact_at on s f w z') (grain_energy on (z - z'))
unfolding exact_at
exact_arc on s f w band z' z usable s_pos h' h le =
    let corner = at as_is on s (foot_at s f w) (own_of on s w) band in
    let here = place_any as_is on s usable s_pos (λ x. refl) (λ a. refl) f w (λ x h. h) band z h in
    let there = place_any as_is on s usable s_pos (λ x. refl) (λ a. refl) f w (λ x h. h) band z' h' in
    let part = arc_part on s band (usable.positive band h.known) s_pos corner.place corner.square z' z le
    (at_pos as_is on s usable s_pos (λ x h. h) f w band h.known) in
    rw (here, there) at part

-- the exact places are an exact curve
pub exact_curve : (on : Slopes) (s : ℕ) (f : ℤ) (w : ℕ) → IsUsable on → 0 < s →
    IsExactCurve on s f w (exact_at on s f w)
exact_curve on s f w usable s_pos = record {
  positive = λ z. exact_positive on s f w z usable s_pos;
  foot = rw (exact_foot on s f w) (record { crossed = refl });
  level = λ band z z' h h'. elim (cases_lt z z') [
    | inl lt ↦ same_sym _ _ (falls band z z' h h' (omega arith))
    | inr ge ↦ falls band z' z h' h ge
  ];
}
  where
    same_sym : (x y : Fraction) → IsSame x y → IsSame y x
    same_sym x y h = record { crossed = sym h.crossed }

    falls : (band z' z : ℕ) → IsInBand on s band z' → IsInBand on s band z → z' ≤ z →
        IsSame (exact_level on s band (exact_at on s f w z) z) (exact_level on s band (exact_at on s f w z') z')
    falls band z' z h' h le = arc_level on s band _ _ z z' _ s_pos (energy_sum on z' (z - z') z (omega arith))
        (exact_arc on s f w band z' z usable s_pos h' h le)

-- ---- no other

module _ (on : Slopes) (f : ℤ) (w : ℕ) (usable : IsUsable on) (p q : ℕ → ℤ) (is_p : IsSteppedCurve on f w p)
    (is_q : IsSteppedCurve on f w q) where
  abbrev own : ℕ
  own = own_of on 1 w

  -- with one corner both have one place in the band
  one_place : (band v : ℕ) → IsInBand on 1 band (v * v) → p (nearest on band w) ≡ q (nearest on band w) → p v ≡ q v
  one_place band v h same =
      last_unique on band _ (p v) (q v) (usable.positive band h.known) (rw same at (is_p.level band v h))
      (is_q.level band v h)

  -- the speed of a border is in both bands
  border_once : (band : ℕ) → upper_square on 1 band ≡ get_or on.uppers band 0 * get_or on.uppers band 0
  border_once band = omega arith

  one_corner : (n band : ℕ) → (own - band) + (band - own) ≡ n → band ≤ length on.uppers →
      p (nearest on band w) ≡ q (nearest on band w)
  one_corner = outwards as_is on 1 (foot_at 1 f w) own (in_its_band on 1 (1 * (w * w))).known
      (λ n band. p (nearest on band w) ≡ q (nearest on band w))
      (rw (nearest_own on 1 usable (omega arith) w) (is_p.foot ∙ sym is_q.foot))
      (λ n band lt h. rw (nearest_below on 1 usable (omega arith) w band lt) (one_place (suc band) _
      (rw border_once at (border_above on 1 band usable (omega (arith, (in_its_band on 1 (1 * (w * w))).known)))) h))
      (λ n band ge lt h. rw (nearest_above on 1 usable (omega arith) w band ge lt) (one_place band _
      (rw border_once at (border_below on 1 band usable lt)) h))

  -- so there is one stepped curve
  pub one_curve : (v : ℕ) → p v ≡ q v
  one_curve v = let h = in_its_band on 1 (v * v) in one_place _ v h (one_corner _ _ refl h.known)

-- exact places and stepped ones, and no other
pub levels_kept : (on : Slopes) (f : ℤ) (w : ℕ) → IsUsable on → KeepsLevels on f w
levels_kept on f w usable = record {
  exact_curve = λ s s_pos. exact_curve on s f w usable s_pos;
  stepped_curve = stepped_curve on f w usable;
  no_other = λ place is v. one_curve on f w usable place (stepped on f w) is (stepped_curve on f w usable) v;
}
