-- Both ends of an arc have one level, and its end rounded down is the last grain at this level.
use Rattle.std.proofs.Common.{◌≡◌, ℕ, ℤ, pos, neg_ℤ, ◌+◌, ◌-◌, ◌*◌, ◌<◌, ◌+ℤ◌, ◌*ℤ◌, ◌≤ℤ◌, ◌<ℤ◌, ap, arith, sym, ◌∙◌}
use Rattle.std.proofs.Common.{inl, inr}
use Rattle.std.proofs.lemmas.Bool.{cases_lt}
use Rattle.std.proofs.Math.Nat.{mul-pos}
use Rattle.std.proofs.lemmas.Int.{ints}
use Rattle.sdm_num.specs.Fractions.{Fraction, IsSame, whole, floor}
use Rattle.sdm_num.proofs.Ints.{scales, scale-≤_cancel, scale-+ℤ, scale-≤, scale-scale}
use Rattle.sdm_num.proofs.Floors.{floor_low, floor_high, scale-<_cancel}
use Rattle.sdm_num.proofs.Order.{scale-<}
use Rattle.sdm_rules.specs.Slopes.{Slopes}
use Rattle.sdm_rules.specs.Curves.{grain_energy, arc}
use Rattle.sdm_laws.specs.Levels.{integral, integral_in, exact_level, IsLastAtMost}
use Rattle.sdm_laws.proofs.OneBand.Energy.{IsPositive}
use Rattle.sdm_laws.proofs.OneBand.CommonSteps.{factor_left}
use Rattle.sdm_laws.proofs.OneBand.Arcs.{Arc, ArcIn, arc_from, arc_to}
use Rattle.sdm_laws.proofs.OneBand.BothWays.{arc_behind, arc_ahead, arc_pos}
use Rattle.sdm_laws.proofs.OneBand.Integrals.{integral_at_most, integral-add, integral_grows, integral-finer}

-- over an arc the integral grows by its energy
arc_integral : (on : Slopes) (s band n : ℕ) (y x : Fraction) (c : ℕ) → (h : ArcIn on s band n y x c) →
    integral_in on band (s * n) (pos h.to *ℤ x.n) ≡ integral_in on band (s * n) (pos h.from *ℤ y.n) +ℤ pos (n * c)
arc_integral on s band n y x c h = rw (← h.is.used) (integral-add on band (s * n) _ _ h.d h.is.distance)

-- ---- rounding down

-- with `n` steps to a grain, of which `t` are one of the place's, the place rounded down is the last grain at its level
floor_level : (on : Slopes) (band n t : ℕ) (y : Fraction) (l : ℤ) → IsPositive on band → 0 < n → n ≡ t * y.m → 0 < y.m →
    integral_in on band n (pos t *ℤ y.n) ≡ pos n *ℤ l → IsLastAtMost on band l (floor y)
floor_level on band n t y l some n_pos n_is y_pos at =
    let p = floor y in
    let one : n ≡ n * 1 = omega arith in
    let here = integral-finer on band 1 n n p one (omega arith) in
    let next = integral-finer on band 1 n n (p +ℤ pos 1) one (omega arith) in
    let low : (pos n *ℤ p) ≤ℤ (pos t *ℤ y.n) = rw n_is (rw scale-scale at (scale-≤ t _ _ (floor_low y.m y.n y_pos))) in
    let t_pos = factor_left n t y.m n_pos n_is in
    let high : (pos t *ℤ y.n) <ℤ (pos n *ℤ (p +ℤ pos 1)) =
    rw n_is (rw scale-scale at (scale-< t _ _ t_pos (floor_high y.m y.n y_pos))) in
    record {
      low = scale-≤_cancel n _ _ n_pos (omega (arith, ints, here, at, integral_at_most on band n _ _ some low));
      high = scale-<_cancel n _ _ (omega (arith, ints, next, at, integral_grows on band n _ _ some high));
    }

-- the end of an arc from or to a whole grain, rounded down, is the last grain at its level
arc_to_last : (on : Slopes) (band : ℕ) (at : ℤ) (y : Fraction) (c : ℕ) → IsPositive on band → 0 < y.m →
    Arc on 1 band y (whole at) c → IsLastAtMost on band (integral on band at +ℤ neg_ℤ (pos c)) (floor y)
arc_to_last on band at y c some y_pos h =
    let n = h.n in
    let one : 1 * n ≡ n = omega arith in
    let to : h.is.to ≡ n = omega (arith, h.is.to_is) in
    let grows = rw (one, to) at (arc_integral on 1 band n _ _ _ h.is) in
    let at_n = integral-finer on band 1 n n at (omega arith) (omega arith) in
    floor_level on band n h.is.from y _ some h.is.positive h.is.from_is y_pos
    (simp scales (omega (arith, ints, grows, at_n)))

arc_from_last : (on : Slopes) (band : ℕ) (at : ℤ) (y : Fraction) (c : ℕ) → IsPositive on band → 0 < y.m →
    Arc on 1 band (whole at) y c → IsLastAtMost on band (integral on band at +ℤ pos c) (floor y)
arc_from_last on band at y c some y_pos h =
    let n = h.n in
    let one : 1 * n ≡ n = omega arith in
    let from : h.is.from ≡ n = omega (arith, h.is.from_is) in
    let grows = rw (one, from) at (arc_integral on 1 band n _ _ _ h.is) in
    let at_n = integral-finer on band 1 n n at (omega arith) (omega arith) in
    floor_level on band n h.is.to y _ some h.is.positive h.is.to_is y_pos
    (simp scales (omega (arith, ints, grows, at_n)))

-- the energy of a square is that of a lesser one and of the change
pub energy_sum : (on : Slopes) (u d z : ℕ) → z ≡ u + d → grain_energy on z ≡ grain_energy on u + grain_energy on d
energy_sum on u d z e = rw e (omega arith)

-- the place of a square on the arc through a whole grain, rounded down, is the last one at the arc's level
pub arc_last : (on : Slopes) (band : ℕ) (at : ℤ) (u z : ℕ) → IsPositive on band →
    IsLastAtMost on band
    ((integral on band at +ℤ pos (grain_energy on u)) +ℤ neg_ℤ (pos (grain_energy on z)))
    (floor (arc on 1 band (whole at) u z))
arc_last on band at u z some =
    let y_pos = arc_pos on 1 band some (omega arith) (whole at) u z (omega arith) in
    let i = integral on band at in
    elim (cases_lt z u) [
      | inl lt ↦ (
          let l : i +ℤ pos (grain_energy on (u - z))
          ≡ (i +ℤ pos (grain_energy on u)) +ℤ neg_ℤ (pos (grain_energy on z)) =
          omega (arith, ints, energy_sum on z (u - z) u (omega arith)) in
          rw l at
          (arc_from_last on band at _ _ some y_pos (arc_ahead on 1 band some (omega arith) _ u z lt (omega arith))))
      | inr ge ↦ (
          let l : i +ℤ neg_ℤ (pos (grain_energy on (z - u)))
          ≡ (i +ℤ pos (grain_energy on u)) +ℤ neg_ℤ (pos (grain_energy on z)) =
          omega (arith, ints, energy_sum on u (z - u) z (omega arith)) in
          rw l at
          (arc_to_last on band at _ _ some y_pos (arc_behind on 1 band some (omega arith) _ u z ge (omega arith))))
    ]

-- ---- exact places

-- the ends of an arc have one level: the integral of the place and the energy of the square
pub arc_level : (on : Slopes) (s band : ℕ) (y x : Fraction) (u v c : ℕ) → 0 < s →
    grain_energy on u ≡ grain_energy on v + c → Arc on s band y x c →
    IsSame (exact_level on s band y u) (exact_level on s band x v)
arc_level on s band y x u v c s_pos sum h =
    let n = h.n in
    let a = h.is in
    let grows = arc_integral on s band n y x c a in
    let y_fine : s * n ≡ a.from * (s * y.m) = omega (arith, ap (λ (k : ℕ). s * k) a.from_is) in
    let x_fine : s * n ≡ a.to * (s * x.m) = omega (arith, ap (λ (k : ℕ). s * k) a.to_is) in
    let y_n = integral-finer on band (s * y.m) (s * n) a.from y.n y_fine (mul-pos s_pos (arc_from on s band y x c h)) in
    let x_n = integral-finer on band (s * x.m) (s * n) a.to x.n x_fine (mul-pos s_pos (arc_to on s band y x c h)) in
    record {
      crossed = crossed_of n a.from a.to y.m x.m _ _ _ _ c a.positive a.from_is a.to_is sum
          (sym x_n ∙ (grows ∙ ap (λ (z : ℤ). z +ℤ pos (n * c)) y_n));
    }
  where
    crossed_of : (n from to ym xm : ℕ) (i j : ℤ) (eu ev c : ℕ) → 0 < n → n ≡ from * ym → n ≡ to * xm → eu ≡ ev + c →
        pos to *ℤ j ≡ pos from *ℤ i +ℤ pos (n * c) →
        pos xm *ℤ (i +ℤ pos (ym * eu)) ≡ pos ym *ℤ (j +ℤ pos (xm * ev))
    crossed_of n from to ym xm i j eu ev c n_pos from_is to_is sum grows =
        let left : (ym * xm) * to ≡ n * ym = rw to_is (omega arith) in
        let right : (ym * xm) * from ≡ n * xm = rw from_is (omega arith) in
        let both : pos n *ℤ (pos ym *ℤ j) ≡ pos n *ℤ (pos xm *ℤ i +ℤ pos (xm * (ym * c))) =
        rw (
          scale-scale n ym j,
          ← left,
          ← scale-scale (ym * xm) to j,
          grows,
          scale-+ℤ (ym * xm) (pos from *ℤ i) (pos (n * c)),
          scale-scale (ym * xm) from i,
          right,
          scale-+ℤ n (pos xm *ℤ i) (pos (xm * (ym * c))),
          scale-scale n xm i,
        )
        (ap (λ (k : ℕ). pos (n * xm) *ℤ i +ℤ pos k) (omega arith)) in
        let same : pos ym *ℤ j ≡ pos xm *ℤ i +ℤ pos (xm * (ym * c)) =
        omega (
          arith,
          ints,
          scale-≤_cancel n (pos ym *ℤ j) (pos xm *ℤ i +ℤ pos (xm * (ym * c))) n_pos (omega (arith, ints, both)),
          scale-≤_cancel n (pos xm *ℤ i +ℤ pos (xm * (ym * c))) (pos ym *ℤ j) n_pos (omega (arith, ints, both)),
        ) in
        rw (scale-+ℤ xm i (pos (ym * eu)), scale-+ℤ ym j (pos (xm * ev)), sum) (omega (arith, ints, same))
