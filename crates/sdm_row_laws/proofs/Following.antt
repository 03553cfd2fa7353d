-- A train can follow a curve: between two places of a chain of arcs it brakes just as the slopes ask, with a point at
-- each of the steps in which the arcs are whole, at a scale at which the squares there are whole too.
use Rattle.std.proofs.Common.{◌≡◌, ℕ, ℤ, zero, suc, pos, List, ◌∷◌, ◌+◌, ◌-◌, ◌*◌, ◌<◌, ◌≤◌, ◌+ℤ◌, ◌*ℤ◌, ◌≤ℤ◌}
use Rattle.std.proofs.Common.{◌<ℤ◌, ap, arith, refl, subst, sym, ◌∙◌}
use Rattle.std.proofs.lemmas.Int.{ints}
use Rattle.std.specs.Prelude.{Contains}
use Rattle.std.proofs.Math.Nat.{mul-pos, mul-le-mul_left}
use Rattle.sdm_num.specs.Units.{centimetre}
use Rattle.sdm_num.specs.Fractions.{Fraction}
use Rattle.sdm_num.proofs.Ints.{scales, scale-+ℤ, scale-scale, scale-≤_cancel}
use Rattle.sdm_num.proofs.Floors.{scale-<_cancel}
use Rattle.sdm_rules.specs.declared.motions.Point.{Point}
use Rattle.sdm_rules.specs.Slopes.{Slopes}
use Rattle.sdm_rules.specs.Curves.{cell_at, cell_start}
use Rattle.sdm_rules.specs.Motion.{HasPart, IsBraking, IsInBand, IsStep, last_point}
use Rattle.sdm_laws.specs.Energy.{energy, total}
use Rattle.sdm_laws.proofs.OneBand.Totals.{total-zero, total_const}
use Rattle.sdm_laws.proofs.OneBand.Cells.{cell_in, start_finer}
use Rattle.sdm_laws.proofs.OneBand.Energy.{energy-add}
use Rattle.sdm_laws.proofs.OneBand.Arcs.{arc_from}
use Rattle.sdm_laws.proofs.BrakeCurves.Chains.{Chain, arrived, along}
use Rattle.sdm_laws.proofs.Rows.Falls.{later_one}

-- the train brakes step by step from the point `x` to the point `y` and on by the points `ys`
pub record BrakesTo (on : Slopes) (m : ℕ) (x y : Point) (ys : List Point) : Type 0 where
  pub more : List Point
  pub braking : IsBraking on m x more
  pub ends : last_point x more ≡ last_point y ys
  pub has : (z : Point) → Contains (y ∷ ys) z → Contains (x ∷ more) z

-- a place with a square
abbrev pub point : ℤ → ℕ → Point
point p u = record { place = p; square = u }

pub point_same : (p p' : ℤ) (u u' : ℕ) → p ≡ p' → u ≡ u' → point p u ≡ point p' u'
point_same p p' u u' e f = rw (e, f) refl

-- ---- one arc

-- the energy of a step and of the rest
first_energy : (on : Slopes) (band m : ℕ) (p : ℤ) (d : ℕ) →
    energy on band m p (suc d) ≡ on.slope band (cell_at m p) + energy on band m (p +ℤ pos 1) d
first_energy on band m p d =
    let f : ℕ → ℕ = λ k. on.slope band (cell_at m (p +ℤ pos k)) in
    let start : p +ℤ pos 0 ≡ p = omega (arith, ints) in
    let here : total f 1 ≡ on.slope band (cell_at m p) * 1 = total_const f (on.slope band (cell_at m p)) 1
    (λ k lt. let e : k ≡ 0 = omega arith in ap f e ∙ ap (λ (z : ℤ). on.slope band (cell_at m z)) start) in
    let e : suc d ≡ 1 + d = omega arith in
    ap (energy on band m p) e ∙ (energy-add on band m p 1 d ∙ omega arith)

-- the energy of the slope `a` over one step of `k`, where `k` is `g * j`
just_enough : (a k g j x y : ℕ) (p : ℤ) → k ≡ g * j → x ≡ y + 27 * j * a →
    (pos (27 * a) *ℤ (pos k *ℤ (p +ℤ pos 1))) ≤ℤ (pos (27 * a) *ℤ (pos k *ℤ p) +ℤ pos (g * (x - y)))
just_enough a k g j x y p e f =
    let change : x - y ≡ 27 * j * a = omega arith in
    let used : g * (27 * j * a) ≡ 27 * a * k = rw e (omega arith) in
    rw change (rw used (simp scales (omega (arith, ints))))

module _ (on : Slopes) (band m m' k j w : ℕ) (m_pos : 0 < m) (k_pos : 0 < k)
    (k_is : k ≡ 5_000_000_000_000 * on.q * j) (m'_is : m' ≡ k * m) (in_w : IsInBand on m' band w) where
  -- the place `p` in steps, from which `d` steps are left to the square `w`
  abbrev point_at : ℤ → ℕ → Point
  point_at p d = record { place = pos k *ℤ p; square = w + 27 * j * energy on band m p d }

  -- a cell with a part in a step is that of the step
  same_cell : (p cell : ℤ) → HasPart m' cell (pos k *ℤ p) (pos k *ℤ (p +ℤ pos 1)) → cell_at m p ≡ cell
  same_cell p cell part =
      let start : cell_start m' cell ≡ pos k *ℤ cell_start m cell = start_finer k m cell m' m'_is in
      let width : m' * centimetre ≡ k * (m * centimetre) = rw m'_is (omega arith) in
      let begins : cell_start m cell <ℤ (p +ℤ pos 1) = scale-<_cancel k _ _ (rw start at part.begins) in
      let ends : p <ℤ (cell_start m cell +ℤ pos (m * centimetre)) = scale-<_cancel k _ _
      (rw (scale-+ℤ k (cell_start m cell) (pos (m * centimetre))) (rw (start, width) at part.ends)) in
      cell_in m cell p m_pos (omega (arith, ints)) ends

  step : (p : ℤ) (d : ℕ) → IsInBand on m' band (w + 27 * j * energy on band m p (suc d)) →
      IsStep on m' (point_at p (suc d)) (point_at (p +ℤ pos 1) d)
  step p d in_top =
      let a = on.slope band (cell_at m p) in
      let rest = energy on band m (p +ℤ pos 1) d in
      let used : energy on band m p (suc d) ≡ a + rest = first_energy on band m p d in
      let more : w + 27 * j * energy on band m p (suc d) ≡ (w + 27 * j * rest) + 27 * j * a = rw used (omega arith) in
      let low = in_w.above in
      record {
        band = band;
        slope = a;
        from_band = in_top;
        to_band = record {
          known = in_top.known;
          above = omega arith;
          below = λ lt. (let b = in_top.below lt in omega arith);
        };
        one_slope = λ cell part. ap (on.slope band) (sym (same_cell p cell part));
        brakes = record {
          forward = simp scales (omega (arith, ints));
          slower = omega arith;
          enough = just_enough a k (5_000_000_000_000 * on.q) j (w + 27 * j * energy on band m p (suc d))
              (w + 27 * j * rest) p k_is more;
        };
      }

  -- over an arc of `d` steps, and on
  pub arc_followed : (d : ℕ) (p z : ℤ) (ys : List Point) → z ≡ p +ℤ pos d →
      IsInBand on m' band (w + 27 * j * energy on band m p d) →
      IsBraking on m' (record { place = pos k *ℤ z; square = w }) ys →
      BrakesTo on m' (point_at p d) (record { place = pos k *ℤ z; square = w }) ys
  unfolding step
  arc_followed zero p z ys z_is in_top b =
      let here : z ≡ p = omega (arith, ints) in
      let none : w + 27 * j * energy on band m p 0 ≡ w =
      rw (total-zero (λ k. on.slope band (cell_at m (p +ℤ pos k)))) (omega arith) in
      let end : Point = record { place = pos k *ℤ z; square = w } in
      let same : end ≡ point_at p 0 = point_same _ _ _ _ (ap (λ (t : ℤ). pos k *ℤ t) here) (sym none) in
      subst (λ (x : Point). BrakesTo on m' x end ys) same
      (record { more = ys; braking = b; ends = refl; has = λ z h. h })
  arc_followed (suc d) p z ys z_is in_top b =
      let a = step p d in_top in
      let rest = arc_followed d (p +ℤ pos 1) z ys (omega (arith, ints)) a.to_band b in
      record {
        more = point_at (p +ℤ pos 1) d ∷ rest.more;
        braking = (a, rest.braking);
        ends = rest.ends;
        has = λ y h. later_one (point_at p (suc d)) y (point_at (p +ℤ pos 1) d ∷ rest.more) (rest.has y h);
      }

-- ---- a chain

-- a place is a whole number of `k`th parts of a unit
pub record IsAt (k : ℕ) (y : Fraction) (p : ℤ) : Type 0 where
  pub is : pos y.m *ℤ p ≡ pos k *ℤ y.n

-- in them it is one place
same_place : (k : ℕ) (y : Fraction) (p p' : ℤ) → 0 < y.m → IsAt k y p → IsAt k y p' → p ≡ p'
same_place k y p p' y_pos h h' =
    let e = h.is in
    let e' = h'.is in
    let one : p ≤ℤ p' = scale-≤_cancel y.m p p' y_pos (omega (arith, ints)) in
    let two : p' ≤ℤ p = scale-≤_cancel y.m p' p y_pos (omega (arith, ints)) in
    omega (arith, ints)

-- steps of a place in common steps
steps_at : (k g n t : ℕ) (y : Fraction) → n ≡ t * y.m → k ≡ n * g → IsAt k y (pos g *ℤ (pos t *ℤ y.n))
steps_at k g n t y n_is k_is =
    let e : y.m * (g * t) ≡ k = rw (k_is, n_is) (omega arith) in
    record {
      is = rw (scale-scale g t y.n) (scale-scale y.m (g * t) y.n ∙ ap (λ (i : ℕ). pos i *ℤ y.n) e);
    }

-- From the place `y` of the square `u` a train can follow the curve to the place `z` of the square `w`, and brake on
-- from there as it may, at each scale in which `n` is a factor.
pub record Follow (on : Slopes) (s : ℕ) (y : Fraction) (u : ℕ) (z : Fraction) (w : ℕ) : Type 0 where
  pub n : ℕ
  pub positive : 0 < n
  pub at : (j k : ℕ) → k ≡ n * j → (p : ℤ) × IsAt k y p
  pub ends : (j k : ℕ) → k ≡ n * j → (q : ℤ) × IsAt k z q
  pub goes : (j k : ℕ) (p q : ℤ) (ys : List Point) → 0 < j → k ≡ n * j → IsAt k y p → IsAt k z q →
      IsBraking on (k * s) (record { place = q; square = k * w }) ys →
      BrakesTo on (k * s) (record { place = p; square = k * u }) (record { place = q; square = k * w }) ys

-- a square in a band is in it at a finer scale
finer_band : (on : Slopes) (k s band u : ℕ) → IsInBand on s band u → IsInBand on (k * s) band (k * u)
finer_band on k s zero u h = record {
  known = h.known;
  above = omega arith;
  below = λ lt. times_le k s _ u (h.below lt);
}
  where
    times_le : (k s b u : ℕ) → u ≤ s * b → k * u ≤ (k * s) * b
    times_le k s b u le = omega (arith, mul-le-mul_left k le)
finer_band on k s (suc below) u h = record {
  known = h.known;
  above = le_times k s _ u h.above;
  below = λ lt. times_le k s _ u (h.below lt);
}
  where
    times_le : (k s b u : ℕ) → u ≤ s * b → k * u ≤ (k * s) * b
    times_le k s b u le = omega (arith, mul-le-mul_left k le)

    le_times : (k s b u : ℕ) → s * b ≤ u → (k * s) * b ≤ k * u
    le_times k s b u le = omega (arith, mul-le-mul_left k le)

-- the square at the beginning of an arc, by its energy
square_is : (k n g j e u v : ℕ) → k ≡ n * (g * j) → 27 * e ≡ n * (g * (u - v)) → v ≤ u →
    k * u ≡ k * v + 27 * j * e
square_is k n g j e u v k_is used le =
    let d = u - v in
    let u_is : u ≡ v + d = omega arith in
    let lost : 27 * j * e ≡ j * (n * (g * d)) = omega (arith, ap (λ (t : ℕ). j * t) used) in
    rw u_is (rw lost (rw k_is (omega arith)))

pub follow : (on : Slopes) (s : ℕ) → 0 < on.q → 0 < s → (y z : Fraction) (u w : ℕ) → Chain on s y u z w →
    Follow on s y u z w
follow on s q_pos s_pos _ _ _ _ (arrived y u y_pos) =
    record {
      n = y.m;
      positive = y_pos;
      at = λ j k e. (pos j *ℤ y.n, record { is = rw (e, ← scale-scale y.m j y.n) refl });
      ends = λ j k e. (pos j *ℤ y.n, record { is = rw (e, ← scale-scale y.m j y.n) refl });
      goes = λ j k p q ys j_pos e at at' b. (
          let same = same_place k y q p y_pos at' at in
          let end : Point = record { place = q; square = k * u } in
          subst (λ (x : Point). BrakesTo on (k * s) x end ys) (point_same _ _ _ _ same refl)
          (record { more = ys; braking = b; ends = refl; has = λ z h. h }));
    }
follow on s q_pos s_pos _ _ _ _ (along band y x z u v w in_u in_v le arc rest) =
    let r = follow on s q_pos s_pos x z v w rest in
    let g = 5_000_000_000_000 * on.q in
    let a = arc.is in
    let g_pos : 0 < g = mul-pos (omega arith) q_pos in
    record {
      n = r.n * (arc.n * g);
      positive = mul-pos r.positive (mul-pos a.positive g_pos);
      at = λ j k e. (
          let k_is : k ≡ arc.n * (g * (r.n * j)) = rw e (omega arith) in
          (pos (g * (r.n * j)) *ℤ (pos a.from *ℤ y.n), steps_at k (g * (r.n * j)) arc.n a.from y a.from_is k_is));
      ends = λ j k e. r.ends (arc.n * g * j) k (rw e (omega arith));
      goes = λ j k p q ys j_pos e at at' b. (
          let i = r.n * j in
          let f = g * i in
          let k_is : k ≡ arc.n * f = rw e (omega arith) in
          let f_pos : 0 < f = mul-pos g_pos (mul-pos r.positive j_pos) in
          let m = s * arc.n in
          let start = pos a.from *ℤ y.n in
          let end = pos a.to *ℤ x.n in
          let at_x = steps_at k f arc.n a.to x a.to_is k_is in
          let tail = r.goes (arc.n * g * j) k (pos f *ℤ end) q ys (mul-pos (mul-pos a.positive g_pos) j_pos)
          (rw e (omega arith)) at_x at' b in
          let scale_is : k * s ≡ f * m = rw k_is (omega arith) in
          let square : k * u ≡ k * v + 27 * i * energy on band m start a.d =
          square_is k arc.n g i (energy on band m start a.d) u v k_is a.is.used le in
          let place : pos f *ℤ start ≡ p =
          same_place k y _ _ (arc_from on s band y x _ arc) (steps_at k f arc.n a.from y a.from_is k_is) at in
          let top = finer_band on k s band u in_u in
          let head = arc_followed on band m (k * s) f i (k * v) (mul-pos s_pos a.positive) f_pos refl scale_is
          (finer_band on k s band v in_v) a.d start end tail.more a.is.distance (rw (← square) top) tail.braking in
          let same = point_same _ _ _ _ place (sym square) in
          subst (λ (t : Point). BrakesTo on (k * s) t (record { place = q; square = k * w }) ys) same
          (record {
            more = head.more;
            braking = head.braking;
            ends = head.ends ∙ tail.ends;
            has = λ z h. head.has z (tail.has z h);
          }));
    }
