-- The law of one stretch. Were the train past the curve's place at the end, the curve would lie between its two places
-- on the whole distance, where no slope is above its own. So the curve would need at least as long a distance for the
-- same change of the square, and the train could not be past it.
use Rattle.std.proofs.Common.{◌≡◌, ℕ, ℤ, pos, ◌+◌, ◌-◌, ◌*◌, ◌<◌, ◌≤◌, ◌+ℤ◌, ◌*ℤ◌, ◌≤ℤ◌, ap, arith, ◌∙◌, inl, inr}
use Rattle.std.proofs.lemmas.Int.{ints, by_lt_z}
use Rattle.std.proofs.lemmas.Bool.{cases_lt}
use Rattle.std.proofs.Math.Nat.{mul-le-mul_left, mul-pos}
use Rattle.sdm_num.specs.Units.{centimetre}
use Rattle.sdm_num.specs.Fractions.{Fraction, IsAtMost, IsBefore, whole}
use Rattle.sdm_num.proofs.Ints.{scales, scale-≤, scale-+ℤ, scale-≤_cancel}
use Rattle.sdm_num.proofs.Floors.{scale-<_cancel}
use Rattle.sdm_num.proofs.Order.{at_most_trans, at_most_before, at_most_in, at_most_out}
use Rattle.sdm_rules.specs.declared.motions.Point.{Point}
use Rattle.sdm_rules.specs.Slopes.{Slopes, IsUsable}
use Rattle.sdm_rules.specs.Curves.{cell_at, cell_start, grain_energy, exact_at}
use Rattle.sdm_rules.specs.Motion.{HasPart, BrakesAtLeast}
use Rattle.sdm_laws.specs.Energy.{energy}
use Rattle.sdm_laws.specs.MotionLaws.{IsSteepest, IsWithinCurve}
use Rattle.sdm_laws.proofs.OneBand.Totals.{total_at_most}
use Rattle.sdm_laws.proofs.OneBand.Cells.{cell_low, cell_high, start_finer}
use Rattle.sdm_laws.proofs.OneBand.Energy.{ArePositive, energy_at_least}
use Rattle.sdm_laws.proofs.OneBand.CommonSteps.{factor_left, steps_of_at_most, steps_of_before}
use Rattle.sdm_laws.proofs.OneBand.Arcs.{Arc, arc_to}
use Rattle.sdm_laws.proofs.BrakeCurves.Chains.{Chain, arrived, along, arc_at_most, chain_falls, chain_from, chain_to}
use Rattle.sdm_laws.proofs.BrakeCurves.Chains.{chain_at_most}
use Rattle.sdm_laws.proofs.BrakeCurves.CurveOrder.{exact_chain}

-- ---- how long a curve's distance is at least

-- `x` is at least `c / (27 * a)` past `y`: the distance that the slope `a` needs for the energy `c`
record IsApart (a c : ℕ) (y x : Fraction) : Type 0 where
  apart : (pos ((27 * a) * x.m) *ℤ y.n +ℤ pos (c * (y.m * x.m))) ≤ℤ (pos ((27 * a) * y.m) *ℤ x.n)

-- distances apart, and the energies that they use, add up along the way
apart_trans : (a c c' : ℕ) (y x z : Fraction) → 0 < x.m → IsApart a c y x → IsApart a c' x z → IsApart a (c + c') y z
apart_trans a c c' y x z p h k =
    let one = simp scales at (scale-≤ z.m _ _ h.apart) in
    let two = simp scales at (scale-≤ y.m _ _ k.apart) in
    record { apart = scale-≤_cancel x.m _ _ p (simp scales (omega (arith, ints, one, two))) }

-- a place is apart from itself by no energy
apart_none : (a c : ℕ) (x : Fraction) → c ≡ 0 → IsApart a c x x
apart_none a c x e = record { apart = rw e (omega (arith, ints)) }

-- an arc in whose cells no slope is above `a`
arc_apart : (on : Slopes) (s band a c : ℕ) (y x : Fraction) → (h : Arc on s band y x c) →
    ((k : ℕ) → k < h.is.d → on.slope band (cell_at (s * h.n) (pos h.is.from *ℤ y.n +ℤ pos k)) ≤ a) → IsApart a c y x
arc_apart on s band a c y x h low =
    let n = h.n in
    let from = h.is.from in
    let to = h.is.to in
    let d = h.is.d in
    let most : energy on band (s * n) (pos from *ℤ y.n) d ≤ a
    * d = total_at_most (λ k. on.slope band (cell_at (s * n) (pos from *ℤ y.n +ℤ pos k))) a d low in
    let used = h.is.is.used in
    let enough : c * (n * n) ≤ ((27 * a) * n) * d = let e : n * c ≤ 27 * (a * d) = omega arith
    in omega (arith, mul-le-mul_left n e) in
    let distance = simp scales at (ap (λ (z : ℤ). pos ((27 * a) * n) *ℤ z) h.is.is.distance) in
    let both_pos : 0 < to * from = mul-pos (factor_left n to x.m h.is.positive h.is.to_is)
    (factor_left n from y.m h.is.positive h.is.from_is) in
    let y_side : (to * from) * ((27 * a) * x.m) ≡ ((27 * a) * n) * from = rw h.is.to_is (omega arith) in
    let x_side : (to * from) * ((27 * a) * y.m) ≡ ((27 * a) * n) * to = rw h.is.from_is (omega arith) in
    let between : (to * from) * (c * (y.m * x.m)) ≡ c * (n * n) = squared n from to c y.m x.m h.is.from_is h.is.to_is in
    record {
      apart = scale-≤_cancel (to * from) _ _ both_pos
          (simp scales (rw (y_side, between, x_side) (omega (arith, ints, distance, enough))));
    }
  where
    squared : (n from to c y x : ℕ) → n ≡ from * y → n ≡ to * x → (to * from) * (c * (y * x)) ≡ c * (n * n)
    squared n from to c y x p q =
        let e : n * n ≡ (to * x) * (from * y) = ap (λ (z : ℕ). z * n) q ∙ ap (λ (z : ℕ). (to * x) * z) p in
        omega (arith, ap (λ (z : ℕ). c * z) e)

-- ---- the cells of a curve between two places

-- each step of an arc between `p` and `p'` is in a cell that has a part there
arc_part : (on : Slopes) (s band c : ℕ) (y x : Fraction) (p p' : ℤ) (h : Arc on s band y x c) (k : ℕ) → 0 < s →
    k < h.is.d →
    IsAtMost (whole p) y → IsBefore x (whole p') →
    HasPart s (cell_at (s * h.n) (pos h.is.from *ℤ y.n +ℤ pos k)) p p'
arc_part on s band c y x p p' h k s_pos lt low high =
    let n = h.n in
    let at = pos h.is.from *ℤ y.n +ℤ pos k in
    let cell = cell_at (s * n) at in
    let begins = cell_low (s * n) at (mul-pos s_pos h.is.positive) in
    let ends = cell_high (s * n) at (mul-pos s_pos h.is.positive) in
    let start : cell_start (s * n) cell ≡ pos n *ℤ cell_start s cell = start_finer n s cell (s * n) (omega arith) in
    let width : (s * n) * centimetre ≡ n * (s * centimetre) = omega arith in
    let distance = h.is.is.distance in
    let from : (pos n *ℤ p) ≤ℤ (pos h.is.from *ℤ y.n) = steps_of_at_most n h.is.from n y
    (whole p) h.is.positive h.is.from_is (omega arith) low in
    let to = steps_of_before n n h.is.to (whole p') x h.is.positive (omega arith) h.is.to_is high in
    record {
      apart = scale-<_cancel n _ _ (omega (arith, ints, from, to, distance));
      begins = scale-<_cancel n _ _ (rw (← start) (omega (arith, ints, begins, to, distance)));
      ends = scale-<_cancel n _ _ (rw scale-+ℤ (rw (← start) (omega (arith, ints, ends, from, width))));
    }

-- an arc with a step in it changes the square
arc_moves : (on : Slopes) (s band : ℕ) (y x : Fraction) (u v k : ℕ) → ((c : ℤ) → 0 < on.slope band c) →
    (h : Arc on s band y x (grain_energy on (u - v))) → v ≤ u → k < h.is.d → v < u
arc_moves on s band y x u v k some h le lt =
    elim (cases_lt v u) [
      | inl less ↦ less
      | inr ge ↦ absurd (
          let more = energy_at_least on band (s * h.n) 1 h.is.d (pos h.is.from *ℤ y.n) some in
          let none : u - v ≡ 0 = omega arith in
          let used = rw none at h.is.is.used in
          omega arith)
    ]

module _ (on : Slopes) (s a : ℕ) (from to : Point) (s_pos : 0 < s) (positive : ArePositive on)
    (steep : IsSteepest on s a from to) where
  -- a curve between both places, for squares between both squares, needs a distance at least as long as the slope `a`
  -- does
  chain_apart : (y x : Fraction) (u w : ℕ) → u ≤ from.square → to.square ≤ w → Chain on s y u x w →
      IsAtMost (whole from.place) y →
      IsBefore x (whole to.place) → IsApart a (grain_energy on (u - w)) y x
  chain_apart _ _ _ _ u_le w_ge (arrived y u y_pos) low high =
      apart_none a _ y (let none : u - u ≡ 0 = omega arith in rw none (omega arith))
  chain_apart _ _ _ _ u_le w_ge (along band y x z u v w in_u in_v le arc rest) low high =
      let x_pos = arc_to on s band y x _ arc in
      let w_le = chain_falls on s x z v w rest in
      let y_at_most = arc_at_most on s band _ y x arc in
      let x_before : IsBefore x (whole to.place) = at_most_before x z (whole to.place) x_pos
      (chain_to on s x z v w rest) (chain_at_most on s x z v w rest) high in
      let gentle = λ (k : ℕ) (lt : k < arc.is.d).
      steep band _ (record {
        low = v;
        high = u;
        in_low = in_v;
        in_high = in_u;
        from = omega arith;
        apart =
            arc_moves on s band y x u v k (positive band in_u.known) arc le lt;
        to = u_le;
      })
      (arc_part on s band _ y x from.place to.place arc k s_pos lt low x_before) in
      let here = arc_apart on s band a _ y x arc gentle in
      let further = chain_apart x z v w (omega arith) w_ge rest
      (at_most_trans (whole from.place) y x
      (chain_from on s y z u w (along band y x z u v w in_u in_v le arc rest)) low y_at_most) high in
      let sum : grain_energy on (u - v) + grain_energy on (v - w) ≡ grain_energy on (u - w) = let d : (u - v) + (v - w)
      ≡ u - w = omega arith in omega (arith, ap (λ (e : ℕ). on.q * e) d) in
      rw (← sum) (apart_trans a _ _ y x z x_pos here further)

-- a distance that is no longer than the curve's does not pass it
not_past : (a c : ℕ) (y y' : Fraction) (p p' : ℤ) → 0 < a → 0 < y.m → IsApart a c y y' → IsAtMost (whole p) y →
    (pos (27 * a) *ℤ p') ≤ℤ (pos (27 * a) *ℤ p +ℤ pos c) → IsAtMost (whole p') y'
not_past a c y y' p p' a_pos y_pos h low brakes =
    let one = simp scales at (scale-≤ ((27 * a) * y'.m) _ _ (at_most_out p y low)) in
    let two = simp scales at (scale-≤ (y.m * y'.m) _ _ brakes) in
    let three = h.apart in
    at_most_in p' y' (scale-≤_cancel ((27 * a) * y.m) _ _ (mul-pos (mul-pos (omega arith) a_pos) y_pos)
    (simp scales (omega (arith, ints, one, two, three))))

-- the law of one stretch: a train within the curve that brakes with its steepest slope is within it after the
-- stretch
pub stretch : (on : Slopes) (m : ℕ) (f : ℤ) (w a : ℕ) (x y : Point) → IsUsable on → 0 < m → 0 < a →
    IsSteepest on m a x y → BrakesAtLeast on a x.place x.square y.place y.square → IsWithinCurve on m f w x →
    IsWithinCurve on m f w y
stretch on m f w a x y usable m_pos a_pos steep brakes within =
    let from = exact_at on m f w x.square in
    let to = exact_at on m f w y.square in
    let chain = exact_chain on m usable m_pos f w y.square x.square brakes.slower in
    by_lt_z to.n (pos to.m *ℤ y.place)
    (λ lt.
    let before : IsBefore to (whole y.place) = record { crossed = omega (arith, ints, lt) } in
    let apart = chain_apart on m a x y m_pos usable.positive steep from to x.square y.square (omega arith)
    (omega arith) chain within before in
    not_past a _ from to x.place y.place a_pos
    (chain_from on m from to x.square y.square chain) apart within brakes.enough)
    (λ le. at_most_in y.place to le)
