-- The walk back through the cells of one band uses up just the energy that it is asked for: each whole cell takes its
-- share, and the last arc the rest.
use Rattle.std.proofs.Common.{◌≡◌, ℕ, ℤ, zero, suc, pos, neg_ℤ, ◌+◌, ◌-◌, ◌*◌, ◌<◌, ◌≤◌, ◌+ℤ◌, ◌*ℤ◌, unsigned_abs, ap}
use Rattle.std.proofs.Common.{arith, rules, refl, ◌∙◌, inl, inr}
use Rattle.std.proofs.lemmas.Int.{ints}
use Rattle.std.proofs.lemmas.Bool.{cases_lt}
use Rattle.std.proofs.Math.Nat.{mul-le-mul_left, mul-pos}
use Rattle.sdm_num.specs.Fractions.{Fraction}
use Rattle.sdm_num.proofs.Ints.{scale-+ℤ}
use Rattle.sdm_rules.specs.Slopes.{Slopes}
use Rattle.sdm_rules.specs.Curves.{cell_at, cell_start, back}
use Rattle.sdm_laws.proofs.OneBand.Cells.{IsInCell, cell_low, cell_high, start_finer, in_cell_finer}
use Rattle.sdm_laws.proofs.OneBand.Energy.{IsPositive}
use Rattle.sdm_laws.proofs.OneBand.Distances.{IsDistance, distance_none, distance_in_cell, distance_joined}
use Rattle.sdm_laws.proofs.OneBand.Distances.{distance_finer}

-- `y` lies before `x` by a distance with the energy `r`, as the steps of `x` count it; the steps of `y` are `t` times
-- finer
pub record IsBackBy (on : Slopes) (s band : ℕ) (x y : Fraction) (r : ℕ) : Type 0 where
  pub t : ℕ
  pub d : ℕ
  pub positive : 0 < t
  pub finer : y.m ≡ t * x.m
  pub is : IsDistance on band (s * y.m) y.n (pos t *ℤ x.n) d (t * r)

steps_finer : (s t m m' : ℕ) → m' ≡ t * m → s * m' ≡ t * (s * m)
steps_finer s t m m' e = omega (arith, ap (λ (x : ℕ). s * x) e)

pub one_times : (z : ℤ) → z ≡ pos 1 *ℤ z
one_times z = omega (arith, ints)

-- what is used in a cell and what is left are the whole
whole_and_left : (t r w : ℕ) → w < r → t * (r - w) + t * w ≡ t * r
whole_and_left t r w lt = let e : (r - w) + w ≡ r = omega arith in omega (arith, ap (λ (x : ℕ). t * x) e)

-- each cell uses up at least 1
fuel_left : (r k g fuel : ℕ) → 0 < k → 0 < g → r ≤ suc fuel → r - k * g ≤ fuel
fuel_left r k g fuel p q l = omega (arith, mul-le-mul_left k q)

-- the cell before `x`, and the steps from its start to `x`
abbrev cell_before : ℕ → Fraction → ℤ
cell_before s x = cell_at (s * x.m) (x.n +ℤ neg_ℤ (pos 1))

-- the steps from the start of the cell before `x` to `x`
abbrev gap_before : ℕ → Fraction → ℕ
gap_before s x = unsigned_abs (x.n +ℤ neg_ℤ (cell_start (s * x.m) (cell_before s x)))

-- `x` lies some steps past the start of the cell before it
record GapBefore (s : ℕ) (x : Fraction) : Type 0 where
  is : x.n ≡ cell_start (s * x.m) (cell_before s x) +ℤ pos (gap_before s x)
  some : 0 < gap_before s x
  from : IsInCell (s * x.m) (cell_before s x) (cell_start (s * x.m) (cell_before s x))
  to : IsInCell (s * x.m) (cell_before s x) x.n

gap_before-is : (s : ℕ) (x : Fraction) → 0 < s * x.m → GapBefore s x
gap_before-is s x p =
    let low = cell_low (s * x.m) (x.n +ℤ neg_ℤ (pos 1)) p in
    let high = cell_high (s * x.m) (x.n +ℤ neg_ℤ (pos 1)) p in
    record {
      is = omega (arith, ints);
      some = omega (arith, ints);
      from = record { low = omega (arith, ints); high = omega (arith, ints) };
      to = record { low = omega (arith, ints); high = omega (arith, ints) };
    }

-- the energy is used up in the cell before `x`
back_here : (on : Slopes) (s band fuel : ℕ) (x : Fraction) (r : ℕ) →
    r ≤ (27 * on.slope band (cell_before s x)) * gap_before s x →
    back on s band (suc fuel) x r ≡ record {
      n = pos (27 * on.slope band (cell_before s x)) *ℤ x.n +ℤ neg_ℤ (pos r);
      m =
          (27 * on.slope band (cell_before s x)) * x.m;
    }
unfolding back
back_here on s band fuel x r h = search rules

-- or more than that cell's is left
back_on : (on : Slopes) (s band fuel : ℕ) (x : Fraction) (r : ℕ) →
    (27 * on.slope band (cell_before s x)) * gap_before s x < r →
    back on s band (suc fuel) x r ≡ back on s band fuel (record {
      n = cell_start (s * x.m) (cell_before s x);
      m =
          x.m;
    }) (r - (27 * on.slope band (cell_before s x)) * gap_before s x)
unfolding back
back_on on s band fuel x r h = search rules

-- the last arc lies in one cell; its beginning is a step of a grid that is `k` times finer
last_back : (on : Slopes) (band n n' k r g : ℕ) (c x y : ℤ) → 0 < n' → n' ≡ k * n → k ≡ 27 * on.slope band c →
    x ≡ cell_start n c +ℤ pos g →
    IsInCell n c x → r ≤ k * g →
    y ≡ pos k *ℤ x +ℤ neg_ℤ (pos r) → IsDistance on band n' y (pos k *ℤ x) r (k * r)
last_back on band n n' k r g c x y n_pos e k_is gap_is here r_le y_is =
    let to = in_cell_finer k n n' c x e here in
    let start = start_finer k n c n' e in
    let gap = ap (λ (z : ℤ). pos k *ℤ z) gap_is ∙ scale-+ℤ k (cell_start n c) (pos g) in
    let from : IsInCell n' c y =
    record { low = rw start (omega (arith, ints, gap)); high = omega (arith, ints, to.high) } in
    let distance : pos k *ℤ x ≡ y +ℤ pos r = omega (arith, ints) in
    rw k_is (rw k_is at (distance_in_cell on band n' y (pos k *ℤ x) r c n_pos distance from to))

-- a whole cell's arc, and the walk on from the cell's start
on_back : (on : Slopes) (s band : ℕ) (x z y : Fraction) (r g : ℕ) (c : ℤ) → 0 < s * x.m → z.m ≡ x.m →
    x.n ≡ z.n +ℤ pos g →
    IsInCell (s * x.m) c z.n → IsInCell (s * x.m) c x.n →
    (27 * on.slope band c) * g < r → IsBackBy on s band z y (r - (27 * on.slope band c) * g) → IsBackBy on s band x y r
on_back on s band x z y r g c m_pos m_is gap_is from to lt h =
    let finer : y.m ≡ h.t * x.m = h.finer ∙ ap (λ (w : ℕ). h.t * w) m_is in
    let cell = distance_finer on band h.t (s * x.m) (s * y.m) z.n x.n g _ (steps_finer s h.t x.m y.m finer) m_pos
    (distance_in_cell on band (s * x.m) z.n x.n g c m_pos gap_is from to) in
    let both = distance_joined on band (s * y.m) y.n (pos h.t *ℤ z.n) (pos h.t *ℤ x.n) h.d (h.t * g) _ _ h.is cell in
    record {
      t = h.t;
      d = h.d + h.t * g;
      positive = h.positive;
      finer = finer;
      is =
          rw (whole_and_left h.t r ((27 * on.slope band c) * g) lt) at both;
    }

-- the walk back uses up the energy that it is asked for
pub back-is : (on : Slopes) (s band fuel : ℕ) (x : Fraction) (r : ℕ) → IsPositive on band → 0 < s * x.m → r ≤ fuel →
    IsBackBy on s band x (back on s band fuel x r) r
unfolding back
back-is on s band zero x r some m_pos le =
    let none : r ≡ 0 = omega arith in
    record {
      t = 1;
      d = 0;
      positive = omega arith;
      finer = omega arith;
      is =
          rw none (rw (← one_times x.n) (distance_none on band (s * x.m) x.n));
    }
back-is on s band (suc fuel) x r some m_pos le =
    let c = cell_before s x in
    let g = gap_before s x in
    let k = 27 * on.slope band c in
    let gap = gap_before-is s x m_pos in
    let k_pos : 0 < k = omega (arith, some c) in
    elim (cases_lt (k * g) r) [
      | inl lt ↦ rw (back_on on s band fuel x r lt) (on_back on s band x
          (record { n = cell_start (s * x.m) c; m = x.m }) _ r g c m_pos refl gap.is gap.from gap.to lt
          (back-is on s band fuel (record { n = cell_start (s * x.m) c; m = x.m }) (r - k * g) some m_pos
          (fuel_left r k g fuel k_pos gap.some le)))
      | inr ge ↦ rw (back_here on s band fuel x r ge) (record {
        t = k;
        d = r;
        positive = k_pos;
        finer = refl;
        is = last_back on band (s * x.m) (s * (k * x.m)) k r g c x.n _
            (rw (steps_finer s k x.m (k * x.m) refl) (mul-pos k_pos m_pos)) (omega arith) refl gap.is gap.to ge refl;
      })
    ]
