-- Places in common steps: with `n` steps in a grain, of which `t` are one of the place's own, a place is at `t` times
-- its numerator, and two places compare as these whole numbers do.
use Rattle.std.proofs.Common.{◌≡◌, ℕ, ℤ, zero, suc, pos, neg_ℤ, ◌*◌, ◌<◌, ◌≤◌, ◌+ℤ◌, ◌*ℤ◌, ◌≤ℤ◌, ◌<ℤ◌, unsigned_abs}
use Rattle.std.proofs.Common.{ap, arith, sym, ◌∙◌}
use Rattle.std.proofs.lemmas.Int.{ints}
use Rattle.std.proofs.Math.Nat.{mul_comm, mul-pos, mul-le-mul_right, eq_of_mul-eq-mul_right}
use Rattle.sdm_num.specs.Fractions.{Fraction, IsAtMost, IsBefore, more}
use Rattle.sdm_num.proofs.Ints.{scale-+ℤ, scale-scale, scale-≤, scale-≤_cancel}
use Rattle.sdm_num.proofs.Floors.{scale-<_cancel}
use Rattle.sdm_num.proofs.Order.{scale-<, at_most_trans}

-- both factors of a number above 0 are above 0
pub factor_left : (n t m : ℕ) → 0 < n → n ≡ t * m → 0 < t
factor_left n zero m p e = absurd (omega arith)
factor_left n (suc t) m p e = omega arith

pub factor_right : (n t m : ℕ) → 0 < n → n ≡ t * m → 0 < m
factor_right n t zero p e = absurd (omega arith)
factor_right n t (suc m) p e = omega arith

-- a place has one number of steps
pub same_steps : (n t t' m : ℕ) → 0 < n → n ≡ t * m → n ≡ t' * m → t ≡ t'
same_steps n t t' m p e e' = eq_of_mul-eq-mul_right m (factor_right n t m p e) t t' (sym e ∙ e')

-- a cross product in common steps
cross : (n t t' m : ℕ) (z : ℤ) → n ≡ t * m → pos (t * t') *ℤ (pos m *ℤ z) ≡ pos n *ℤ (pos t' *ℤ z)
cross n t t' m z e =
    let w : (t * t') * m ≡ n * t' = rw e (omega arith) in
    scale-scale (t * t') m z ∙ (ap (λ (k : ℕ). pos k *ℤ z) w ∙ sym (scale-scale n t' z))

-- the other cross product in common steps
cross_turned : (n t t' m : ℕ) (z : ℤ) → n ≡ t' * m → pos (t * t') *ℤ (pos m *ℤ z) ≡ pos n *ℤ (pos t *ℤ z)
cross_turned n t t' m z e = ap (λ (k : ℕ). pos k *ℤ (pos m *ℤ z)) (mul_comm t t') ∙ cross n t' t m z e

module _ (n t t' : ℕ) (x y : Fraction) (n_pos : 0 < n) (x_is : n ≡ t * x.m) (y_is : n ≡ t' * y.m) where
  both_pos : 0 < t * t'
  both_pos = mul-pos (factor_left n t x.m n_pos x_is) (factor_left n t' y.m n_pos y_is)

  -- places compare as their steps do
  pub at_most_of_steps : (pos t' *ℤ y.n) ≤ℤ (pos t *ℤ x.n) → IsAtMost y x
  at_most_of_steps le = record {
    crossed = scale-≤_cancel (t * t') _ _ both_pos
        (rw (cross n t t' x.m y.n x_is, cross_turned n t t' y.m x.n y_is) (scale-≤ n _ _ le));
  }

  -- and strictly
  pub before_of_steps : (pos t' *ℤ y.n) <ℤ (pos t *ℤ x.n) → IsBefore y x
  before_of_steps lt = record {
    crossed = scale-<_cancel (t * t') _ _
        (rw (cross n t t' x.m y.n x_is, cross_turned n t t' y.m x.n y_is) (scale-< n _ _ n_pos lt));
  }

  -- the steps compare as the places do
  pub steps_of_at_most : IsAtMost y x → (pos t' *ℤ y.n) ≤ℤ (pos t *ℤ x.n)
  steps_of_at_most h = scale-≤_cancel n _ _ n_pos
      (rw (cross n t t' x.m y.n x_is, cross_turned n t t' y.m x.n y_is) at (scale-≤ (t * t') _ _ h.crossed))

  -- and strictly
  pub steps_of_before : IsBefore y x → (pos t' *ℤ y.n) <ℤ (pos t *ℤ x.n)
  steps_of_before h = scale-<_cancel n _ _
      (rw (cross n t t' x.m y.n x_is, cross_turned n t t' y.m x.n y_is) at (scale-< (t * t') _ _ both_pos h.crossed))

-- ---- a place before another by at most so many grains

-- `x` is at or past `x'`, by at most `e` grains
pub record IsPastBy (x x' : Fraction) (e : ℕ) : Type 0 where
  pub left : 0 < x.m
  pub right : 0 < x'.m
  pub not_before : IsAtMost x' x
  pub near : IsAtMost x (more x' e)

-- a place with more grains added is no earlier
more_rises : (x : Fraction) (e e' : ℕ) → e ≤ e' → IsAtMost (more x e) (more x e')
more_rises x e e' le = record { crossed = scale-≤ x.m _ _ (omega (arith, ints, mul-le-mul_right x.m le)) }

-- a bound on how far a place is past another may be made greater
pub past_more : (x x' : Fraction) (e e' : ℕ) → IsPastBy x x' e → e ≤ e' → IsPastBy x x' e'
past_more x x' e e' p le = record {
  left = p.left;
  right = p.right;
  not_before = p.not_before;
  near =
      at_most_trans x (more x' e) (more x' e') p.right p.near (more_rises x' e e' le);
}

-- whole numbers that are `f` apart, at most `w`
pub record IsApartBy (x x' : ℤ) (w : ℕ) : Type 0 where
  pub f : ℕ
  pub is : x ≡ x' +ℤ pos f
  pub most : f ≤ w

-- whole numbers within `w` of each other are apart by at most `w`
apart_by : (x x' : ℤ) (w : ℕ) → x' ≤ℤ x → x ≤ℤ (x' +ℤ pos w) → IsApartBy x x' w
apart_by x x' w low high = record {
  f = unsigned_abs (x +ℤ neg_ℤ x');
  is = omega (arith, ints);
  most = omega (arith, ints);
}

-- `e` grains more are `e * n` steps more
more_steps : (n t e : ℕ) (x : Fraction) → n ≡ t * x.m → pos t *ℤ (more x e).n ≡ pos t *ℤ x.n +ℤ pos (e * n)
more_steps n t e x x_is = let w : t * (e * x.m) ≡ e * n =
    rw x_is (omega arith) in scale-+ℤ t x.n (pos (e * x.m)) ∙ ap (λ (k : ℕ). pos t *ℤ x.n +ℤ pos k) w

module _ (n t t' e : ℕ) (x x' : Fraction) (n_pos : 0 < n) (x_is : n ≡ t * x.m) (x'_is : n ≡ t' * x'.m) where
  -- places at most `e` grains apart are at most `e * n` steps apart
  pub steps_of_past : IsPastBy x x' e → IsApartBy (pos t *ℤ x.n) (pos t' *ℤ x'.n) (e * n)
  steps_of_past p = apart_by _ _ _ (steps_of_at_most n t t' x x' n_pos x_is x'_is p.not_before)
      (rw (more_steps n t' e x' x'_is) at (steps_of_at_most n t' t (more x' e) x n_pos x'_is x_is p.near))

  -- and the other way round
  pub past_of_steps : IsApartBy (pos t *ℤ x.n) (pos t' *ℤ x'.n) (e * n) → IsPastBy x x' e
  past_of_steps g =
      let is = g.is in
      let most = g.most in
      record {
        left = factor_right n t x.m n_pos x_is;
        right = factor_right n t' x'.m n_pos x'_is;
        not_before = at_most_of_steps n t t' x x' n_pos x_is x'_is (omega (arith, ints));
        near = at_most_of_steps n t' t (more x' e) x n_pos x'_is x_is
            (rw (more_steps n t' e x' x'_is) (omega (arith, ints)));
      }
