-- The sides of rounding under a shift, and of the lesser and the greater of two places: each side is a comparison by
-- cross products, which a shift moves on both sides and which the lesser of two passes on.
use Rattle.std.proofs.Common.{◌≡◌, ℕ, ℤ, pos, neg_ℤ, ◌<◌, ◌+◌, ◌*◌, min, ◌+ℤ◌, ◌*ℤ◌, ◌≤ℤ◌, ◌<ℤ◌, int_lt, ap, refl}
use Rattle.std.proofs.Common.{subst, sym, arith, inl, inr}
use Rattle.std.specs.Int.{int_min, int_max}
use Rattle.std.proofs.lemmas.Int.{ints, clamps, by_lt_z}
use Rattle.std.proofs.lemmas.Bool.{cases_cond}
use Rattle.sdm_num.specs.Fractions.{Fraction, IsAtMost, IsSame, greater, less, lesser, more, whole}
use Rattle.sdm_num.specs.Bounds.{Bound, IsEarlyFor, IsLateFor, IsResultOf, IsResultOfTwo, earlier_of, later_of}
use Rattle.sdm_num.proofs.Ints.{scales, scale-+ℤ}
use Rattle.sdm_num.proofs.Order.{at_most_refl, at_most_trans, whole_at_most, lesser_cases, greater_cases}

-- an early bound moved back stands early for a place moved back as far
pub IsEarlyFor_less : (e d : Bound) (g : ℕ) → d.at ≡ e.at +ℤ neg_ℤ (pos g) → d.slack ≡ e.slack → (x : Fraction) →
    IsEarlyFor e x → IsEarlyFor d (less x g)
IsEarlyFor_less e d g at slack x h = record {
  positive = h.positive;
  not_past = record { crossed = rw at (simp scales (let p = h.not_past.crossed in omega (arith, ints))) };
  near = record {
    crossed = rw (at, slack) (simp scales (let p = simp scales at h.near.crossed in omega (arith, ints)));
  };
}

-- moved on, a place stays at or past the start of a bound that is moved on as far
shifted_on : (m : ℕ) (n at : ℤ) (g slack : ℕ) → (pos m *ℤ (at +ℤ neg_ℤ (pos slack))) ≤ℤ (pos 1 *ℤ n) →
    (pos m *ℤ ((at +ℤ pos g) +ℤ neg_ℤ (pos slack))) ≤ℤ (pos 1 *ℤ (n +ℤ pos (g * m)))
shifted_on m n at g slack h =
    let e : (at +ℤ pos g) +ℤ neg_ℤ (pos slack) ≡ (at +ℤ neg_ℤ (pos slack)) +ℤ pos g = omega (arith, ints) in
    rw e (rw (scale-+ℤ m (at +ℤ neg_ℤ (pos slack)) (pos g)) (omega (arith, ints, h)))

-- a late bound moved on stands late for a place moved on as far
pub IsLateFor_more : (e d : Bound) (g : ℕ) → d.at ≡ e.at +ℤ pos g → d.slack ≡ e.slack → (x : Fraction) →
    IsLateFor e x → IsLateFor d (more x g)
IsLateFor_more e d g at slack x h = record {
  positive = h.positive;
  not_before = record { crossed = rw at (simp scales (let p = h.not_before.crossed in omega (arith, ints))) };
  near = record { crossed = rw (at, slack) (shifted_on x.m x.n e.at g e.slack h.near.crossed) };
}

-- what is stood for after a shift is so before it
pub early_only_less : (e d : Bound) (g : ℕ) → d.at ≡ e.at +ℤ neg_ℤ (pos g) → d.slack ≡ e.slack → (z : Fraction) →
    IsEarlyFor d z → IsResultOf (IsEarlyFor e) (λ x. less x g) z
early_only_less e d g at slack z h = record {
  place = more z g;
  holds = record {
    positive = h.positive;
    not_past = record {
      crossed = let p = simp scales at (rw at at h.not_past.crossed) in simp scales (omega (arith, ints));
    };
    near = record {
      crossed = let p = simp scales at (rw (at, slack) at h.near.crossed) in simp scales (omega (arith, ints));
    };
  };
  same = record { crossed = ap (λ (n : ℤ). pos z.m *ℤ n) (back z.n g z.m) };
}
  where
    back : (n : ℤ) (g m : ℕ) → (n +ℤ pos (g * m)) +ℤ neg_ℤ (pos (g * m)) ≡ n
    back n g m = omega (arith, ints)

-- moved back, it stays at or past the start of a bound that is moved back as far
shifted_off : (m : ℕ) (n at : ℤ) (g slack : ℕ) → (pos m *ℤ ((at +ℤ pos g) +ℤ neg_ℤ (pos slack))) ≤ℤ (pos 1 *ℤ n) →
    (pos m *ℤ (at +ℤ neg_ℤ (pos slack))) ≤ℤ (pos 1 *ℤ (n +ℤ neg_ℤ (pos (g * m))))
shifted_off m n at g slack h =
    let e : (at +ℤ pos g) +ℤ neg_ℤ (pos slack) ≡ (at +ℤ neg_ℤ (pos slack)) +ℤ pos g = omega (arith, ints) in
    let p = rw (e, scale-+ℤ m (at +ℤ neg_ℤ (pos slack)) (pos g)) at h in
    omega (arith, ints, p)

-- what is stood for after a shift on is so before it
pub late_only_more : (e d : Bound) (g : ℕ) → d.at ≡ e.at +ℤ pos g → d.slack ≡ e.slack → (z : Fraction) →
    IsLateFor d z → IsResultOf (IsLateFor e) (λ x. more x g) z
late_only_more e d g at slack z h = record {
  place = less z g;
  holds = record {
    positive = h.positive;
    not_before = record {
      crossed = let p = simp scales at (rw at at h.not_before.crossed) in simp scales (omega (arith, ints));
    };
    near = record { crossed = shifted_off z.m z.n e.at g e.slack (rw (at, slack) at h.near.crossed) };
  };
  same = record { crossed = ap (λ (n : ℤ). pos z.m *ℤ n) (back z.n g z.m) };
}
  where
    back : (n : ℤ) (g m : ℕ) → (n +ℤ neg_ℤ (pos (g * m))) +ℤ pos (g * m) ≡ n
    back n g m = omega (arith, ints)

-- ---- of two

-- what holds of both numbers holds of the lesser
min_cases : (P : ℤ → Type 0) (a b : ℤ) → P a → P b → P (int_min a b)
min_cases P a b p q = elim (cases_cond (int_lt b a) b a (int_min a b) refl) [
  | inl e ↦ subst P (sym e) q
  | inr e ↦ subst P (sym e) p
]

-- and of the greater
max_cases : (P : ℤ → Type 0) (a b : ℤ) → P a → P b → P (int_max a b)
max_cases P a b p q = elim (cases_cond (int_lt b a) a b (int_max a b) refl) [
  | inl e ↦ subst P (sym e) p
  | inr e ↦ subst P (sym e) q
]

-- where an early bound of two places ends
earlier_end : (e d : Bound) →
    (earlier_of e d).at +ℤ pos (earlier_of e d).slack ≡ int_min (e.at +ℤ pos e.slack) (d.at +ℤ pos d.slack)
earlier_end e d = omega (arith, ints, clamps)

-- where a late bound of two places starts
later_start : (e d : Bound) → (later_of e d).at +ℤ neg_ℤ (pos (later_of e d).slack)
    ≡ int_max (e.at +ℤ neg_ℤ (pos e.slack)) (d.at +ℤ neg_ℤ (pos d.slack))
later_start e d = omega (arith, ints, clamps)

-- what is at or past the lesser bound of two is so of each
pub IsEarlyFor_lesser : (e d : Bound) (x y : Fraction) → IsEarlyFor e x → IsEarlyFor d y →
    IsEarlyFor (earlier_of e d) (lesser x y)
IsEarlyFor_lesser e d x y h k = record {
  positive = lesser_cases (λ z. 0 < z.m) x y (λ _. h.positive) (λ _. k.positive);
  not_past = lesser_cases (λ z. IsAtMost (whole (int_min e.at d.at)) z) x y
      (λ _. at_most_trans (whole (int_min e.at d.at)) (whole e.at) x (omega arith)
      (whole_at_most _ _ (omega (arith, ints, clamps))) h.not_past)
      (λ _. at_most_trans (whole (int_min e.at d.at)) (whole d.at) y (omega arith)
      (whole_at_most _ _ (omega (arith, ints, clamps))) k.not_past);
  near = rw (earlier_end e d)
      (min_cases (λ z. IsAtMost (lesser x y) (whole z)) (e.at +ℤ pos e.slack) (d.at +ℤ pos d.slack)
      (lesser_cases (λ z. IsAtMost z (whole (e.at +ℤ pos e.slack))) x y (λ _. h.near)
      (λ le. at_most_trans y x _ h.positive le h.near))
      (lesser_cases (λ z. IsAtMost z (whole (d.at +ℤ pos d.slack))) x y
      (λ le. at_most_trans x y _ k.positive le k.near) (λ _. k.near)));
}

-- the later of two late bounds stands for the greater of the places
pub IsLateFor_greater : (e d : Bound) (x y : Fraction) → IsLateFor e x → IsLateFor d y →
    IsLateFor (later_of e d) (greater x y)
IsLateFor_greater e d x y h k = record {
  positive = greater_cases (λ z. 0 < z.m) x y (λ _. k.positive) (λ _. h.positive);
  not_before = greater_cases (λ z. IsAtMost z (whole (int_max e.at d.at))) x y
      (λ _. at_most_trans y (whole d.at) (whole (int_max e.at d.at)) (omega arith) k.not_before
      (whole_at_most _ _ (omega (arith, ints, clamps))))
      (λ _. at_most_trans x (whole e.at) (whole (int_max e.at d.at)) (omega arith) h.not_before
      (whole_at_most _ _ (omega (arith, ints, clamps))));
  near = rw (later_start e d)
      (max_cases (λ z. IsAtMost (whole z) (greater x y)) (e.at +ℤ neg_ℤ (pos e.slack)) (d.at +ℤ neg_ℤ (pos d.slack))
      (greater_cases (λ z. IsAtMost (whole (e.at +ℤ neg_ℤ (pos e.slack))) z) x y
      (λ le. at_most_trans _ x y h.positive h.near le) (λ _. h.near))
      (greater_cases (λ z. IsAtMost (whole (d.at +ℤ neg_ℤ (pos d.slack))) z) x y (λ _. k.near)
      (λ le. at_most_trans _ y x k.positive k.near le)));
}

-- the lesser of two numbers of which one is not before the other is that other one, and so is the greater where it is
-- not past it
lesser_left : (z y : Fraction) → IsAtMost z y → IsSame (lesser z y) z
lesser_left z y le = lesser_cases (λ x. IsSame x z) z y (λ _. record { crossed = refl })
    (λ more. record { crossed = omega (arith, ints, le.crossed, more.crossed) })

lesser_right : (x z : Fraction) → IsAtMost z x → IsSame (lesser x z) z
lesser_right x z le = lesser_cases (λ y. IsSame y z) x z
    (λ less. record { crossed = omega (arith, ints, le.crossed, less.crossed) }) (λ _. record { crossed = refl })

greater_left : (z y : Fraction) → IsAtMost y z → IsSame (greater z y) z
greater_left z y le = greater_cases (λ x. IsSame x z) z y
    (λ more. record { crossed = omega (arith, ints, le.crossed, more.crossed) }) (λ _. record { crossed = refl })

greater_right : (x z : Fraction) → IsAtMost x z → IsSame (greater x z) z
greater_right x z le = greater_cases (λ y. IsSame y z) x z (λ _. record { crossed = refl })
    (λ less. record { crossed = omega (arith, ints, le.crossed, less.crossed) })

-- an early bound stands for its own end
early_at_end : (e : Bound) → IsEarlyFor e (whole (e.at +ℤ pos e.slack))
early_at_end e = record {
  positive = omega arith;
  not_past = whole_at_most _ _ (omega (arith, ints));
  near = at_most_refl _;
}

-- a late bound stands for its own start
late_at_start : (e : Bound) → IsLateFor e (whole (e.at +ℤ neg_ℤ (pos e.slack)))
late_at_start e = record {
  positive = omega arith;
  not_before = whole_at_most _ _ (omega (arith, ints));
  near = at_most_refl _;
}

-- a number that the lesser of two bounds stands for is one of the bound that lies first, beside the end of the other
-- one
pub early_only_lesser : (e d : Bound) (z : Fraction) → IsEarlyFor (earlier_of e d) z →
    IsResultOfTwo (IsEarlyFor e) (IsEarlyFor d) lesser z
early_only_lesser e d z h =
    let ends = rw (earlier_end e d) at h.near in
    let by_e : IsAtMost z (whole (e.at +ℤ pos e.slack)) = at_most_trans z
    (whole (int_min (e.at +ℤ pos e.slack) (d.at +ℤ pos d.slack))) _ (omega arith) ends
    (whole_at_most _ _ (omega (arith, ints, clamps))) in
    let by_d : IsAtMost z (whole (d.at +ℤ pos d.slack)) = at_most_trans z
    (whole (int_min (e.at +ℤ pos e.slack) (d.at +ℤ pos d.slack))) _ (omega arith) ends
    (whole_at_most _ _ (omega (arith, ints, clamps))) in
    by_lt_z d.at e.at
    (λ (lt : d.at <ℤ e.at). record {
      left = whole (e.at +ℤ pos e.slack);
      right = z;
      left_holds = early_at_end e;
      right_holds = record {
        positive = h.positive;
        not_past = at_most_trans (whole d.at) (whole (int_min e.at d.at)) z (omega arith)
            (whole_at_most _ _ (omega (arith, ints, clamps))) h.not_past;
        near = by_d;
      };
      same = lesser_right (whole (e.at +ℤ pos e.slack)) z by_e;
    })
    (λ (le : e.at ≤ℤ d.at). record {
      left = z;
      right = whole (d.at +ℤ pos d.slack);
      left_holds = record {
        positive = h.positive;
        not_past = at_most_trans (whole e.at) (whole (int_min e.at d.at)) z (omega arith)
            (whole_at_most _ _ (omega (arith, ints, clamps))) h.not_past;
        near = by_e;
      };
      right_holds = early_at_end d;
      same = lesser_left z (whole (d.at +ℤ pos d.slack)) by_d;
    })

-- and one of the greater is one of the bound that lies last, beside the start of the other one
pub late_only_greater : (e d : Bound) (z : Fraction) → IsLateFor (later_of e d) z →
    IsResultOfTwo (IsLateFor e) (IsLateFor d) greater z
late_only_greater e d z h =
    let starts = rw (later_start e d) at h.near in
    let by_e : IsAtMost (whole (e.at +ℤ neg_ℤ (pos e.slack))) z = at_most_trans _
    (whole (int_max (e.at +ℤ neg_ℤ (pos e.slack)) (d.at +ℤ neg_ℤ (pos d.slack)))) z (omega arith)
    (whole_at_most _ _ (omega (arith, ints, clamps))) starts in
    let by_d : IsAtMost (whole (d.at +ℤ neg_ℤ (pos d.slack))) z = at_most_trans _
    (whole (int_max (e.at +ℤ neg_ℤ (pos e.slack)) (d.at +ℤ neg_ℤ (pos d.slack)))) z (omega arith)
    (whole_at_most _ _ (omega (arith, ints, clamps))) starts in
    by_lt_z e.at d.at
    (λ (lt : e.at <ℤ d.at). record {
      left = whole (e.at +ℤ neg_ℤ (pos e.slack));
      right = z;
      left_holds = late_at_start e;
      right_holds = record {
        positive = h.positive;
        not_before = at_most_trans z (whole (int_max e.at d.at)) (whole d.at)
            (omega arith) h.not_before (whole_at_most _ _ (omega (arith, ints, clamps)));
        near = by_d;
      };
      same = greater_right (whole (e.at +ℤ neg_ℤ (pos e.slack))) z by_e;
    })
    (λ (le : d.at ≤ℤ e.at). record {
      left = z;
      right = whole (d.at +ℤ neg_ℤ (pos d.slack));
      left_holds = record {
        positive = h.positive;
        not_before = at_most_trans z (whole (int_max e.at d.at)) (whole e.at)
            (omega arith) h.not_before (whole_at_most _ _ (omega (arith, ints, clamps)));
        near = by_e;
      };
      right_holds = late_at_start d;
      same = greater_left z (whole (d.at +ℤ neg_ℤ (pos d.slack))) by_d;
    })

-- ---- as the code finds them: one place is `apart` grains before the other

-- a bound by its place and its slack
abbrev pub bound : ℤ → ℕ → Bound
bound at slack = record { at = at; slack = slack }

same_bound : (a b : ℤ) (s t : ℕ) → a ≡ b → s ≡ t → bound a s ≡ bound b t
same_bound a b s t p q = cc

-- of two early bounds, the first `apart` grains before the second, the earlier one lies at the first's place
pub earlier_is : (e d : Bound) (apart slack : ℕ) → d.at ≡ e.at +ℤ pos apart → slack ≡ min e.slack (apart + d.slack) →
    bound e.at slack ≡ earlier_of e d
earlier_is e d apart slack distance is = same_bound _ _ _ _ (omega (arith, ints, clamps)) (omega (arith, ints, clamps))

pub earlier_swap : (e d : Bound) → earlier_of e d ≡ earlier_of d e
earlier_swap e d = same_bound _ _ _ _ (omega (arith, ints, clamps)) (omega (arith, ints, clamps))

-- of two late bounds, the first `apart` grains past the second, the later one lies at the first's place
pub later_is : (e d : Bound) (apart slack : ℕ) → e.at ≡ d.at +ℤ pos apart → slack ≡ min e.slack (apart + d.slack) →
    bound e.at slack ≡ later_of e d
later_is e d apart slack distance is = same_bound _ _ _ _ (omega (arith, ints, clamps)) (omega (arith, ints, clamps))

pub later_swap : (e d : Bound) → later_of e d ≡ later_of d e
later_swap e d = same_bound _ _ _ _ (omega (arith, ints, clamps)) (omega (arith, ints, clamps))
