-- Arcs of one band between two places of a curve, and the law of one band for them: of two arcs with one energy, from
-- places at most `e` apart, the ends are at most `k * e` apart.
use Rattle.std.proofs.Common.{◌≡◌, ℕ, ℤ, pos, ◌+◌, ◌-◌, ◌*◌, ◌<◌, ◌≤◌, ◌+ℤ◌, ◌*ℤ◌, ap, arith, refl, sym, ◌∙◌}
use Rattle.std.proofs.Math.Nat.{mul_comm, mul-le-mul_left, mul-pos, mul-sub}
use Rattle.sdm_num.specs.Fractions.{Fraction}
use Rattle.sdm_num.proofs.Ints.{scale-scale}
use Rattle.sdm_rules.specs.Slopes.{Slopes}
use Rattle.sdm_rules.specs.Curves.{arc_back, grain_energy}
use Rattle.sdm_laws.proofs.OneBand.Energy.{IsPositive, IsEven}
use Rattle.sdm_laws.proofs.OneBand.Distances.{IsDistance, distance_joined, distance_finer}
use Rattle.sdm_laws.proofs.OneBand.Distances.{distance_between_starts}
use Rattle.sdm_laws.proofs.OneBand.Distances.{distance_between_ends, shifted_back, shifted_forward, shifted_at_most}
use Rattle.sdm_laws.proofs.OneBand.Walks.{IsBackBy, one_times, back-is}
use Rattle.sdm_laws.proofs.OneBand.CommonSteps.{IsPastBy, factor_right, same_steps, steps_of_past, past_of_steps}

-- from `y` on to `x` in steps of 1/n grain, of which `from` are one of the steps of `y` and `to` one of those of `x`;
-- `c` is the energy for each step of a grain
pub record ArcIn (on : Slopes) (s band n : ℕ) (y x : Fraction) (c : ℕ) : Type 0 where
  pub from : ℕ
  pub to : ℕ
  pub d : ℕ
  pub positive : 0 < n
  pub from_is : n ≡ from * y.m
  pub to_is : n ≡ to * x.m
  pub is : IsDistance on band (s * n) (pos from *ℤ y.n) (pos to *ℤ x.n) d (n * c)

-- an arc from `y` on to `x` in some steps, with the energy `c` for each step of a grain
pub record Arc (on : Slopes) (s band : ℕ) (y x : Fraction) (c : ℕ) : Type 0 where
  pub n : ℕ
  pub is : ArcIn on s band n y x c

-- both ends are places
pub arc_from : (on : Slopes) (s band : ℕ) (y x : Fraction) (c : ℕ) → Arc on s band y x c → 0 < y.m
arc_from on s band y x c h = factor_right h.n h.is.from y.m h.is.positive h.is.from_is

pub arc_to : (on : Slopes) (s band : ℕ) (y x : Fraction) (c : ℕ) → Arc on s band y x c → 0 < x.m
arc_to on s band y x c h = factor_right h.n h.is.to x.m h.is.positive h.is.to_is

-- ---- what the walk makes

times_energy : (t m m' c : ℕ) → m' ≡ t * m → t * (m * c) ≡ m' * c
times_energy t m m' c e = rw e (omega arith)

-- a walk back that uses up the energy makes an arc from its end to its beginning
arc_of_back : (on : Slopes) (s band : ℕ) (x y : Fraction) (c : ℕ) → 0 < x.m → IsBackBy on s band x y (x.m * c) →
    Arc on s band y x c
arc_of_back on s band x y c x_pos h = record {
  n = y.m;
  is = record {
    from = 1;
    to = h.t;
    d = h.d;
    positive = rw h.finer (mul-pos h.positive x_pos);
    from_is = omega arith;
    to_is = h.finer;
    is = rw (← one_times y.n) (rw (times_energy h.t x.m y.m c h.finer) at h.is);
  };
}

-- back to a greater square
pub arc_back-is : (on : Slopes) (s band change : ℕ) (x : Fraction) → IsPositive on band → 0 < s → 0 < x.m →
    Arc on s band (arc_back on s band x change) x (grain_energy on change)
unfolding arc_back
arc_back-is on s band change x some s_pos x_pos =
    arc_of_back on s band x _ _ x_pos (back-is on s band _ x _ some (mul-pos s_pos x_pos) (omega arith))

-- ---- two arcs in common steps

-- an arc in steps is one in `k` times finer steps
arc_finer : (on : Slopes) (s band k n n' : ℕ) (y x : Fraction) (c : ℕ) → 0 < s → 0 < k → n' ≡ k * n →
    ArcIn on s band n y x c →
    ArcIn on s band n' y x c
arc_finer on s band k n n' y x c s_pos k_pos e h =
    let fine : s * n' ≡ k * (s * n) = omega (arith, ap (λ (z : ℕ). s * z) e) in
    let distance = distance_finer on band k (s * n) (s * n') _ _ h.d (n * c) fine (mul-pos s_pos h.positive) h.is in
    record {
      from = k * h.from;
      to = k * h.to;
      d = k * h.d;
      positive = rw e (mul-pos k_pos h.positive);
      from_is = omega (arith, e, ap (λ (z : ℕ). k * z) h.from_is);
      to_is = omega (arith, e, ap (λ (z : ℕ). k * z) h.to_is);
      is = rw (← scale-scale k h.from y.n, ← scale-scale k h.to x.n) (rw (times_energy k n n' c e) at distance);
    }

-- two arcs in the same steps
record TwoArcs (on : Slopes) (s band : ℕ) (y x : Fraction) (c : ℕ) (y' x' : Fraction) (c' : ℕ) : Type 0 where
  n : ℕ
  one : ArcIn on s band n y x c
  two : ArcIn on s band n y' x' c'

-- any two arcs of a band have common steps
in_common_steps : (on : Slopes) (s band : ℕ) (y x : Fraction) (c : ℕ) (y' x' : Fraction) (c' : ℕ) → 0 < s →
    Arc on s band y x c →
    Arc on s band y' x' c' → TwoArcs on s band y x c y' x' c'
in_common_steps on s band y x c y' x' c' s_pos h h' = record {
  n = h'.n * h.n;
  one = arc_finer on s band h'.n h.n _ y x c s_pos h'.is.positive refl h.is;
  two = arc_finer on s band h.n h'.n _ y' x' c' s_pos h.is.positive (mul_comm h'.n h.n) h'.is;
}

-- two arcs to one place: the arc between their beginnings
pub arc_between_starts : (on : Slopes) (s band : ℕ) (x y y' : Fraction) (c c' : ℕ) → IsPositive on band → 0 < s →
    c' ≤ c →
    Arc on s band y x c → Arc on s band y' x c' → Arc on s band y y' (c - c')
arc_between_starts on s band x y y' c c' some s_pos le h h' =
    let both = in_common_steps on s band y x c y' x c' s_pos h h' in
    let h1 = both.one in
    let h2 = both.two in
    let same : h1.to ≡ h2.to = same_steps both.n h1.to h2.to x.m h1.positive h1.to_is h2.to_is in
    let rest = distance_between_starts on band (s * both.n) _ _ _ h1.d h2.d (both.n * c) (both.n * c') some
    (mul-le-mul_left both.n le) (rw same at h1.is) h2.is in
    record {
      n = both.n;
      is = record {
        from = h1.from;
        to = h2.from;
        d = h1.d - h2.d;
        positive = h1.positive;
        from_is = h1.from_is;
        to_is =
            h2.from_is;
        is = rw (mul-sub both.n c c') rest;
      };
    }

-- two arcs from one place: the arc between their ends
pub arc_between_ends : (on : Slopes) (s band : ℕ) (x y y' : Fraction) (c c' : ℕ) → IsPositive on band → 0 < s → c' ≤ c →
    Arc on s band x y c → Arc on s band x y' c' → Arc on s band y' y (c - c')
arc_between_ends on s band x y y' c c' some s_pos le h h' =
    let both = in_common_steps on s band x y c x y' c' s_pos h h' in
    let h1 = both.one in
    let h2 = both.two in
    let same : h1.from ≡ h2.from = same_steps both.n h1.from h2.from x.m h1.positive h1.from_is h2.from_is in
    let rest = distance_between_ends on band (s * both.n) _ _ _ h1.d h2.d (both.n * c) (both.n * c') some
    (mul-le-mul_left both.n le) (rw same at h1.is) h2.is in
    record {
      n = both.n;
      is = record {
        from = h2.to;
        to = h1.to;
        d = h1.d - h2.d;
        positive = h1.positive;
        from_is = h2.to_is;
        to_is = h1.to_is;
        is =
            rw (mul-sub both.n c c') rest;
      };
    }

-- an arc and one from its end on are one arc
pub arc_joined : (on : Slopes) (s band : ℕ) (y x z : Fraction) (c c' : ℕ) → 0 < s → Arc on s band y x c →
    Arc on s band x z c' → Arc on s band y z (c + c')
arc_joined on s band y x z c c' s_pos h h' =
    let both = in_common_steps on s band y x c x z c' s_pos h h' in
    let h1 = both.one in
    let h2 = both.two in
    let same : h1.to ≡ h2.from = same_steps both.n h1.to h2.from x.m h1.positive h1.to_is h2.from_is in
    let sum : both.n * c + both.n * c' ≡ both.n * (c + c') = omega arith in
    let distance = distance_joined on band (s * both.n) _ _ _ h1.d h2.d (both.n * c) (both.n * c') (rw same at h1.is)
    h2.is in
    record {
      n = both.n;
      is = record {
        from = h1.from;
        to = h2.to;
        d = h1.d + h2.d;
        positive = h1.positive;
        from_is = h1.from_is;
        to_is = h2.to_is;
        is = rw sum at distance;
      };
    }

-- ---- the law of one band

-- a distance of at most `k` times one within `e` grains is within `k * e` grains
times_most : (k e n f f' : ℕ) → f ≤ e * n → f' ≤ k * f → f' ≤ (k * e) * n
times_most k e n f f' h h' = omega (arith, mul-le-mul_left k h)

-- backwards
pub past_back : (on : Slopes) (s band k : ℕ) (x x' y y' : Fraction) (c e : ℕ) → 0 < s → IsPositive on band →
    IsEven on band k →
    IsPastBy x x' e → Arc on s band y x c → Arc on s band y' x' c → IsPastBy y y' (k * e)
past_back on s band k x x' y y' c e s_pos some even past h h' =
    let both = in_common_steps on s band y x c y' x' c s_pos h h' in
    let h1 = both.one in
    let h2 = both.two in
    let gap = steps_of_past both.n h1.to h2.to e x x' h1.positive h1.to_is h2.to_is past in
    let used = h1.is.used in
    let used' = h2.is.used in
    let ends = sym h1.is.distance ∙ (gap.is ∙ ap (λ (z : ℤ). z +ℤ pos gap.f) h2.is.distance) in
    let shift = shifted_back on band (s * both.n) _ _ h1.d h2.d gap.f some (omega arith) ends in
    let most = times_most k e both.n gap.f shift.f gap.most
    (shifted_at_most on band (s * both.n) k _ _ _ gap.f some even shift) in
    past_of_steps both.n h1.from h2.from (k * e) y y' h1.positive h1.from_is h2.from_is
    (record { f = shift.f; is = shift.apart; most = most })

-- and forwards
pub past_forward : (on : Slopes) (s band k : ℕ) (x x' y y' : Fraction) (c e : ℕ) → 0 < s → IsPositive on band →
    IsEven on band k →
    IsPastBy x x' e → Arc on s band x y c → Arc on s band x' y' c → IsPastBy y y' (k * e)
past_forward on s band k x x' y y' c e s_pos some even past h h' =
    let both = in_common_steps on s band x y c x' y' c s_pos h h' in
    let h1 = both.one in
    let h2 = both.two in
    let gap = steps_of_past both.n h1.from h2.from e x x' h1.positive h1.from_is h2.from_is past in
    let used = h1.is.used in
    let used' = h2.is.used in
    let shift = shifted_forward on band (s * both.n) _ _ h1.d h2.d gap.f some (omega arith) gap.is in
    let ends = h1.is.distance ∙ (shift.apart ∙ ap (λ (z : ℤ). z +ℤ pos shift.f) (sym h2.is.distance)) in
    let most = times_most k e both.n gap.f shift.f gap.most
    (shifted_at_most on band (s * both.n) k _ _ _ gap.f some even shift) in
    past_of_steps both.n h1.to h2.to (k * e) y y' h1.positive h1.to_is h2.to_is
    (record { f = shift.f; is = ends; most = most })
