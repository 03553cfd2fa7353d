-- Arcs back and ahead alike: two places of the arc through a place are joined by an arc, with the energy of the change
-- of the square between them; and arcs of one change through places at most `e` apart end at most `k * e` apart, where
-- no slope is above `k` times another.
use Rattle.std.proofs.Common.{◌≡◌, ℕ, neg_ℤ, ◌+◌, ◌-◌, ◌*◌, ◌<◌, ◌≤◌, ap, arith, rules, refl, sym, ◌∙◌, inl, inr}
use Rattle.std.proofs.lemmas.Bool.{cases_lt}
use Rattle.std.proofs.lemmas.Int.{ints}
use Rattle.std.proofs.Math.Nat.{mul-le-mul_left, mul-sub, mul-pos, mul-lt-mul_of_pos_left}
use Rattle.sdm_num.specs.Fractions.{Fraction}
use Rattle.sdm_rules.specs.Slopes.{Slopes}
use Rattle.sdm_rules.specs.Curves.{arc_back, back, grain_energy, arc, turned, turned_slopes}
use Rattle.sdm_laws.proofs.OneBand.Energy.{IsPositive, IsEven}
use Rattle.sdm_laws.proofs.OneBand.CommonSteps.{IsPastBy}
use Rattle.sdm_laws.proofs.OneBand.Arcs.{Arc, arc_from, arc_to, arc_back-is, arc_between_starts, arc_between_ends}
use Rattle.sdm_laws.proofs.OneBand.Arcs.{arc_joined, past_back, past_forward}
use Rattle.sdm_laws.proofs.OneBand.Turned.{arc_turned}

-- a greater change of the square uses at least as much energy
energy_rises : (on : Slopes) (a b : ℕ) → a ≤ b → grain_energy on a ≤ grain_energy on b
energy_rises on a b le = mul-le-mul_left (5_000_000_000_000 * on.q) le

-- the energies of two changes differ by that of their difference
energy_less : (on : Slopes) (a b c : ℕ) → a - b ≡ c → grain_energy on a - grain_energy on b ≡ grain_energy on c
energy_less on a b c e = rw (← e) (sym (mul-sub (5_000_000_000_000 * on.q) a b))

-- a square that is no less lies back
pub arc_is_back : (on : Slopes) (s band : ℕ) (x : Fraction) (u z : ℕ) → u ≤ z →
    arc on s band x u z ≡ arc_back on s band x (z - u)
unfolding arc
arc_is_back on s band x u z le = search rules

-- a lesser one ahead
pub arc_is_ahead : (on : Slopes) (s band : ℕ) (x : Fraction) (u z : ℕ) → z < u →
    arc on s band x u z ≡ turned (arc_back (turned_slopes on) s band (turned x) (u - z))
unfolding arc
arc_is_ahead on s band x u z lt = search rules

-- no change of the square uses no energy
no_energy : (on : Slopes) (m u : ℕ) → m * grain_energy on (u - u) ≡ 0
no_energy on m u = let none : u - u ≡ 0 = omega arith in rw none (omega arith)

-- no change of the square ends where it begins
pub arc_none : (on : Slopes) (s band : ℕ) (x : Fraction) (u : ℕ) → arc on s band x u u ≡ x
unfolding arc_back back
arc_none on s band x u =
    arc_is_back on s band x u u (omega arith) ∙ rw (no_energy on x.m u) refl

-- from the other side of the other side
turned_twice : (x : Fraction) → turned (turned x) ≡ x
turned_twice x = let n : neg_ℤ (neg_ℤ x.n) ≡ x.n = omega (arith, ints) in rw n refl

module _ (on : Slopes) (s band : ℕ) (some : IsPositive on band) (s_pos : 0 < s) where
  -- to a square that is no less
  pub arc_behind : (x : Fraction) (u z : ℕ) → u ≤ z → 0 < x.m →
      Arc on s band (arc on s band x u z) x (grain_energy on (z - u))
  arc_behind x u z le x_pos = rw (arc_is_back on s band x u z le) (arc_back-is on s band (z - u) x some s_pos x_pos)

  -- and to a lesser one
  pub arc_ahead : (x : Fraction) (u z : ℕ) → z < u → 0 < x.m →
      Arc on s band x (arc on s band x u z) (grain_energy on (u - z))
  arc_ahead x u z lt x_pos =
      let seen = arc_turned on s band _ (turned x) _ s_pos
      (arc_back-is (turned_slopes on) s band (u - z) (turned x) (λ c. some _) s_pos x_pos) in
      rw (arc_is_ahead on s band x u z lt) (rw (turned_twice x) at seen)

  -- an arc ends at a place
  pub arc_pos : (x : Fraction) (u z : ℕ) → 0 < x.m → 0 < (arc on s band x u z).m
  arc_pos x u z x_pos = elim (cases_lt z u) [
    | inl lt ↦ arc_to on s band x _ _ (arc_ahead x u z lt x_pos)
    | inr ge ↦ arc_from on s band _ x _ (arc_behind x u z ge x_pos)
  ]

  -- the places of two squares
  pub arc_part : (x : Fraction) (u z' z : ℕ) → z' ≤ z → 0 < x.m →
      Arc on s band (arc on s band x u z) (arc on s band x u z') (grain_energy on (z - z'))
  arc_part x u z' z le x_pos = elim (cases_lt z u) [
    | inl lt ↦ rw (energy_less on (u - z') (u - z) (z - z') (omega arith)) at
        (arc_between_ends on s band x _ _ _ _ some s_pos (energy_rises on (u - z) (u - z') (omega arith))
        (arc_ahead x u z' (omega arith) x_pos) (arc_ahead x u z lt x_pos))
    | inr ge ↦ elim (cases_lt z' u) [
      | inl lt' ↦ (let sum : grain_energy on (z - u) + grain_energy on (u - z') ≡ grain_energy on (z - z') =
          (let parts : z - z' ≡ (z - u) + (u - z') = omega arith in rw parts (omega arith)) in
          rw sum at (arc_joined on s band _ x _ _ _ s_pos (arc_behind x u z ge x_pos) (arc_ahead x u z' lt' x_pos)))
      | inr ge' ↦ rw (energy_less on (z - u) (z' - u) (z - z') (omega arith)) at
          (arc_between_starts on s band x _ _ _ _ some s_pos (energy_rises on (z' - u) (z - u) (omega arith))
          (arc_behind x u z ge x_pos) (arc_behind x u z' ge' x_pos))
    ]
  ]

-- ---- the law of one band

-- the `k`th part of the fraction
abbrev pub over : ℕ → Fraction → Fraction
over k x = record { n = x.n; m = k * x.m }

-- an arc at `k` times the scale is an arc of the `k`th parts
arc_scaled : (on : Slopes) (s k band : ℕ) (y x : Fraction) (c big : ℕ) → 0 < k → big ≡ k * c →
    Arc on (k * s) band y x big →
    Arc on s band (over k y) (over k x) c
arc_scaled on s k band y x c big k_pos e h =
    let n = h.n in
    let a = h.is in
    let steps : (k * s) * n ≡ s * (k * n) = omega arith in
    let used : n * big ≡ (k * n) * c = rw e (omega arith) in
    record {
      n = k * n;
      is = record {
        from = a.from;
        to = a.to;
        d = a.d;
        positive = mul-pos k_pos a.positive;
        from_is = omega (arith, ap (λ (z : ℕ). k * z) a.from_is);
        to_is = omega (arith, ap (λ (z : ℕ). k * z) a.to_is);
        is = rw (steps, used) at a.is;
      };
    }

-- the energy of `k` times the change is `k` times as much
energy_scaled : (on : Slopes) (k z u : ℕ) → grain_energy on (k * z - k * u) ≡ k * grain_energy on (z - u)
energy_scaled on k z u = let e = mul-sub k z u in rw (sym e) (omega arith)

-- the arcs of one change through places at most `e` apart end at most `v * e` apart, the second one at `k` times the
-- scale
pub arc_past : (on : Slopes) (s k band v : ℕ) (x x' : Fraction) (u z e : ℕ) → IsPositive on band → IsEven on band v →
    0 < s → 0 < k → 0 < x'.m → IsPastBy x (over k x') e →
    IsPastBy (arc on s band x u z) (over k (arc on (k * s) band x' (k * u) (k * z))) (v * e)
arc_past on s k band v x x' u z e some even s_pos k_pos x'_pos h = elim (cases_lt z u) [
  | inl lt ↦ past_forward on s band v x _ _ _ _ _ s_pos some even h (arc_ahead on s band some s_pos x u z lt h.left)
      (arc_scaled on s k band _ _ _ _ k_pos (energy_scaled on k u z)
      (arc_ahead on (k * s) band some (mul-pos k_pos s_pos) x' (k * u) (k * z) (mul-lt-mul_of_pos_left lt k_pos)
      x'_pos))
  | inr ge ↦ past_back on s band v x _ _ _ _ _ s_pos some even h (arc_behind on s band some s_pos x u z ge h.left)
      (arc_scaled on s k band _ _ _ _ k_pos (energy_scaled on k z u)
      (arc_behind on (k * s) band some (mul-pos k_pos s_pos) x' (k * u) (k * z) (mul-le-mul_left k ge) x'_pos))
]
