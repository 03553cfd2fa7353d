-- Chains of arcs along a curve, each in a band that holds both its squares. The place of the greater square is at or
-- before that of the less, and before it where the squares differ.
use Rattle.std.proofs.Common.{◌≡◌, ℕ, zero, suc, pos, ◌-◌, ◌*◌, ◌<◌, ◌≤◌, ◌+ℤ◌, ◌*ℤ◌, ap, arith, ◌∙◌, inl, inr}
use Rattle.std.proofs.lemmas.Int.{ints}
use Rattle.std.proofs.lemmas.Bool.{cases_lt}
use Rattle.std.proofs.Math.Nat.{mul-pos}
use Rattle.sdm_num.specs.Fractions.{Fraction, IsAtMost, IsBefore}
use Rattle.sdm_num.proofs.Order.{at_most_refl, at_most_trans, at_most_before, before_at_most}
use Rattle.sdm_rules.specs.Slopes.{Slopes}
use Rattle.sdm_rules.specs.Curves.{cell_at, grain_energy}
use Rattle.sdm_rules.specs.Motion.{IsInBand}
use Rattle.sdm_laws.specs.Energy.{energy}
use Rattle.sdm_laws.proofs.OneBand.Totals.{total-zero}
use Rattle.sdm_laws.proofs.OneBand.CommonSteps.{at_most_of_steps, before_of_steps}
use Rattle.sdm_laws.proofs.OneBand.Arcs.{Arc, arc_from, arc_to}

-- from the place `y` of the square `u` on to the place `x` of the square `w`
pub data Chain (on : Slopes) (s : ℕ) : Fraction → ℕ → Fraction → ℕ → Type 0 where
  arrived : (y : Fraction) (u : ℕ) → 0 < y.m → Chain on s y u y u
  along : (band : ℕ) (y x z : Fraction) (u v w : ℕ) → IsInBand on s band u → IsInBand on s band v → v ≤ u →
      Arc on s band y x (grain_energy on (u - v)) → Chain on s x v z w → Chain on s y u z w

-- a chain goes on where another ends
pub chain_joined : (on : Slopes) (s : ℕ) (y x z : Fraction) (u v w : ℕ) → Chain on s y u x v → Chain on s x v z w →
    Chain on s y u z w
chain_joined on s _ _ z _ _ w (arrived y u p) c = c
chain_joined on s _ _ z' _ _ w' (along band y x z u v w in_u in_v le arc rest) c =
    along band y x z' u v w' in_u in_v le arc (chain_joined on s x z z' v w w' rest c)

-- the squares fall
pub chain_falls : (on : Slopes) (s : ℕ) (y x : Fraction) (u w : ℕ) → Chain on s y u x w → w ≤ u
chain_falls on s _ _ _ _ (arrived y u p) = omega arith
chain_falls on s _ _ _ _ (along band y x z u v w in_u in_v le arc rest) = omega (arith, chain_falls on s x z v w rest)

-- both ends are places
pub chain_from : (on : Slopes) (s : ℕ) (y x : Fraction) (u w : ℕ) → Chain on s y u x w → 0 < y.m
chain_from on s _ _ _ _ (arrived y u p) = p
chain_from on s _ _ _ _ (along band y x z u v w in_u in_v le arc rest) = arc_from on s band y x _ arc

pub chain_to : (on : Slopes) (s : ℕ) (y x : Fraction) (u w : ℕ) → Chain on s y u x w → 0 < x.m
chain_to on s _ _ _ _ (arrived y u p) = p
chain_to on s _ _ _ _ (along band y x z u v w in_u in_v le arc rest) = chain_to on s x z v w rest

-- ---- where the ends lie

-- an arc begins at or before its end
pub arc_at_most : (on : Slopes) (s band c : ℕ) (y x : Fraction) → Arc on s band y x c → IsAtMost y x
arc_at_most on s band c y x h =
    let distance = h.is.is.distance in
    at_most_of_steps h.n h.is.to h.is.from x y h.is.positive h.is.to_is h.is.from_is (omega (arith, ints))

-- an arc that uses energy has a length
arc_before : (on : Slopes) (s band c : ℕ) (y x : Fraction) → 0 < c → Arc on s band y x c → IsBefore y x
arc_before on s band c y x c_pos h =
    let start = pos h.is.from *ℤ y.n in
    let none : h.is.d ≡ 0 → energy on band (s * h.n) start h.is.d ≡ 0 = λ z. ap (energy on band (s * h.n) start) z
    ∙ total-zero (λ k. on.slope band (cell_at (s * h.n) (start +ℤ pos k))) in
    let long : 0 < h.is.d = some_distance h.is.d _ (h.n * c) (mul-pos h.is.positive c_pos) h.is.is.used none in
    let distance = h.is.is.distance in
    before_of_steps h.n h.is.to h.is.from x y h.is.positive h.is.to_is h.is.from_is (omega (arith, ints))
  where
    some_distance : (d e r : ℕ) → 0 < r → 27 * e ≡ r → (d ≡ 0 → e ≡ 0) → 0 < d
    some_distance (suc d) e r p used none = omega arith
    some_distance zero e r p used none = let z : e ≡ 0 = none (omega arith) in absurd (omega arith)

-- a chain begins at or before its end
pub chain_at_most : (on : Slopes) (s : ℕ) (y x : Fraction) (u w : ℕ) → Chain on s y u x w → IsAtMost y x
chain_at_most on s _ _ _ _ (arrived y u p) = at_most_refl y
chain_at_most on s _ _ _ _ (along band y x z u v w in_u in_v le arc rest) =
    at_most_trans y x z (arc_to on s band y x _ arc) (arc_at_most on s band _ y x arc) (chain_at_most on s x z v w rest)

-- where the square is greater the place is earlier
pub chain_before : (on : Slopes) (s : ℕ) (y x : Fraction) (u w : ℕ) → 0 < on.q → w < u → Chain on s y u x w →
    IsBefore y x
chain_before on s _ _ _ _ q_pos lt (arrived y u p) = absurd (omega arith)
chain_before on s _ _ _ _ q_pos lt (along band y x z u v w in_u in_v le arc rest) =
    let y_pos = arc_from on s band y x _ arc in
    let x_pos = arc_to on s band y x _ arc in
    elim (cases_lt v u) [
      | inl less ↦ before_at_most y x z x_pos (chain_to on s x z v w rest)
          (arc_before on s band _ y x (mul-pos (mul-pos (omega arith) q_pos) (omega arith)) arc)
          (chain_at_most on s x z v w rest)
      | inr ge ↦ at_most_before y x z y_pos x_pos (arc_at_most on s band _ y x arc)
          (chain_before on s x z v w q_pos (omega arith) rest)
    ]
