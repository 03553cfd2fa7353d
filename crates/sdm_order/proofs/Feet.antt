-- The order of stepped curves from their feet: a foot is the corner of its band, so the levels there compare as the
-- places do.
use Rattle.std.proofs.Common.{ℕ, ℤ, ◌*◌, ◌≤◌, ◌≤ℤ◌, ◌<ℤ◌, arith, inl, inr}
use Rattle.std.proofs.lemmas.Int.{ints}
use Rattle.std.proofs.lemmas.Bool.{cases_lt}
use Rattle.std.proofs.lemmas.Nat.{mul-le}
use Rattle.sdm_rules.specs.Slopes.{Slopes, IsUsable}
use Rattle.sdm_rules.specs.Curves.{stepped}
use Rattle.sdm_rules.specs.Motion.{IsInBand}
use Rattle.sdm_laws.proofs.BrakeCurves.Bands.{band_rises, in_its_band}
use Rattle.sdm_laws.proofs.BrakeCurves.Corners.{own_of}
use Rattle.sdm_laws.proofs.BrakeCurves.CurveOrder.{stepped_falls, stepped_foot}
use Rattle.sdm_laws.proofs.BrakeCurves.Nearest.{nearest_own}
use Rattle.sdm_order.specs.CurvesInOrder.{IsAtOrPast}
use Rattle.sdm_order.proofs.LevelOrder.{at_or_past, before, order, order_above}

-- a foot speed is in its own band
in_own : (on : Slopes) (w : ℕ) → IsInBand on 1 (own_of on 1 w) (w * w)
in_own on w =
    let own = in_its_band on 1 (1 * (w * w)) in
    record { known = own.known; above = omega (arith, own.above); below = λ lt. omega (arith, own.below lt) }

pub later_curves : (on : Slopes) (f g : ℤ) (w x v : ℕ) → IsUsable on → f ≤ℤ stepped on g x w →
    stepped on f w v ≤ℤ stepped on g x v
later_curves on f g w x v usable at =
    order on usable f g w x v
    (at_or_past on usable f g w x (own_of on 1 w) w (nearest_own on 1 usable (omega arith) w) (in_own on w)
    (rw (stepped_foot on f w) at))

pub earlier_curves : (on : Slopes) (f g : ℤ) (w x v : ℕ) → IsUsable on → x ≤ w → w ≤ v → stepped on g x w <ℤ f →
    stepped on g x v ≤ℤ stepped on f w v
earlier_curves on f g w x v usable slower faster lt =
    let own = own_of on 1 w in
    let levels = before on usable f g w x own w (nearest_own on 1 usable (omega arith) w) (in_own on w)
    (rw (stepped_foot on f w) lt) in
    order_above on usable g f x w own v
    (band_rises on 1 (1 * (x * x)) (1 * (w * w)) (omega (arith, mul-le x x w w slower slower)))
    (band_rises on 1 (1 * (w * w)) (v * v) (omega (arith, mul-le w w v v faster faster)))
    (omega (arith, ints, levels))

-- a curve that begins further on, and is no slower, is at or past the foot of another one at its foot speed
past_foot : (on : Slopes) (f g : ℤ) (w x : ℕ) → IsUsable on → f ≤ℤ g → w ≤ x → f ≤ℤ stepped on g x w
past_foot on f g w x usable le le' =
    let falls = stepped_falls on g x w x usable le' in
    omega (arith, ints, le, falls, stepped_foot on g x)

pub feet_in_order : (on : Slopes) (f g : ℤ) (w x v : ℕ) → IsUsable on → f ≤ℤ g → w ≤ x →
    stepped on f w v ≤ℤ stepped on g x v
feet_in_order on f g w x v usable le le' = later_curves on f g w x v usable (past_foot on f g w x usable le le')

-- what doesn't hide a curve is at or past its foot at its foot speed
foot_passed : (on : Slopes) (f g : ℤ) (w x : ℕ) → IsUsable on → f ≤ℤ g → IsAtOrPast on f w g x → f ≤ℤ stepped on g x w
foot_passed on f g w x usable le at = elim (cases_lt w x) [
  | inl lt ↦ past_foot on f g w x usable le (omega (arith, lt))
  | inr ge ↦ at ge
]

pub passed_curves : (on : Slopes) (f g : ℤ) (w x v : ℕ) → IsUsable on → f ≤ℤ g → IsAtOrPast on f w g x →
    stepped on f w v ≤ℤ stepped on g x v
passed_curves on f g w x v usable le at = later_curves on f g w x v usable (foot_passed on f g w x usable le at)

pub steps : (on : Slopes) (f g h : ℤ) (w x y : ℕ) → IsUsable on → f ≤ℤ g → g ≤ℤ h → IsAtOrPast on f w g x →
    IsAtOrPast on g x h y → IsAtOrPast on f w h y
steps on f g h w x y usable le le' one two slow =
    let here = foot_passed on f g w x usable le one in
    let there = passed_curves on g h x y w usable le' two in
    omega (arith, ints, here, there)
