-- The energy of a distance in whole numbers, and why the products fit.
use Rattle.std.proofs.Common.{◌≡◌, ℕ, ℤ, pos, neg_ℤ, ◌-◌, ◌*◌, ◌^◌, ◌≤◌, ◌+ℤ◌, ◌*ℤ◌, ◌≤ℤ◌, arith}
use Rattle.std.proofs.lemmas.Int.{ints}
use Rattle.std.proofs.lemmas.Nat.{mul-le}
use Rattle.sdm_num.specs.Units.{IsPlace}
use Rattle.sdm_num.proofs.Ints.{scale-+ℤ, scale-≤}
use Rattle.sdm_rules.specs.Slopes.{Slopes}
use Rattle.sdm_rules.specs.Curves.{grain_energy}
use Rattle.sdm_rules.specs.Motion.{BrakesAtLeast}

-- where the rate over the distance is at most the energy, the train brakes at least with the slope
pub enough_of : (on : Slopes) (a rate : ℕ) (p p' : ℤ) (u u' distance energy : ℕ) → rate ≡ 27 * a →
    p' ≡ p +ℤ pos distance → energy ≡ grain_energy on (u - u') → p ≤ℤ p' → u' ≤ u → rate * distance ≤ energy →
    BrakesAtLeast on a p u p' u'
enough_of on a rate p p' u u' distance energy r e f forward slower h = record {
  forward = forward;
  slower = slower;
  enough = rw (e, scale-+ℤ) (let h' = rw (r, f) at h in omega (arith, ints));
}

-- and back
pub enough_out : (on : Slopes) (a rate : ℕ) (p p' : ℤ) (u u' distance energy : ℕ) → rate ≡ 27 * a → p' ≡ p
    +ℤ pos distance → energy ≡ grain_energy on (u - u') → BrakesAtLeast on a p u p' u' → rate * distance ≤ energy
enough_out on a rate p p' u u' distance energy r e f h = let g =
    rw (e, scale-+ℤ) at h.enough in rw (r, f) (omega (arith, ints, g))

-- the rate over the distance is small enough for 128 bits
pub fits_product : (rate distance : ℕ) → rate ≤ 27 * 10 ^ 15 → distance ≤ 3 * 10 ^ 21 → rate * distance ≤ 81 * 10 ^ 36
fits_product rate distance p q = omega (arith, mul-le rate distance (27 * 10 ^ 15) (3 * 10 ^ 21) p q)

-- a motion begins in range
pub begins_low : (m : ℕ) (f z : ℤ) → m ≤ 256 → IsPlace f → z ≡ pos m *ℤ f → neg_ℤ (pos (2 * 10 ^ 21)) ≤ℤ z
begins_low m f z few place is = omega (arith, ints, is, scale-≤ m _ _ place.0)
