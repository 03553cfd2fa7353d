-- Sizes of whole numbers: what fits, and how large products are.
use Rattle.std.proofs.Common.{◌≡◌, ℕ, ℤ, pos, negsuc, neg_ℤ, ◌+◌, ◌-◌, ◌*◌, ◌^◌, ◌<◌, ◌≤◌, ◌-ℤ◌, ◌*ℤ◌, ◌≤ℤ◌}
use Rattle.std.proofs.Common.{unsigned_abs, FitsSigned, w64, to_z, of_z, refl, arith}
use Rattle.std.proofs.lemmas.Int.{ints, to_z-of_z, fits_signed_from_abs, unsigned_abs-mul}
use Rattle.std.proofs.Math.Nat.{mul-le-mul}
use Rattle.sdm_rules.specs.declared.data.Band.{Band}
use Rattle.sdm_rules.specs.Decelerations.{brake_safe}
use Rattle.sdm_train.specs.Trains.{IsBand}

-- the number lies at most `m` from 0
abbrev pub IsSmall : ℕ → ℤ → Type 0
IsSmall m x = (neg_ℤ (pos m) ≤ℤ x) × (x ≤ℤ pos m)

-- it does where it is no greater without its sign
pub small_of : (x : ℤ) (m : ℕ) → unsigned_abs x ≤ m → IsSmall m x
small_of (pos n) m le = (omega (arith, ints), omega (arith, ints))
small_of (negsuc n) m le = (omega (arith, ints), omega (arith, ints))

-- and only there
pub size_of : (x : ℤ) (m : ℕ) → IsSmall m x → unsigned_abs x ≤ m
size_of (pos n) m h = omega (arith, ints, h.0, h.1)
size_of (negsuc n) m h = omega (arith, ints, h.0, h.1)

-- a product is no larger than that of its bounds
pub product_small : (a : ℕ) (b : ℤ) (m n : ℕ) → a ≤ m → IsSmall n b → IsSmall (m * n) (pos a *ℤ b)
product_small a b m n le small =
    small_of (pos a *ℤ b) (m * n) (rw (unsigned_abs-mul (pos a) b) (mul-le-mul le (size_of b n small)))

-- a small number fits 64 bits
pub fits : (x : ℤ) (m : ℕ) → IsSmall m x → m < 2 ^ 63 → FitsSigned w64 x
fits x m small lt = fits_signed_from_abs w64 x (omega (arith, size_of x m small))

-- a small number is read from its bits as it is
pub stays : (x : ℤ) (m : ℕ) → IsSmall m x → m < 2 ^ 63 → to_z w64 (of_z w64 x) ≡ x
stays x m small lt = to_z-of_z w64 x (fits x m small lt)

-- a number that is not negative, in naturals
pub nat_is : (z : ℤ) → pos 0 ≤ℤ z → pos (unsigned_abs z) ≡ z
nat_is (pos n) h = refl
nat_is (negsuc n) h = absurd (omega (arith, ints))

-- the rest up to a number, in naturals
rest : (m : ℕ) (z : ℤ) → pos 0 ≤ℤ z → z ≤ℤ pos m → pos (m - unsigned_abs z) ≡ pos m -ℤ z
rest m (pos n) low high = omega (arith, ints)
rest m (negsuc n) low high = absurd (omega (arith, ints))

-- the emergency brake's deceleration, in naturals
pub brake_safe_is : (avadh emergency : ℕ) (b : Band) → IsBand b →
    pos (unsigned_abs b.kdry * (20 * unsigned_abs b.kwet + avadh * (1000 - unsigned_abs b.kwet)) * emergency)
    ≡ brake_safe (pos avadh) b (pos emergency)
brake_safe_is avadh emergency b h =
    let kdry = nat_is b.kdry (omega (arith, ints, h.kdry.0)) in
    let kwet = nat_is b.kwet (omega (arith, ints, h.kwet.0)) in
    let dry = rest 1000 b.kwet (omega (arith, ints, h.kwet.0)) h.kwet.1 in
    rw (← kdry, ← dry, ← kwet) refl
