-- Where rules in turn find no fault, none of them does, and where no fault is told at a key, no key is refused.
use Rattle.std.proofs.Common.{◌≡◌, ℕ, Option, Some, None, refl}
use Rattle.sdm_rules.specs.Ranges.{or_else, fault_at}

-- neither of two faults
pub neither : {A : Type 0} (x y : Option A) → or_else x y ≡ None → (x ≡ None) × (y ≡ None)
neither None y e = (refl, e)
neither (Some x) y e = cc

-- no fault at a key: no key is refused
pub not_refused : {F : Type 0} (fault : ℕ → F) (key : Option ℕ) → fault_at fault key ≡ None → key ≡ None
not_refused fault None e = refl
not_refused fault (Some key) e = cc
