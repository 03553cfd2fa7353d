-- One output and no other: where it is named, and in each of two cases.
use Rattle.std.proofs.Common.{◌≡◌, Bool, true, false, refl}
use Rattle.std.specs.Prelude.{MatchBool}
use Rattle.sdm_formats.specs.Flat.{Output}

-- there is an output with P, and no other
abbrev pub Single : (Output → Type 0) → Type 0
Single P = (output : Output) × (P output × ((other : Output) → P other → other ≡ output))

-- one that is named
pub named : (x : Output) → Single (λ output. output ≡ x)
named x = (x, (refl, λ other h. h))

-- in each of two cases
pub in_case : (P Q : Output → Type 0) (b : Bool) → Single P → Single Q →
    Single (λ output. MatchBool b (P output) (Q output))
in_case P Q true p q = p
in_case P Q false p q = q
