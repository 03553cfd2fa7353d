-- Fields that are put one after the other, each with the comma before it.
use Rattle.std.proofs.Common.{◌≡◌, ℕ, ◌^◌, ◌≤◌, List, [], ◌∷◌, ◌++◌, length, decimal, refl, sym, ◌∙◌, append_assoc}
use Rattle.std.proofs.Common.{arith}
use Rattle.std.proofs.lemmas.Fmt.{length-decimal-le}
use Rattle.sdm_report.proofs.Pieces.{IsJoined, more_fields}

-- a slope takes at most 16 bytes
pub slope_is_short : (n : ℕ) → n ≤ 10 ^ 15 → length (decimal n) ≤ 16
slope_is_short n small = length-decimal-le 16 n (omega arith) (omega (arith, small)) (omega (arith, small))

-- a comma and one more field are put
pub field_added : (old new x y : List ℕ) (xs : List (List ℕ)) → IsJoined old (x ∷ xs) → new ≡ old ++ 44 ∷ y →
    IsJoined new (x ∷ xs ++ y ∷ [])
field_added old new x y xs h new_is =
    more_fields old (old ++ 44 ∷ []) new x y xs [] h refl (new_is ∙ sym (append_assoc old (44 ∷ []) y))
