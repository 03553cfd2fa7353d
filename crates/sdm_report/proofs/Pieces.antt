-- Pieces that are put one after the other, and fields with commas between them.
use Rattle.std.proofs.Common.{◌≡◌, ℕ, ℤ, ◌+◌, ◌≤◌, Bool, true, false, List, [], ◌∷◌, ◌++◌, refl, ap, ◌∙◌, append_assoc}
use Rattle.std.proofs.Common.{FitsSigned, to_z, of_z, w64, length}
use Rattle.std.specs.Fmt.{signed_decimal}
use Rattle.std.specs.Int.{from_bool}
use Rattle.std.specs.List.{join_with_byte}
use Rattle.std.proofs.lemmas.Int.{to_z-of_z}
use Rattle.sdm_formats.specs.Text.{flag_text}
use Rattle.sdm_text.proofs.Lengths.{signed_decimal_is_short}

-- three pieces are put
pub three_pieces : (old one two new a b c : List ℕ) → one ≡ old ++ a → two ≡ one ++ b → new ≡ two ++ c →
    new ≡ old ++ (a ++ b ++ c)
three_pieces old one two new a b c first second third = rw (third, second, first) (simp append_assoc)

-- the text is that of fields with commas between them
pub record IsJoined (text : List ℕ) (fields : List (List ℕ)) : Type 0 where
  pub is : text ≡ join_with_byte 44 fields

-- one more field lengthens what is joined after it
join-cons : (x y : List ℕ) (xs ys : List (List ℕ)) →
    join_with_byte 44 (x ∷ xs) ++ (44 ∷ join_with_byte 44 (y ∷ ys)) ≡ join_with_byte 44 ((x ∷ xs) ++ (y ∷ ys))
join-cons x y [] ys = refl
join-cons x y (z ∷ xs) ys = append_assoc x (44 ∷ join_with_byte 44 (z ∷ xs)) (44 ∷ join_with_byte 44 (y ∷ ys))
    ∙ ap (λ (rest : List ℕ). x ++ (44 ∷ rest)) (join-cons z y xs ys)

-- a comma and further fields are put
pub more_fields : (old comma new : List ℕ) (x y : List ℕ) (xs ys : List (List ℕ)) → IsJoined old (x ∷ xs) →
    comma ≡ old ++ 44 ∷ [] → new ≡ comma ++ join_with_byte 44 (y ∷ ys) → IsJoined new ((x ∷ xs) ++ (y ∷ ys))
more_fields old comma new x y xs ys h comma_is new_is = record {
  is = new_is ∙ rw (comma_is, h.is)
      (append_assoc (join_with_byte 44 (x ∷ xs)) (44 ∷ []) (join_with_byte 44 (y ∷ ys)) ∙ join-cons x y xs ys);
}

-- the digit of a flag
pub flag_digit : (b : Bool) (n : ℕ) → n ≡ from_bool b → (48 + n) ∷ [] ≡ flag_text b
flag_digit true n is = rw is refl
flag_digit false n is = rw is refl

-- a number that is put is short
pub number_is_short : (z : ℤ) → FitsSigned w64 z → length (signed_decimal (to_z w64 (of_z w64 z))) ≤ 20
number_is_short z fits = rw (to_z-of_z w64 z fits) (signed_decimal_is_short z fits)
