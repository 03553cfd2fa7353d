-- A number has no comma in it, so a field that writes one is a line of one field.
use Rattle.std.proofs.Common.{◌≡◌, ℕ, ℤ, pos, neg_ℤ, Bool, true, false, cond, eqb, eqb-true, List, [], ◌∷◌, Some, None}
use Rattle.std.proofs.Common.{refl}
use Rattle.std.proofs.lemmas.Bool.{and_parts, ne_eqb, false≢true}
use Rattle.std.proofs.lemmas.Option.{cond_some}
use Rattle.std.specs.Char.{is_ascii_digit}
use Rattle.std.specs.List.{list_all}
use Rattle.std.specs.Str.Parse.{digits_value}
use Rattle.sdm_formats.specs.Lines.{comma_fields}
use Rattle.sdm_formats.specs.Numbers.{is_digits, number_of}

-- a digit is no comma
pub no_comma : (c : ℕ) → is_ascii_digit c ≡ true → eqb c 44 ≡ false
no_comma c is = ne_eqb c 44 (λ same. let digit : is_ascii_digit 44 ≡ true = rw same at is in false≢true digit)

-- digits alone are one field
digits_in_one : (ds : List ℕ) → list_all is_ascii_digit ds ≡ true → comma_fields ds ≡ ds ∷ []
digits_in_one [] all = refl
digits_in_one (c ∷ ds) all = let each = and_parts _ _ all in rw (no_comma c each.0, digits_in_one ds each.1) refl

all_digits : (ds : List ℕ) → is_digits ds ≡ true → list_all is_ascii_digit ds ≡ true
all_digits ds is = (and_parts _ _ is).1

-- a field that writes a number
pub number_in_one : (field : List ℕ) (n : ℤ) → number_of field ≡ Some n → comma_fields field ≡ field ∷ []
number_in_one [] n is = refl
number_in_one (c ∷ ds) n is = by_sign (eqb c 45) refl is
  where
    by_sign : (b : Bool) → eqb c 45 ≡ b → cond b (cond (is_digits ds) (Some (neg_ℤ (pos (digits_value 10 ds)))) None)
        (cond (is_digits (c ∷ ds)) (Some (pos (digits_value 10 (c ∷ ds)))) None) ≡ Some n →
        comma_fields (c ∷ ds) ≡ (c ∷ ds) ∷ []
    by_sign true minus is = rw (eqb-true c 45 minus, digits_in_one ds (all_digits ds (cond_some _ _ _ is).0)) refl
    by_sign false plain is = digits_in_one (c ∷ ds) (all_digits (c ∷ ds) (cond_some _ _ _ is).0)
