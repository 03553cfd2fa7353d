-- A line has a first field, if an empty one.
use Rattle.std.proofs.Common.{◌≡◌, ℕ, Bool, true, false, eqb, List, [], ◌∷◌, refl}
use Rattle.std.specs.List.{onto_first}
use Rattle.sdm_formats.specs.Lines.{comma_fields}
use Rattle.sdm_certify.specs.Fields.{is_end}

-- a field that is longer by a byte is a field
longer_is_some : (c : ℕ) (fields : List (List ℕ)) → is_end (onto_first c fields) ≡ false
unfolding is_end
longer_is_some c [] = refl
longer_is_some c (field ∷ fields) = refl

-- a line has a field
pub line_has_fields : (line : List ℕ) → is_end (comma_fields line) ≡ false
unfolding is_end
line_has_fields [] = refl
line_has_fields (c ∷ cs) = by_comma (eqb c 44) refl
  where
    by_comma : (b : Bool) → eqb c 44 ≡ b → is_end (comma_fields (c ∷ cs)) ≡ false
    by_comma true is = rw is refl
    by_comma false is = rw is (longer_is_some c (comma_fields cs))

-- no field is left after the last one was taken
pub none_left : is_end [] ≡ true
unfolding is_end
none_left = refl
