-- The number of the first field of a line (own).
use Rattle.std.specs.Prelude.{◌≡◌, ◌≢◌, ℕ, ℤ, List, ◌∷◌, Ok, Some}
use Rattle.sdm_formats.specs.Lines.{comma_fields}
use Rattle.sdm_formats.specs.Numbers.{number_of, read_int}

-- a comma ends the line's first field, which writes this number; `after` is the line after the comma
pub record BeginsWithNumber (line : List ℕ) (number : ℤ) (after : List ℕ) : Type 0 where
  pub field : List ℕ
  pub fields : comma_fields line ≡ field ∷ comma_fields after
  pub writes : number_of field ≡ Some number

-- a comma ends the line's first field, which is read as this number from `least` to `greatest`; `after` is the line
-- after the comma
pub record BeginsWithNumberIn (line : List ℕ) (least greatest number : ℤ) (after : List ℕ) : Type 0 where
  pub field : List ℕ
  pub fields : comma_fields line ≡ field ∷ comma_fields after
  pub read : read_int field least greatest ≡ Ok number

-- no comma ends the line's first field, or it is read as no number from `least` to `greatest`
abbrev pub BeginsWithNoNumberIn : List ℕ → ℤ → ℤ → Type 0
BeginsWithNoNumberIn line least greatest = (field next : List ℕ) (more : List (List ℕ)) (number : ℤ) →
    comma_fields line ≡ field ∷ next ∷ more → read_int field least greatest ≢ Ok number
