-- What stands after the second comma of a line is read as its third field: a number has no comma in it, so where one
-- is read there the line has three fields, and where none is read the line is refused whatever it has.
use Rattle.std.proofs.Common.{◌≡◌, ◌≢◌, ℕ, ℤ, pos, negsuc, List, [], ◌∷◌, Option, Some, None, Result, Ok, Err}
use Rattle.std.proofs.Common.{unsigned_abs, refl, ap, sym, ◌∙◌}
use Rattle.std.proofs.lemmas.List.Splits.{join_with_byte-slice_split}
use Rattle.std.specs.List.{join_with_byte}
use Rattle.sdm_num.specs.Units.{place_of_mm, notches_of_mm_s}
use Rattle.sdm_rules.specs.declared.faults.FieldFault.{FieldFault}
use Rattle.sdm_rules.specs.declared.faults.FieldFault.TheVariants.{NotNumber}
use Rattle.sdm_formats.specs.Flat.{FlatLine, flat_line, flat_line_of, with_field}
use Rattle.sdm_formats.specs.Lines.{comma_fields}
use Rattle.sdm_formats.specs.Numbers.{number_of, read_int}
use Rattle.sdm_text.specs.FirstNumbers.{BeginsWithNumberIn, BeginsWithNoNumberIn}
use Rattle.sdm_text.proofs.NumberFields.{number_in_one}

-- the numbers of the three fields
abbrev time_of : List ℕ → Result ℤ FieldFault
time_of field = read_int field (pos 0) (pos 100_000_000)

-- the number of the second field
abbrev front_of : List ℕ → Result ℤ FieldFault
front_of field = read_int field (negsuc 9_999_999) (pos 110_000_000)

-- the number of the third field
abbrev speed_of : List ℕ → Result ℤ FieldFault
speed_of field = read_int field (pos 0) (pos 138_888)

-- a field that is no number is refused as such
not_number : (field : List ℕ) → number_of field ≡ None → speed_of field ≡ Err NotNumber
unfolding read_int
not_number field none = rw none refl

-- ---- lines that are refused, field by field

-- by the field itself
no_number : (r : Result ℤ FieldFault) (rest : ℤ → Option FlatLine) → ((n : ℤ) → r ≢ Ok n) → with_field r rest ≡ None
no_number (Err fault) rest none = refl
no_number (Ok n) rest none = absurd (none n refl)

-- by those after it
refused_after : (r : Result ℤ FieldFault) (rest : ℤ → Option FlatLine) → ((n : ℤ) → rest n ≡ None) →
    with_field r rest ≡ None
refused_after (Err fault) rest none = refl
refused_after (Ok n) rest none = none n

-- a line whose time is no number in its range
pub bad_time : (line : List ℕ) → BeginsWithNoNumberIn line (pos 0) (pos 100_000_000) → flat_line line ≡ None
unfolding flat_line
bad_time line none = by_fields (comma_fields line) refl
  where
    by_fields : (fields : List (List ℕ)) → comma_fields line ≡ fields → flat_line_of fields ≡ None
    by_fields [] was = refl
    by_fields (a ∷ []) was = refl
    by_fields (a ∷ b ∷ []) was = refl
    by_fields (a ∷ b ∷ d ∷ []) was = no_number (time_of a) _ (λ n. none a b (d ∷ []) n was)
    by_fields (a ∷ b ∷ d ∷ e ∷ more) was = refl

module _ (line rest : List ℕ) (t : ℤ) (first : BeginsWithNumberIn line (pos 0) (pos 100_000_000) t rest) where
  -- a line whose front end is no number in its range
  pub bad_front : BeginsWithNoNumberIn rest (negsuc 9_999_999) (pos 110_000_000) → flat_line line ≡ None
  unfolding flat_line
  bad_front none = ap flat_line_of first.fields ∙ by_fields (comma_fields rest) refl
    where
      by_fields : (fields : List (List ℕ)) → comma_fields rest ≡ fields → flat_line_of (first.field ∷ fields) ≡ None
      by_fields [] was = refl
      by_fields (b ∷ []) was = refl
      by_fields (b ∷ d ∷ []) was =
          refused_after (time_of first.field) _ (λ n. no_number (front_of b) _ (λ m. none b d [] m was))
      by_fields (b ∷ d ∷ e ∷ more) was = refl

  module _ (speed : List ℕ) (f : ℤ)
      (second : BeginsWithNumberIn rest (negsuc 9_999_999) (pos 110_000_000) f speed) where
    -- the first two fields, and what stands after them
    abbrev fields_with : List (List ℕ) → List (List ℕ)
    fields_with third = first.field ∷ second.field ∷ third

    -- a third field that is refused: so is the line
    refused : (fault : FieldFault) → speed_of speed ≡ Err fault → flat_line_of (fields_with (speed ∷ [])) ≡ None
    refused fault is =
        refused_after (time_of first.field) _ (λ n. refused_after (front_of second.field) _ (λ m. rw is refl))

    -- what is left is the third field
    third_field : flat_line_of (fields_with (comma_fields speed)) ≡ flat_line_of (fields_with (speed ∷ []))
    third_field = by_number (number_of speed) refl
      where
        none_read : number_of speed ≡ None → flat_line_of (fields_with (speed ∷ [])) ≡ None
        none_read none = refused NotNumber (not_number speed none)

        by_fields : (fields : List (List ℕ)) → comma_fields speed ≡ fields → number_of speed ≡ None →
            flat_line_of (fields_with fields) ≡ None
        by_fields [] was none = refl
        by_fields (d ∷ []) was none = let whole : d ≡ speed =
            sym (ap (join_with_byte 44) was) ∙ join_with_byte-slice_split 44 speed in rw whole (none_read none)
        by_fields (d ∷ e ∷ more) was none = refl

        by_number : (o : Option ℤ) → number_of speed ≡ o →
            flat_line_of (fields_with (comma_fields speed)) ≡ flat_line_of (fields_with (speed ∷ []))
        by_number None is = by_fields (comma_fields speed) refl is ∙ sym (none_read is)
        by_number (Some n) is = ap (λ (fs : List (List ℕ)). flat_line_of (fields_with fs)) (number_in_one speed n is)

    -- the line is that of its three fields
    line_is : flat_line line ≡ flat_line_of (fields_with (speed ∷ []))
    unfolding flat_line
    line_is = ap flat_line_of (first.fields ∙ ap (λ (fs : List (List ℕ)). first.field ∷ fs) second.fields) ∙ third_field

    -- a line whose speed is refused
    pub bad_speed : (fault : FieldFault) → speed_of speed ≡ Err fault → flat_line line ≡ None
    bad_speed fault is = line_is ∙ refused fault is

    -- a line of three numbers in their ranges
    pub good_line : (n : ℕ) → speed_of speed ≡ Ok (pos n) →
        flat_line line ≡ Some (record { time = unsigned_abs t; front = place_of_mm f; speed = notches_of_mm_s n })
    good_line n is = line_is ∙ rw (first.read, second.read, is) refl
