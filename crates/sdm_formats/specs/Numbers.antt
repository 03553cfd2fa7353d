-- Numbers in records and words: an optional minus sign and 1 to 18 decimal digits (own).
use Rattle.std.specs.Prelude.{ℕ, ℤ, pos, neg_ℤ, Bool, ◌&&◌, List, [], ◌∷◌, Option, Some, None, Result, Ok, Err, ◌==◌}
use Rattle.std.specs.Prelude.{nat_le, int_le, length, if◌then◌else◌}
use Rattle.std.specs.Char.{is_ascii_digit}
use Rattle.std.specs.List.{list_all}
use Rattle.std.specs.Str.Parse.{digits_value}
use Rattle.sdm_rules.specs.declared.faults.FieldFault.{FieldFault}
use Rattle.sdm_rules.specs.declared.faults.FieldFault.TheVariants.{NotNumber, OutOfRange}

-- the most digits of a number
abbrev pub most_digits : ℕ
most_digits = 18

-- the bytes are digits, at least one and at most so many; leading zeros are accepted
abbrev pub is_digits_of : ℕ → List ℕ → Bool
is_digits_of most ds = nat_le 1 (length ds) && nat_le (length ds) most && list_all is_ascii_digit ds

-- the bytes are 1 to 18 digits
abbrev pub is_digits : List ℕ → Bool
is_digits ds = is_digits_of most_digits ds

-- the number of digits after a minus sign
abbrev pub negated : List ℕ → Option ℤ
negated ds = if is_digits ds then Some (neg_ℤ (pos (digits_value 10 ds))) else None

-- the number that a field writes, if it is of this form
abbrev pub number_of : List ℕ → Option ℤ
number_of [] = None
number_of (c ∷ ds) =
    if c == 45 then negated ds else if is_digits (c ∷ ds) then Some (pos (digits_value 10 (c ∷ ds))) else None

-- the number where it is from `least` to `greatest`, both included, or why it is refused
abbrev pub in_range : ℤ → ℤ → Option ℤ → Result ℤ FieldFault
in_range least greatest None = Err NotNumber
in_range least greatest (Some n) = if int_le least n && int_le n greatest then Ok n else Err OutOfRange

-- the number of a field within a range, or why it is refused
unfoldable pub read_int : List ℕ → ℤ → ℤ → Result ℤ FieldFault
read_int field least greatest = in_range least greatest (number_of field)

-- the most digits of a wide number, one that may exceed 18 digits
abbrev pub most_wide_digits : ℕ
most_wide_digits = 38

-- the number that a field of 1 to 38 digits writes, up to `greatest`, or why it is refused
unfoldable pub read_wide : List ℕ → ℕ → Result ℕ FieldFault
read_wide field greatest =
    let n = digits_value 10 field in
    if is_digits_of most_wide_digits field then (if nat_le n greatest then Ok n else Err OutOfRange) else Err NotNumber
