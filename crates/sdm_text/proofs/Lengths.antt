-- How long a number is as text, for a caller that shows that there is room for it.
use Rattle.std.specs.Prelude.{◌≡◌, ℕ, ℤ, ◌+◌, ◌^◌, ◌<◌, ◌≤◌, List, ◌++◌, length, decimal, FitsSigned}
use Rattle.std.specs.Int.{w64}
use Rattle.std.specs.Fmt.{signed_decimal}
use Rattle.std.proofs.Common.{arith, length-append}
use Rattle.std.proofs.lemmas.Fmt.{length-decimal-le_wide, length_signed_le}

-- an i64 takes at most 20 bytes
pub signed_decimal_is_short : (n : ℤ) → FitsSigned w64 n → length (signed_decimal n) ≤ 20
signed_decimal_is_short n fits = length_signed_le 19 n (omega (arith, fits)) (omega (arith, fits))

-- a number that is put lengthens a row by at most 20 bytes
pub number_is_short : (old new : List ℕ) (n : ℤ) → FitsSigned w64 n → new ≡ old ++ signed_decimal n →
    length new ≤ length old + 20
number_is_short old new n fits put = rw (put, length-append) (omega (arith, signed_decimal_is_short n fits))

-- a u128 takes at most 39 bytes
pub wide_decimal_is_short : (n : ℕ) → n < 2 ^ 128 → length (decimal n) ≤ 39
wide_decimal_is_short n fits = length-decimal-le_wide 39 n (omega arith) (omega (arith, fits)) (omega (arith, fits))
