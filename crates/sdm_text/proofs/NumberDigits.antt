-- The number of digits in a row, digit by digit; and the first field of a line that begins with some and then a comma.
use Rattle.std.proofs.Common.{◌≡◌, ℕ, zero, suc, ◌+◌, ◌*◌, ◌%◌, ◌<◌, ◌≤◌, ◌^◌, pos, true, false, eqb, List, [], ◌∷◌}
use Rattle.std.proofs.Common.{Some, length, length-take, take, drop, get_or, refl, ap, lit<, add-one, arith}
use Rattle.std.proofs.Math.Nat.{pow-le-pow_right, pow-suc}
use Rattle.std.proofs.lemmas.Bool.{and_from, and_parts, false≢true, le-leb, ne_eqb}
use Rattle.std.proofs.lemmas.Bool.Decides.{nat_tests}
use Rattle.std.proofs.lemmas.List.{get_or-take}
use Rattle.std.proofs.lemmas.List.Folds.{list_all_more}
use Rattle.std.proofs.lemmas.List.Sums.{AllPass-from_list_all}
use Rattle.std.proofs.lemmas.Int.Digits.{digits_value_more}
use Rattle.std.specs.Char.{digit_value, is_ascii_digit}
use Rattle.std.specs.List.{list_all}
use Rattle.std.specs.Str.Parse.{digits_value}
use Rattle.sdm_formats.specs.Numbers.{is_digits, most_digits, number_of}
use Rattle.sdm_text.specs.FirstNumbers.{BeginsWithNumber}
use Rattle.sdm_text.proofs.FirstPieces.{found_field}
use Rattle.sdm_text.proofs.NumberFields.{no_comma}

-- what is below a power of ten is below each greater one
pub below_greater_power : (n i k : ℕ) → n < 10 ^ i → i ≤ k → n < 10 ^ k
below_greater_power n i k below le = let grows : 10 ^ i ≤ 10 ^ k = pow-le-pow_right (lit< tt) le in omega arith

-- the first i bytes are digits, and this is their number
pub record IsRead (ds : List ℕ) (i n : ℕ) : Type 0 where
  pub digits : list_all is_ascii_digit (take i ds) ≡ true
  pub writes : n ≡ digits_value 10 (take i ds)
  pub small : n < 10 ^ i

-- no digit
pub none_read : (ds : List ℕ) → IsRead ds 0 0
none_read ds = record { digits = refl; writes = refl; small = omega arith }

-- a byte less `0`, which wraps below it, in 64 bits
abbrev pub less_zero : ℕ → ℕ
less_zero b = (b + 18_446_744_073_709_551_568) % 2 ^ 64

-- it is at most 9 where the byte is a digit, and then the digit's value
digit_at_most_9 : (b : ℕ) → b < 256 → less_zero b ≤ 9 → (is_ascii_digit b ≡ true) × (digit_value b ≡ less_zero b)
digit_at_most_9 b fits small =
    let least : 48 ≤ b = omega arith in
    let most : b ≤ 57 = omega arith in
    (grind (arith, nat_tests), grind (arith, nat_tests))

-- one more digit, which the next byte is
pub one_more : (ds : List ℕ) (i n b j m : ℕ) → i < length ds → get_or ds i 0 < 256 → b ≡ get_or ds i 0 →
    less_zero b ≤ 9 → j ≡ i + 1 → m ≡ 10 * n + less_zero b → IsRead ds i n → IsRead ds j m
one_more ds i n b j m within fits of small next is before =
    let few = rw of at small in
    let digit = digit_at_most_9 (get_or ds i 0) fits few in
    rw (next, is, of) (record {
      digits = rw (list_all_more is_ascii_digit ds i 0 within) (and_from _ _ before.digits digit.0);
      writes = rw (digits_value_more 10 ds i within, digit.1, ← before.writes) (omega arith);
      small = let fewer = before.small in rw add-one (omega (arith, pow-suc 10 i));
    })

-- ---- digits and then a comma

take_of_take : (i m : ℕ) (xs : List ℕ) → i ≤ m → take i (take m xs) ≡ take i xs
take_of_take zero m xs le = refl
take_of_take (suc i) zero xs le = absurd (omega (arith, le))
take_of_take (suc i) (suc m) [] le = refl
take_of_take (suc i) (suc m) (x ∷ xs) le = ap (λ (t : List ℕ). x ∷ t) (take_of_take i m xs (omega (arith, le)))

-- what digits alone write
writes_digits : (ds : List ℕ) → is_digits ds ≡ true → number_of ds ≡ Some (pos (digits_value 10 ds))
writes_digits [] is = absurd (false≢true is)
writes_digits (c ∷ ds) is =
    let first : is_ascii_digit c
    ≡ true = (and_parts (is_ascii_digit c) (list_all is_ascii_digit ds) (and_parts _ _ is).1).0 in
    let plain : eqb c 45
    ≡ false = ne_eqb c 45 (λ same. let digit : is_ascii_digit 45 ≡ true = rw same at first in false≢true digit) in
    rw (plain, is) refl

module _ (line : List ℕ) (m count n : ℕ) (within : count < length (take m line)) (few : m ≤ most_digits + 1)
    (each : list_all is_ascii_digit (take count (take m line)) ≡ true) where
  -- the digits end before the bytes that are looked at do, and before the line
  short : (count < m) × (count < length line)
  short = (omega (arith, length-take m line), omega (arith, length-take m line))

  -- so they are the first bytes of the line
  digits : list_all is_ascii_digit (take count line) ≡ true
  digits = rw (take_of_take count m line (omega (arith, short.0))) at each

  long : length (take count line) ≡ count
  long = omega (arith, length-take count line, short.1)

  -- and none of them is a comma
  before : (k : ℕ) → k < count → eqb (get_or line k 0) 44 ≡ false
  before k lt = no_comma (get_or line k 0) (rw (get_or-take count line k 0 lt) at
      (AllPass-from_list_all is_ascii_digit (take count line) digits k 0 (omega (arith, long))))

  -- where a comma follows them, the line's first field is their number
  pub begins_with_digits : 0 < count → get_or (take m line) count 0 ≡ 44 →
      n ≡ digits_value 10 (take count (take m line)) → BeginsWithNumber line (pos n) (drop (count + 1) line)
  begins_with_digits some comma writes =
      let least : 1 ≤ length (take count line) = omega (arith, long) in
      let most : length (take count line) ≤ most_digits = omega (arith, long, short.0) in
      record {
        field = take count line;
        fields = found_field line count short.1 (rw (get_or-take m line count 0 short.0) at comma) before;
        writes = rw (writes, take_of_take count m line (omega (arith, short.0)))
            (writes_digits (take count line)
            (and_from _ _ (and_from _ _ (le-leb 1 _ least) (le-leb _ most_digits most)) digits));
      }
