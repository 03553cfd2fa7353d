-- A number that is written as a field is read back from it, and fields with commas between them are those of the line.
use Rattle.std.proofs.Common.{◌≡◌, ℕ, ℤ, pos, negsuc, neg_ℤ, suc, Bool, true, false, not, eqb, List, [], ◌∷◌}
use Rattle.std.proofs.Common.{◌++◌, ◌^◌, ◌-◌, ◌<◌, ◌≤◌, ◌≤ℤ◌, Option, Some, Ok, length, decimal, map, refl, ap, sym, ◌∙◌}
use Rattle.std.proofs.Common.{append_assoc, arith}
use Rattle.std.specs.Prelude.{◌&&◌}
use Rattle.std.proofs.lemmas.Bool.{and_from, and_parts, false≢true, le-leb, ne_eqb}
use Rattle.std.proofs.lemmas.Bool.Decides.{nat_tests}
use Rattle.std.proofs.lemmas.Int.{ints}
use Rattle.std.proofs.lemmas.Fmt.{decimal_is_IsNumeral_wide, length-decimal-le_wide}
use Rattle.std.specs.Char.{digit_value, is_ascii_digit}
use Rattle.std.specs.Fmt.{signed_decimal}
use Rattle.std.specs.List.{list_all, join_with_byte, onto_first}
use Rattle.std.specs.Str.Parse.{AllDigits, digits_value}
use Rattle.std.specs.Io.BufRead.{strip_last}
use Rattle.std.specs.Str.{bytes_eq}
use Rattle.std.proofs.Common.{length-append}
use Rattle.std.proofs.Math.Seq.{get_or-append_seam, take-append_seam}
use Rattle.sdm_num.proofs.Comparisons.{le_is}
use Rattle.sdm_formats.specs.Lines.{comma_fields, ended_lines, lines_of}
use Rattle.sdm_formats.specs.Numbers.{is_digits, is_digits_of, number_of, read_int, read_wide}
use Rattle.sdm_formats.specs.Text.{text_line}
use Rattle.sdm_certify.specs.Fields.{first_number, first_wide, first_word}
use Rattle.sdm_certify.specs.Lines.{next_line}
use Rattle.sdm_text.proofs.NumberFields.{no_comma}

-- ---- digits

-- a byte of a value below ten is a digit
digit : (c : ℕ) → digit_value c < 10 → is_ascii_digit c ≡ true
digit c small = grind (arith, nat_tests)

-- so are bytes of such values
are_digits : (ds : List ℕ) → AllDigits 10 ds → list_all is_ascii_digit ds ≡ true
are_digits [] all = refl
are_digits (c ∷ ds) all = and_from _ _ (digit c all.0) (are_digits ds all.1)

-- what is written of a number is digits
digits_written : (n : ℕ) → n < 10 ^ 64 → list_all is_ascii_digit (decimal n) ≡ true
digits_written n small = are_digits (decimal n) (decimal_is_IsNumeral_wide n small).0.1

-- so many digits at most
pub few_digits : (most n : ℕ) → 0 < most → n < 10 ^ most → n < 10 ^ 64 → is_digits_of most (decimal n) ≡ true
few_digits most n some few small =
    let least : 1 ≤ length (decimal n) = (decimal_is_IsNumeral_wide n small).0.0 in
    and_from _ _ (and_from _ _ (le-leb 1 _ least) (le-leb _ most (length-decimal-le_wide most n some few small)))
    (digits_written n small)

-- digits write their value
no_minus : (ds : List ℕ) → is_digits ds ≡ true → number_of ds ≡ Some (pos (digits_value 10 ds))
no_minus [] is = absurd (false≢true is)
no_minus (c ∷ ds) is =
    let first : is_ascii_digit c
    ≡ true = (and_parts (is_ascii_digit c) (list_all is_ascii_digit ds) (and_parts _ _ is).1).0 in
    let plain : eqb c 45
    ≡ false = ne_eqb c 45 (λ same. let digit : is_ascii_digit 45 ≡ true = rw same at first in false≢true digit) in
    rw (plain, is) refl

-- the number that a field of it writes
pub number_written : (z : ℤ) → neg_ℤ (pos (10 ^ 18 - 1)) ≤ℤ z → z ≤ℤ pos (10 ^ 18 - 1) →
    number_of (signed_decimal z) ≡ Some z
number_written (pos n) low high =
    let small : n < 10 ^ 18 = omega (arith, ints, high) in
    no_minus (decimal n) (few_digits 18 n (omega arith) small (omega (arith, small)))
    ∙ ap (λ m. Some (pos m)) (decimal_is_IsNumeral_wide n (omega (arith, small))).1
number_written (negsuc n) low high =
    let small : suc n < 10 ^ 18 = omega (arith, ints, low) in
    rw (
      few_digits 18 (suc n) (omega arith) small (omega (arith, small)),
      (decimal_is_IsNumeral_wide (suc n) (omega (arith, small))).1,
    ) refl

-- ---- fields

-- no byte is a comma or a line feed
abbrev pub is_plain : List ℕ → Bool
is_plain field = list_all (λ c. not (eqb c 44) && not (eqb c 10)) field

-- a digit is no line feed
no_lf : (c : ℕ) → is_ascii_digit c ≡ true → eqb c 10 ≡ false
no_lf c is = ne_eqb c 10 (λ same. let digit : is_ascii_digit 10 ≡ true = rw same at is in false≢true digit)

-- digits have neither among them
plain_digits : (ds : List ℕ) → list_all is_ascii_digit ds ≡ true → is_plain ds ≡ true
plain_digits [] all = refl
plain_digits (c ∷ ds) all =
    let each = and_parts (is_ascii_digit c) (list_all is_ascii_digit ds) all in
    and_from _ _ (and_from _ _ (ap not (no_comma c each.0)) (ap not (no_lf c each.0))) (plain_digits ds each.1)

-- nor has a number that is written
pub plain_number : (z : ℤ) → neg_ℤ (pos (10 ^ 18 - 1)) ≤ℤ z → z ≤ℤ pos (10 ^ 18 - 1) →
    is_plain (signed_decimal z) ≡ true
plain_number (pos n) low high = plain_digits (decimal n) (digits_written n (omega (arith, ints, high)))
plain_number (negsuc n) low high = plain_digits (decimal (suc n)) (digits_written (suc n) (omega (arith, ints, low)))

-- nor a wide one
pub plain_wide : (n : ℕ) → n < 10 ^ 64 → is_plain (decimal n) ≡ true
plain_wide n small = plain_digits (decimal n) (digits_written n small)

-- what isn't so is false
untrue : (b : Bool) → not b ≡ true → b ≡ false
untrue true is = absurd (false≢true is)
untrue false is = refl

-- a byte of a plain field, and what follows it
plain_parts : (c : ℕ) (cs : List ℕ) → is_plain (c ∷ cs) ≡ true →
    (eqb c 44 ≡ false) × (eqb c 10 ≡ false) × (is_plain cs ≡ true)
plain_parts c cs plain =
    let each = and_parts (not (eqb c 44) && not (eqb c 10)) (is_plain cs) plain in
    let both = and_parts (not (eqb c 44)) (not (eqb c 10)) each.0 in
    (untrue _ both.0, untrue _ both.1, each.1)

-- bytes with no comma among them are one field
alone : (field : List ℕ) → is_plain field ≡ true → comma_fields field ≡ field ∷ []
alone [] plain = refl
alone (c ∷ cs) plain = let each = plain_parts c cs plain in rw (each.0, alone cs each.2) refl

-- and the first field where a comma follows them
first_of : (field rest : List ℕ) → is_plain field ≡ true →
    comma_fields (field ++ 44 ∷ rest) ≡ field ∷ comma_fields rest
first_of [] rest plain = refl
first_of (c ∷ cs) rest plain = let each = plain_parts c cs plain in rw (each.0, first_of cs rest each.2) refl

-- fields with no comma in them are those of their line
pub fields_written : (x : List ℕ) (xs : List (List ℕ)) → list_all is_plain (x ∷ xs) ≡ true →
    comma_fields (join_with_byte 44 (x ∷ xs)) ≡ x ∷ xs
fields_written x [] plain = alone x (and_parts (is_plain x) true plain).0
fields_written x (y ∷ ys) plain =
    let each = and_parts (is_plain x) (list_all is_plain (y ∷ ys)) plain in
    first_of x (join_with_byte 44 (y ∷ ys)) each.0 ∙ ap (λ rest. x ∷ rest) (fields_written y ys each.1)

-- ---- lines

-- a line without the LF that ends it
pub without_lf : (xs : List ℕ) → strip_last 10 (xs ++ 10 ∷ []) ≡ xs
without_lf xs =
    let long = length-append xs (10 ∷ []) in
    let some : 1 ≤ length (xs ++ 10 ∷ []) = omega (arith, long) in
    let last : length (xs ++ 10 ∷ []) - 1 ≡ length xs = omega (arith, long) in
    rw (le-leb 1 _ some, last, get_or-append_seam xs 10 [] 0, take-append_seam xs (10 ∷ [])) refl

-- a plain field, and then bytes that are a line, are a line
field_ended : (field rest line : List ℕ) (lines : List (List ℕ)) → is_plain field ≡ true →
    ended_lines rest ≡ line ∷ lines → ended_lines (field ++ rest) ≡ (field ++ line) ∷ lines
field_ended [] rest line lines plain is = is
field_ended (c ∷ cs) rest line lines plain is =
    let each = plain_parts c cs plain in rw (each.1, field_ended cs rest line lines each.2 is) refl

-- plain fields with a line feed after them are a line of a text
fields_ended : (x : List ℕ) (xs : List (List ℕ)) (rest : List ℕ) → list_all is_plain (x ∷ xs) ≡ true →
    ended_lines (join_with_byte 44 (x ∷ xs) ++ 10 ∷ rest) ≡ (join_with_byte 44 (x ∷ xs) ++ 10 ∷ []) ∷ ended_lines rest
fields_ended x [] rest plain =
    field_ended x (10 ∷ rest) (10 ∷ []) (ended_lines rest) (and_parts (is_plain x) true plain).0 refl
fields_ended x (y ∷ ys) rest plain =
    let each = and_parts (is_plain x) (list_all is_plain (y ∷ ys)) plain in
    let more = join_with_byte 44 (y ∷ ys) in
    let after = fields_ended y ys rest each.1 in
    ap ended_lines (append_assoc x (44 ∷ more) (10 ∷ rest))
    ∙ field_ended x (44 ∷ more ++ 10 ∷ rest) (44 ∷ more ++ 10 ∷ []) (ended_lines rest) each.0 (ap (onto_first 44) after)
    ∙ ap (λ line. line ∷ ended_lines rest) (sym (append_assoc x (44 ∷ more) (10 ∷ [])))

-- so they are the first line of those of the text
pub first_line : (x : List ℕ) (xs : List (List ℕ)) (rest : List ℕ) → list_all is_plain (x ∷ xs) ≡ true →
    lines_of (text_line (x ∷ xs) ++ rest) ≡ join_with_byte 44 (x ∷ xs) ∷ lines_of rest
first_line x xs rest plain =
    ap lines_of (append_assoc (join_with_byte 44 (x ∷ xs)) (10 ∷ []) rest)
    ∙ ap (λ lines. map (strip_last 10) lines) (fields_ended x xs rest plain)
    ∙ ap (λ line. line ∷ lines_of rest) (without_lf (join_with_byte 44 (x ∷ xs)))

-- a line of plain fields is the next one, by its form
pub line_back : {A : Type 0} (form : List ℕ → Option A) (n : ℕ) (x : List ℕ) (xs : List (List ℕ)) (rest : List ℕ)
    (a : A) → list_all is_plain (x ∷ xs) ≡ true → form (join_with_byte 44 (x ∷ xs)) ≡ Some a →
    next_line form (record { number = n; lines = lines_of (text_line (x ∷ xs) ++ rest) })
    ≡ Ok (a, record { number = suc n; lines = lines_of rest })
line_back form n x xs rest a plain is = rw (first_line x xs rest plain, is) refl

-- a number in a range of at most 18 digits
pub record IsShort (least greatest z : ℤ) : Type 0 where
  pub low : neg_ℤ (pos (10 ^ 18 - 1)) ≤ℤ z
  pub high : z ≤ℤ pos (10 ^ 18 - 1)
  pub above : least ≤ℤ z
  pub below : z ≤ℤ greatest

-- is read from its field
pub number_first : (least greatest z : ℤ) (rest : List (List ℕ)) → IsShort least greatest z →
    first_number least greatest (signed_decimal z ∷ rest) ≡ Some (z, rest)
unfolding first_number read_int
number_first least greatest z rest h =
    rw (number_written z h.low h.high, le_is least z h.above, le_is z greatest h.below) refl

-- and so is a wide one
pub wide_first : (greatest n : ℕ) (rest : List (List ℕ)) → greatest < 10 ^ 38 → n ≤ greatest →
    first_wide greatest (decimal n ∷ rest) ≡ Some (n, rest)
unfolding first_wide read_wide
wide_first greatest n rest most few =
    let small : n < 10 ^ 38 = omega (arith, few, most) in
    rw (
      few_digits 38 n (omega arith) small (omega (arith, small)),
      (decimal_is_IsNumeral_wide n (omega (arith, small))).1,
      le-leb n greatest few,
    ) refl

-- a word is read from its field
pub word_first : (word : List ℕ) (rest : List (List ℕ)) → bytes_eq word word ≡ true →
    first_word word (word ∷ rest) ≡ Some (tt, rest)
unfolding first_word
word_first word rest same = rw same refl
