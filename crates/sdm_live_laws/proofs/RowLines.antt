-- A row is a line that begins with a digit and has no other line feed than its last byte, so it is found among answers.
use Rattle.std.proofs.Common.{◌≡◌, ◌∙◌, ℕ, ℤ, zero, suc, pos, negsuc, Bool, true, false, not, eqb, List, [], ◌∷◌, ◌++◌}
use Rattle.std.proofs.Common.{Option, Some, None, append_assoc, refl, ap, sym, arith, ◌<◌, ◌/◌, ◌%◌, length, decimal}
use Rattle.std.proofs.Common.{if◌then◌else◌}
use Rattle.std.specs.Prelude.{◌&&◌, ◌==◌, codes}
use Rattle.std.proofs.lemmas.Bool.{and_from, and_parts, false≢true, ne_eqb}
use Rattle.std.proofs.lemmas.Bool.Decides.{nat_tests}
use Rattle.std.specs.Char.{is_ascii_digit}
use Rattle.std.specs.Fmt.{digit_glyph, digits, digits_onto, signed_decimal}
use Rattle.std.specs.List.{join_with_byte, list_all, onto_first}
use Rattle.sdm_rules.specs.declared.commands.State.{State}
use Rattle.sdm_rules.specs.declared.commands.State.TheVariants.{C, T, R}
use Rattle.sdm_rules.specs.declared.commands.Status.{Status}
use Rattle.sdm_rules.specs.declared.commands.Status.TheVariants.{N, I, O, W, X}
use Rattle.sdm_rules.specs.declared.rows.Row.{Row}
use Rattle.sdm_formats.specs.Lines.{ended_lines}
use Rattle.sdm_formats.specs.Text.{fields_of, flag_text, place_text, row_text, state_text, status_text, text_line}
use Rattle.sdm_formats.specs.Text.{text_of_row}
use Rattle.sdm_live_records.specs.Live.{taken_text}
use Rattle.sdm_live_laws.specs.SameRows.{is_row_line, rows_among, rows_in}

-- ---- digits

-- the glyph of a number below ten is a digit
glyph_small : (d : ℕ) → d < 10 → is_ascii_digit (digit_glyph false d) ≡ true
glyph_small d small = grind (arith, nat_tests)

glyph_of : (n : ℕ) → is_ascii_digit (digit_glyph false (n % 10)) ≡ true
glyph_of n = glyph_small (n % 10) (omega arith)

-- what is written of a number is digits, at least one
record AreDigits (ds : List ℕ) : Type 0 where
  all : list_all is_ascii_digit ds ≡ true
  some : 0 < length ds

onto : (k n : ℕ) (c : ℕ) (cs : List ℕ) → AreDigits (c ∷ cs) → AreDigits (digits_onto k 10 false n (c ∷ cs))
onto zero n c cs h = h
onto (suc k) n c cs h = by_last (n / 10 == 0) (λ m. onto k m g (c ∷ cs) more)
  where
    g : ℕ
    g = digit_glyph false (n % 10)

    more : AreDigits (g ∷ c ∷ cs)
    more = record { all = and_from _ _ (glyph_of n) h.all; some = omega arith }

    by_last : (b : Bool) → ((m : ℕ) → AreDigits (digits_onto k 10 false m (g ∷ c ∷ cs))) →
        AreDigits (if b then g ∷ c ∷ cs else digits_onto k 10 false (n / 10) (g ∷ c ∷ cs))
    by_last true rest = more
    by_last false rest = rest (n / 10)

first_onto : (k n : ℕ) → AreDigits (digits_onto (suc k) 10 false n [])
first_onto k n = by_last (n / 10 == 0)
  where
    g : ℕ
    g = digit_glyph false (n % 10)

    one : AreDigits (g ∷ [])
    one = record { all = and_from _ _ (glyph_of n) refl; some = omega arith }

    by_last : (b : Bool) → AreDigits (if b then g ∷ [] else digits_onto k 10 false (n / 10) (g ∷ []))
    by_last true = one
    by_last false = onto k (n / 10) g [] one

decimal_digits : (n : ℕ) → AreDigits (decimal n)
unfolding digits
decimal_digits n = first_onto 63 n

-- ---- lines

-- no byte is a line feed
abbrev is_unfed : List ℕ → Bool
is_unfed field = list_all (λ c. not (c == 10)) field

no_lf : (c : ℕ) → is_ascii_digit c ≡ true → (c == 10) ≡ false
no_lf c is = ne_eqb c 10 (λ same. let digit : is_ascii_digit 10 ≡ true = rw same at is in false≢true digit)

unfed_digits : (ds : List ℕ) → list_all is_ascii_digit ds ≡ true → is_unfed ds ≡ true
unfed_digits [] all = refl
unfed_digits (c ∷ ds) all =
    let each = and_parts (is_ascii_digit c) (list_all is_ascii_digit ds) all in
    and_from _ _ (ap not (no_lf c each.0)) (unfed_digits ds each.1)

unfed_decimal : (n : ℕ) → is_unfed (decimal n) ≡ true
unfed_decimal n = unfed_digits (decimal n) (decimal_digits n).all

unfed_state : (s : State) → is_unfed (state_text s) ≡ true
unfed_state C = refl
unfed_state T = refl
unfed_state R = refl

unfed_status : (s : Status) → is_unfed (status_text s) ≡ true
unfed_status N = refl
unfed_status I = refl
unfed_status O = refl
unfed_status W = refl
unfed_status X = refl

unfed_flag : (b : Bool) → is_unfed (flag_text b) ≡ true
unfed_flag true = refl
unfed_flag false = refl

unfed_place : (z : Option ℤ) → is_unfed (place_text z) ≡ true
unfed_place None = refl
unfed_place (Some (pos n)) = unfed_decimal n
unfed_place (Some (negsuc n)) = unfed_decimal (suc n)

unfed_append : (xs ys : List ℕ) → is_unfed xs ≡ true → is_unfed ys ≡ true → is_unfed (xs ++ ys) ≡ true
unfed_append [] ys h k = k
unfed_append (x ∷ xs) ys h k =
    let each = and_parts (not (x == 10)) (is_unfed xs) h in
    and_from _ _ each.0 (unfed_append xs ys each.1 k)

-- fields with commas between them
unfed_join : (x : List ℕ) (xs : List (List ℕ)) → list_all is_unfed (x ∷ xs) ≡ true →
    is_unfed (join_with_byte 44 (x ∷ xs)) ≡ true
unfed_join x [] h = (and_parts (is_unfed x) true h).0
unfed_join x (y ∷ ys) h =
    let each = and_parts (is_unfed x) (list_all is_unfed (y ∷ ys)) h in
    unfed_append x (44 ∷ join_with_byte 44 (y ∷ ys)) each.0 (unfed_join y ys each.1)

-- the fields of a row
unfed_fields : (r : Row) → list_all is_unfed (fields_of r) ≡ true
unfed_fields r =
    and_from _ _ (unfed_decimal r.time)
    (and_from _ _ (unfed_state r.state)
    (and_from _ _ (unfed_status r.held.status)
    (and_from _ _ (unfed_flag r.held.tco)
    (and_from _ _ (unfed_flag r.held.sb)
    (and_from _ _ (unfed_flag r.held.eb)
    (and_from _ _ (unfed_flag r.covered)
    (and_from _ _ (unfed_decimal r.ceiling)
    (and_from _ _ (unfed_place r.ebi)
    (and_from _ _ (unfed_place r.sbi)
    (and_from _ _ (unfed_place r.warning)
    (and_from _ _ (unfed_place r.permitted)
    (and_from _ _ (unfed_place r.indication) refl))))))))))))

-- bytes with a line feed after them are a line of a text
untrue : (b : Bool) → not b ≡ true → b ≡ false
untrue true is = absurd (false≢true is)
untrue false is = refl

line_ended : (xs rest : List ℕ) → is_unfed xs ≡ true →
    ended_lines (xs ++ 10 ∷ rest) ≡ (xs ++ 10 ∷ []) ∷ ended_lines rest
line_ended [] rest h = refl
line_ended (x ∷ xs) rest h =
    let each = and_parts (not (x == 10)) (is_unfed xs) h in
    rw (untrue _ each.0) (ap (onto_first x) (line_ended xs rest each.1))

-- ---- rows

-- a text that begins with digits begins with a digit
begins : (ds more : List ℕ) → AreDigits ds → is_row_line (ds ++ more) ≡ true
begins [] more h = let some = h.some in absurd (omega arith)
begins (c ∷ cs) more h = (and_parts (is_ascii_digit c) (list_all is_ascii_digit cs) h.all).0

-- so does a line of fields of which the first is digits
begins_line : (x : List ℕ) (xs : List (List ℕ)) → AreDigits x →
    is_row_line (join_with_byte 44 (x ∷ xs) ++ 10 ∷ []) ≡ true
begins_line x [] h = begins x (10 ∷ []) h
begins_line x (y ∷ ys) h =
    let more = 44 ∷ join_with_byte 44 (y ∷ ys) in
    ap is_row_line (append_assoc x more (10 ∷ [])) ∙ begins x (more ++ 10 ∷ []) h

-- such a line is found, before whatever follows it
line_found : (x : List ℕ) (xs : List (List ℕ)) (rest : List ℕ) → AreDigits x → list_all is_unfed (x ∷ xs) ≡ true →
    rows_in (text_line (x ∷ xs) ++ rest) ≡ text_line (x ∷ xs) ++ rows_in rest
line_found x xs rest h plain =
    let line = join_with_byte 44 (x ∷ xs) in
    let text : (line ++ 10 ∷ []) ++ rest ≡ line ++ 10 ∷ rest = append_assoc line (10 ∷ []) rest in
    ap rows_in text
    ∙ ap rows_among (line_ended line rest (unfed_join x xs plain))
    ∙ ap (λ (b : Bool). if b then (line ++ 10 ∷ []) ++ rows_in rest else rows_in rest) (begins_line x xs h)

-- the fields of a row after its time
abbrev more_fields : Row → List (List ℕ)
more_fields r =
    state_text r.state ∷ status_text r.held.status ∷ flag_text r.held.tco ∷ flag_text r.held.sb
    ∷ flag_text r.held.eb ∷ flag_text r.covered
    ∷ decimal r.ceiling ∷ place_text r.ebi ∷ place_text r.sbi ∷ place_text r.warning ∷ place_text r.permitted
    ∷ place_text r.indication ∷ []

row_found : (r : Row) (rest : List ℕ) → rows_in (row_text r ++ rest) ≡ row_text r ++ rows_in rest
unfolding row_text
row_found r rest = line_found (decimal r.time) (more_fields r) rest (decimal_digits r.time) (unfed_fields r)

-- so is the answer to a record that is taken, where it is a row
pub taken_found : (row : Option Row) (rest : List ℕ) →
    rows_in (taken_text row ++ rest) ≡ text_of_row row ++ rows_in rest
taken_found None rest = refl
taken_found (Some r) rest = row_found r rest
