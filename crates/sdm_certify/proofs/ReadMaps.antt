-- What was read of a map is as its lines have it: each number is within the range of its field, and the upper speeds
-- rise.
use Rattle.std.proofs.Common.{◌≡◌, ℕ, zero, suc, ℤ, pos, Bool, true, false, List, [], ◌∷◌, ◌++◌, Option, Some, None}
use Rattle.std.proofs.Common.{Ok, Err, ◌-◌, ◌<◌, ◌≤◌, ◌≤ℤ◌, get_or, length, append_assoc, int_le, nat_le, unsigned_abs}
use Rattle.std.proofs.Common.{refl, sym, ap, subst, arith}
use Rattle.std.specs.Prelude.{codes, if◌then◌else◌, ◌&&◌}
use Rattle.std.proofs.lemmas.Int.{ints}
use Rattle.std.proofs.lemmas.Bool.{leb-true}
use Rattle.std.proofs.lemmas.List.{append-nil}
use Rattle.sdm_num.proofs.Comparisons.{le_of}
use Rattle.sdm_rules.specs.declared.faults.FieldFault.TheVariants.{OutOfRange}
use Rattle.sdm_formats.specs.Lines.{comma_fields}
use Rattle.sdm_formats.specs.Numbers.{in_range, number_of, read_int}
use Rattle.sdm_certify.specs.declared.forms.Head.{Head}
use Rattle.sdm_certify.specs.Fields.{and_then, first_number, first_word, is_end, rising_after, whole_line, with_rest}
use Rattle.sdm_certify.specs.Lines.{LinesLeft, Read, and_on, head_of, in_form, line_in, next_line, uppers_in, uppers_of}

-- ---- what holds of what is read

-- it holds of what a line is read as
abbrev pub IfForm : {A : Type 0} → (A → Type 0) → Option A → Type 0
IfForm P None = Unit {0}
IfForm P (Some a) = P a

-- it holds of what the first fields are read as
abbrev pub IfField : {A : Type 0} → (A → Type 0) → Option (A × List (List ℕ)) → Type 0
IfField P o = IfForm (λ read. P read.0) o

-- it holds of what the next lines are read as
abbrev pub IfRead : {A : Type 0} → (A → Type 0) → Read A → Type 0
IfRead P (Err n) = Unit {0}
IfRead P (Ok (a, at)) = P a

-- the word of a line, and then its fields
pub then_fields : {B : Type 0} (Q : B → Type 0) (o : Option (Unit {0} × List (List ℕ)))
    (next : Unit {0} → List (List ℕ) → Option B) → ((fields : List (List ℕ)) → IfForm Q (next tt fields)) →
    IfForm Q (and_then o next)
then_fields Q None next more = tt
then_fields Q (Some (w, fields)) next more = more fields

-- fields, and then the rest of a line
pub then_form : {A B : Type 0} (P : A → Type 0) (Q : B → Type 0) (o : Option (A × List (List ℕ)))
    (next : A → List (List ℕ) → Option B) → IfField P o → ((a : A) (fields : List (List ℕ)) → P a →
    IfForm Q (next a fields)) → IfForm Q (and_then o next)
then_form P Q None next h more = tt
then_form P Q (Some (a, fields)) next h more = more a fields h

-- the whole of a line
pub whole : {A : Type 0} (P : A → Type 0) (a : A) (fields : List (List ℕ)) → P a → IfForm P (whole_line a fields)
whole P a fields h = by_end (is_end fields)
  where
    by_end : (b : Bool) → IfForm P (if b then Some a else None)
    by_end true = h
    by_end false = tt

-- lines, and then further lines
pub then_read : {A B : Type 0} (P : A → Type 0) (Q : B → Type 0) (r : Read A) (next : A → LinesLeft → Read B) →
    IfRead P r → ((a : A) (at : LinesLeft) → P a → IfRead Q (next a at)) → IfRead Q (and_on r next)
then_read P Q (Err n) next h more = tt
then_read P Q (Ok (a, at)) next h more = more a at h

-- the next line
pub line_read : {A : Type 0} (P : A → Type 0) (form : List ℕ → Option A) (at : LinesLeft) →
    ((line : List ℕ) → IfForm P (form line)) → IfRead P (next_line form at)
line_read P form at h = of_lines at.number at.lines
  where
    of_form : (number : ℕ) (lines : List (List ℕ)) (o : Option _) → IfForm P o → IfRead P (in_form number lines o)
    of_form number lines None g = tt
    of_form number lines (Some a) g = g

    of_lines : (number : ℕ) (lines : List (List ℕ)) → IfRead P (line_in form number lines)
    of_lines number [] = tt
    of_lines number (line ∷ lines) = of_form number lines (form line) (h line)

-- ---- numbers

-- the number is in a range
pub record IsFrom (least greatest n : ℤ) : Type 0 where
  pub low : least ≤ℤ n
  pub high : n ≤ℤ greatest

-- a number that was read is in the range of its field
pub number_read : (least greatest : ℤ) (fields : List (List ℕ)) →
    IfField (IsFrom least greatest) (first_number least greatest fields)
unfolding first_number read_int
number_read least greatest [] = tt
number_read least greatest (field ∷ fields) = of_number (number_of field)
  where
    by_tests : (n : ℤ) (a b : Bool) → int_le least n ≡ a → int_le n greatest ≡ b →
        IfField (IsFrom least greatest) (with_rest (if a && b then Ok n else Err OutOfRange) fields)
    by_tests n true true low high = record { low = le_of _ _ low; high = le_of _ _ high }
    by_tests n true false low high = tt
    by_tests n false b low high = tt

    of_number : (o : Option ℤ) → IfField (IsFrom least greatest) (with_rest (in_range least greatest o) fields)
    of_number None = tt
    of_number (Some n) = by_tests n (int_le least n) (int_le n greatest) refl refl

-- ---- the first line

-- the head is in the ranges of its line
pub record IsHead (h : Head) : Type 0 where
  pub low_q : 100 ≤ h.q
  pub high_q : h.q ≤ 11_730
  pub some_bands : 1 ≤ h.bands
  pub few_bands : h.bands ≤ 10
  pub some_segments : 1 ≤ h.segments

-- the absolute value of a number in a range of natural numbers is in that range
natural_from : (a b : ℕ) (n : ℤ) → IsFrom (pos a) (pos b) n → (a ≤ unsigned_abs n) × (unsigned_abs n ≤ b)
natural_from a b n h = (omega (arith, ints, h.low), omega (arith, ints, h.low, h.high))

-- the first line of a map
pub head_read : (line : List ℕ) → IfForm IsHead (head_of line)
unfolding head_of
head_read line =
    then_fields IsHead (first_word (codes "map") (comma_fields line)) _ (λ fields.
    then_form (IsFrom (pos 100) (pos 11_730)) IsHead (first_number (pos 100) (pos 11_730) fields) _
    (number_read _ _ fields) (λ q fields q_from.
    then_form (IsFrom (pos 1) (pos 10)) IsHead (first_number (pos 1) (pos 10) fields) _
    (number_read _ _ fields) (λ bands fields bands_from.
    then_form (IsFrom (pos 1) (pos 2_000)) IsHead (first_number (pos 1) (pos 2_000) fields) _
    (number_read _ _ fields) (λ segments fields segments_from.
    let q_is = natural_from 100 11_730 q q_from in
    let bands_are = natural_from 1 10 bands bands_from in
    let segments_are = natural_from 1 2_000 segments segments_from in
    whole IsHead _ fields (record {
      low_q = q_is.0;
      high_q = q_is.1;
      some_bands = bands_are.0;
      few_bands = bands_are.1;
      some_segments = segments_are.0;
    })))))

-- ---- upper speeds

-- numbers that rise, from `least` to `greatest`
abbrev pub AreRising : ℕ → ℕ → List ℕ → Type 0
AreRising least greatest [] = Unit {0}
AreRising least greatest (n ∷ ns) = (least ≤ n) × (n ≤ greatest) × AreRising (suc n) greatest ns

-- are at least the least of them
at_least : (least greatest : ℕ) (ns : List ℕ) → AreRising least greatest ns → (i : ℕ) → i < length ns →
    least ≤ get_or ns i 0
at_least least greatest [] h i known = absurd (omega (arith, known))
at_least least greatest (n ∷ ns) h zero known = h.0
at_least least greatest (n ∷ ns) h (suc i) known =
    omega (arith, h.0, at_least (suc n) greatest ns h.2 i (omega (arith, known)))

-- and each is less than those after it
less : (least greatest : ℕ) (ns : List ℕ) → AreRising least greatest ns → (i j : ℕ) → i < j → j < length ns →
    get_or ns i 0 < get_or ns j 0
less least greatest [] h i j lt known = absurd (omega (arith, known))
less least greatest (n ∷ ns) h i zero lt known = absurd (omega (arith, lt))
less least greatest (n ∷ ns) h zero (suc j) lt known = at_least (suc n) greatest ns h.2 j (omega (arith, known))
less least greatest (n ∷ ns) h (suc i) (suc j) lt known =
    less (suc n) greatest ns h.2 i j (omega (arith, lt)) (omega (arith, known))

-- what holds of so many numbers that rise, after others, holds of what is read
rising_read : (P : List ℕ → Type 0) (done : List ℕ) (count least greatest : ℕ) →
    ((ns : List ℕ) → length ns ≡ count → AreRising least greatest ns → P (done ++ ns)) → (fields : List (List ℕ)) →
    IfField P (rising_after done count least greatest fields)
rising_read P done zero least greatest h fields = subst P (append-nil done) (h [] refl tt)
rising_read P done (suc count) least greatest h fields =
    then_form (IsFrom (pos least) (pos greatest)) (λ read. P read.0) (first_number (pos least) (pos greatest) fields) _
    (number_read _ _ fields) (λ n after from.
    let k = unsigned_abs n in
    let is = natural_from least greatest n from in
    rising_read P (done ++ k ∷ []) count (suc k) greatest (λ ns long rise.
    subst P (sym (append_assoc done (k ∷ []) ns)) (h (k ∷ ns) (ap suc long) (is.0, is.1, rise))) after)

-- so many upper speeds, which may be those of a map
pub record AreUppersOf (count : ℕ) (uppers : List ℕ) : Type 0 where
  pub count_is : length uppers ≡ count
  pub positive : (i : ℕ) → i < length uppers → 0 < get_or uppers i 0
  pub rise : (i j : ℕ) → i < j → j < length uppers → get_or uppers i 0 < get_or uppers j 0

-- the line of upper speeds
uppers_line : (count : ℕ) (line : List ℕ) → IfForm (AreUppersOf count) (uppers_of count line)
unfolding uppers_of
uppers_line count line =
    then_fields (AreUppersOf count) (first_word (codes "uppers") (comma_fields line)) _ (λ fields.
    then_form (AreUppersOf count) (AreUppersOf count) (rising_after [] count 1 20_000_000 fields) _
    (rising_read (AreUppersOf count) [] count 1 20_000_000 (λ ns long rise. record {
      count_is = long;
      positive = at_least 1 20_000_000 ns rise;
      rise = less 1 20_000_000 ns rise;
    }) fields)
    (λ uppers fields are. whole (AreUppersOf count) uppers fields are))

-- the upper speeds of so many bands
pub uppers_read : (bands : ℕ) (at : LinesLeft) → 1 ≤ bands → IfRead (AreUppersOf (bands - 1)) (uppers_in bands at)
uppers_read bands at some = by_count (nat_le bands 1) refl
  where
    by_count : (b : Bool) → nat_le bands 1 ≡ b →
        IfRead (AreUppersOf (bands - 1)) (if b then Ok ([], at) else next_line (uppers_of (bands - 1)) at)
    by_count true is = record {
      count_is = (let one = leb-true _ _ is in omega (arith, one));
      positive = λ i lt. absurd (omega (arith, lt));
      rise = λ i j lt known. absurd (omega (arith, known));
    }
    by_count false is = line_read (AreUppersOf (bands - 1)) (uppers_of (bands - 1)) at (uppers_line (bands - 1))
