-- A record of a form is short: a kind and at most seven numbers, none of which has a byte that ends a line.
use Rattle.std.proofs.Common.{◌≡◌, ◌≤◌, ◌==◌, ◌&&◌, if◌then◌else◌, ℕ, ℤ, Bool, true, false, List, [], ◌∷◌, length, refl}
use Rattle.std.proofs.Common.{subst, arith, inl, inr, Result, Ok, Err, IfOk, Option, Some, None, nat_le, codes, leb-true}
use Rattle.std.specs.Prelude.{⊤}
use Rattle.std.specs.Char.{is_ascii_digit}
use Rattle.std.specs.List.{AllByRecursion, list_all}
use Rattle.std.specs.Str.{bytes_eq}
use Rattle.std.proofs.lemmas.Bool.{cases_Bool, eqb-true, false≢true}
use Rattle.std.proofs.lemmas.Slice.Eq.{bytes_eq-Decides}
use Rattle.sdm_rules.specs.declared.records.Event.{Event}
use Rattle.sdm_rules.specs.declared.faults.EventFault.{EventFault}
use Rattle.sdm_rules.specs.declared.faults.FieldFault.TheVariants.{OutOfRange}
use Rattle.sdm_formats.specs.Forms.{column, end_form, endcalc_form, event_of, limit_form, read_form, restrict_form}
use Rattle.sdm_formats.specs.Forms.{revoke_form, with_number}
use Rattle.sdm_formats.specs.Numbers.{in_range, is_digits, number_of, read_int}
use Rattle.sdm_live.specs.Progress.{ends_line}
use Rattle.sdm_live_laws.proofs.Scan.{Fields}

-- no byte ends a line
abbrev pub IsUnbroken : List ℕ → Type 0
IsUnbroken bytes = AllByRecursion (λ c. ends_line c ≡ false) bytes

abbrev pub AreUnbroken : Fields → Type 0
AreUnbroken fields = AllByRecursion IsUnbroken fields

-- a number has at most 18 digits and a sign
abbrev pub IsShort : List ℕ → Type 0
IsShort bytes = length bytes ≤ 19

-- what is written so is short, and none of its bytes ends a line
pub record AreWritten (fields : Fields) : Type 0 where
  pub count : length fields ≤ 8
  pub short : AllByRecursion IsShort fields
  pub unbroken : AreUnbroken fields

-- ---- numbers

both_true : (a b : Bool) → (a && b) ≡ true → (a ≡ true) × (b ≡ true)
both_true true b h = (refl, h)
both_true false b h = absurd (false≢true h)

digit_unbroken : (c : ℕ) → is_ascii_digit c ≡ true → ends_line c ≡ false
digit_unbroken c digit = elim (cases_Bool (c == 10)) [
  | inl feed ↦ absurd (false≢true (subst (λ (x : ℕ). is_ascii_digit x ≡ true) (eqb-true c 10 feed) digit))
  | inr not_feed ↦ elim (cases_Bool (c == 13)) [
    | inl cr ↦ absurd (false≢true (subst (λ (x : ℕ). is_ascii_digit x ≡ true) (eqb-true c 13 cr) digit))
    | inr not_cr ↦ rw (not_feed, not_cr) refl
  ]
]

digits_unbroken : (ds : List ℕ) → list_all is_ascii_digit ds ≡ true → IsUnbroken ds
digits_unbroken [] h = tt
digits_unbroken (c ∷ cs) h =
    let both = both_true (is_ascii_digit c) (list_all is_ascii_digit cs) h in
    (digit_unbroken c both.0, digits_unbroken cs both.1)

abbrev IsNumber : List ℕ → Type 0
IsNumber field = IsShort field × IsUnbroken field

abbrev AreDigits : List ℕ → Type 0
AreDigits ds = (length ds ≤ 18) × IsUnbroken ds

digits_short : (ds : List ℕ) → is_digits ds ≡ true → AreDigits ds
digits_short ds h =
    let both = both_true (nat_le 1 (length ds) && nat_le (length ds) 18) (list_all is_ascii_digit ds) h in
    let sizes = both_true (nat_le 1 (length ds)) (nat_le (length ds) 18) both.0 in
    (leb-true (length ds) 18 sizes.1, digits_unbroken ds both.1)

-- an option that has a value only where this holds
abbrev SomeOnly : Type 0 → Option ℤ → Type 0
SomeOnly P None = ⊤
SomeOnly P (Some n) = P

some_if : (P : Type 0) (b : Bool) (n : ℤ) → (b ≡ true → P) → SomeOnly P (if b then Some n else None)
some_if P true n h = h refl
some_if P false n h = tt

either_sign : (P : Type 0) (b : Bool) (x y : Option ℤ) → (b ≡ true → SomeOnly P x) → SomeOnly P y →
    SomeOnly P (if b then x else y)
either_sign P true x y g h = g refl
either_sign P false x y g h = h

number_written : (field : List ℕ) → SomeOnly (IsNumber field) (number_of field)
number_written [] = tt
number_written (c ∷ ds) =
    either_sign (IsNumber (c ∷ ds)) (c == 45) _ _
    (λ sign. some_if (IsNumber (c ∷ ds)) (is_digits ds) _ (λ digits.
    let d = digits_short ds digits in
    (omega (arith, d.0), (rw (eqb-true c 45 sign) refl, d.1))))
    (some_if (IsNumber (c ∷ ds)) (is_digits (c ∷ ds)) _ (λ digits.
    let d = digits_short (c ∷ ds) digits in
    (omega (arith, d.0), d.1)))

-- ---- columns

-- where it gives an event, this holds
abbrev GivesOnly : Type 0 → Result Event EventFault → Type 0
GivesOnly P r = IfOk r (λ e. P)

gives_in_range : (P Q : Type 0) (n : ℕ) (least greatest : ℤ) (number : Option ℤ) (rest : ℤ → Result Event EventFault) →
    SomeOnly P number → (P → (v : ℤ) → GivesOnly Q (rest v)) →
    GivesOnly Q (with_number n (in_range least greatest number) rest)
gives_in_range P Q n least greatest None rest h g = tt
gives_in_range P Q n least greatest (Some v) rest h g = gives_ranged _
  where
    gives_ranged : (b : Bool) → GivesOnly Q (with_number n (if b then Ok v else Err OutOfRange) rest)
    gives_ranged true = g h v
    gives_ranged false = tt

col : (Q : Type 0) (n : ℕ) (field : List ℕ) (least greatest : ℤ) (rest : ℤ → Result Event EventFault) →
    (IsNumber field → (v : ℤ) → GivesOnly Q (rest v)) → GivesOnly Q (column n field least greatest rest)
unfolding read_int
col Q n field least greatest rest h =
    gives_in_range (IsNumber field) Q n least greatest (number_of field) rest (number_written field) h

-- ---- the forms

pub record AreNumbers (fields : Fields) : Type 0 where
  pub count : length fields ≤ 7
  pub each : AllByRecursion IsNumber fields

read_numbers : (fields : Fields) → GivesOnly (AreNumbers fields) (read_form fields)
unfolding read_form
read_numbers [] = tt
read_numbers (x1 ∷ []) = tt
read_numbers (x1 ∷ x2 ∷ []) = tt
read_numbers (x1 ∷ x2 ∷ x3 ∷ []) = tt
read_numbers (x1 ∷ x2 ∷ x3 ∷ x4 ∷ []) = tt
read_numbers (x1 ∷ x2 ∷ x3 ∷ x4 ∷ x5 ∷ []) = tt
read_numbers (x1 ∷ x2 ∷ x3 ∷ x4 ∷ x5 ∷ x6 ∷ []) = tt
read_numbers (x1 ∷ x2 ∷ x3 ∷ x4 ∷ x5 ∷ x6 ∷ x7 ∷ []) =
    col _ 2 x1 _ _ _ (λ w1 v.
    col _ 3 x2 _ _ _ (λ w2 v.
    col _ 4 x3 _ _ _ (λ w3 v.
    col _ 5 x4 _ _ _ (λ w4 v.
    col _ 6 x5 _ _ _ (λ w5 v.
    col _ 7 x6 _ _ _ (λ w6 v.
    col _ 8 x7 _ _ _ (λ w7 v.
    record { count = omega arith; each = (w1, (w2, (w3, (w4, (w5, (w6, (w7, tt))))))) })))))))
read_numbers (x1 ∷ x2 ∷ x3 ∷ x4 ∷ x5 ∷ x6 ∷ x7 ∷ x8 ∷ xs) = tt

end_numbers : (fields : Fields) → GivesOnly (AreNumbers fields) (end_form fields)
unfolding end_form
end_numbers [] = tt
end_numbers (x1 ∷ []) = tt
end_numbers (x1 ∷ x2 ∷ []) = tt
end_numbers (x1 ∷ x2 ∷ x3 ∷ []) =
    col _ 2 x1 _ _ _ (λ w1 v.
    col _ 3 x2 _ _ _ (λ w2 v.
    col _ 4 x3 _ _ _ (λ w3 v.
    record { count = omega arith; each = (w1, (w2, (w3, tt))) })))
end_numbers (x1 ∷ x2 ∷ x3 ∷ x4 ∷ xs) = tt

endcalc_numbers : (fields : Fields) → GivesOnly (AreNumbers fields) (endcalc_form fields)
unfolding endcalc_form
endcalc_numbers [] = tt
endcalc_numbers (x1 ∷ []) = tt
endcalc_numbers (x1 ∷ x2 ∷ []) = tt
endcalc_numbers (x1 ∷ x2 ∷ x3 ∷ []) =
    col _ 2 x1 _ _ _ (λ w1 v.
    col _ 3 x2 _ _ _ (λ w2 v.
    col _ 4 x3 _ _ _ (λ w3 v.
    record { count = omega arith; each = (w1, (w2, (w3, tt))) })))
endcalc_numbers (x1 ∷ x2 ∷ x3 ∷ x4 ∷ xs) = tt

limit_numbers : (fields : Fields) → GivesOnly (AreNumbers fields) (limit_form fields)
unfolding limit_form
limit_numbers [] = tt
limit_numbers (x1 ∷ []) = tt
limit_numbers (x1 ∷ x2 ∷ []) =
    col _ 2 x1 _ _ _ (λ w1 v.
    col _ 3 x2 _ _ _ (λ w2 v.
    record { count = omega arith; each = (w1, (w2, tt)) }))
limit_numbers (x1 ∷ x2 ∷ x3 ∷ xs) = tt

restrict_numbers : (fields : Fields) → GivesOnly (AreNumbers fields) (restrict_form fields)
unfolding restrict_form
restrict_numbers [] = tt
restrict_numbers (x1 ∷ []) = tt
restrict_numbers (x1 ∷ x2 ∷ []) = tt
restrict_numbers (x1 ∷ x2 ∷ x3 ∷ []) = tt
restrict_numbers (x1 ∷ x2 ∷ x3 ∷ x4 ∷ []) = tt
restrict_numbers (x1 ∷ x2 ∷ x3 ∷ x4 ∷ x5 ∷ []) =
    col _ 2 x1 _ _ _ (λ w1 v.
    col _ 3 x2 _ _ _ (λ w2 v.
    col _ 4 x3 _ _ _ (λ w3 v.
    col _ 5 x4 _ _ _ (λ w4 v.
    col _ 6 x5 _ _ _ (λ w5 v.
    record { count = omega arith; each = (w1, (w2, (w3, (w4, (w5, tt))))) })))))
restrict_numbers (x1 ∷ x2 ∷ x3 ∷ x4 ∷ x5 ∷ x6 ∷ xs) = tt

revoke_numbers : (fields : Fields) → GivesOnly (AreNumbers fields) (revoke_form fields)
unfolding revoke_form
revoke_numbers [] = tt
revoke_numbers (x1 ∷ []) = col _ 2 x1 _ _ _ (λ w1 v. record { count = omega arith; each = (w1, tt) })
revoke_numbers (x1 ∷ x2 ∷ xs) = tt

-- ---- the kind

each_short : (fields : Fields) → AllByRecursion IsNumber fields → AllByRecursion IsShort fields
each_short [] h = tt
each_short (x ∷ xs) h = (h.0.0, each_short xs h.1)

each_unbroken : (fields : Fields) → AllByRecursion IsNumber fields → AreUnbroken fields
each_unbroken [] h = tt
each_unbroken (x ∷ xs) h = (h.0.1, each_unbroken xs h.1)

-- a kind before numbers
with_kind : (kind : List ℕ) (fields : Fields) → IsNumber kind → AreNumbers fields → AreWritten (kind ∷ fields)
with_kind kind fields k numbers =
    let count = numbers.count in
    record {
      count = omega (arith, count);
      short = (k.0, each_short fields numbers.each);
      unbroken = (k.1, each_unbroken fields numbers.each);
    }

gives_map : {P Q : Type 0} (r : Result Event EventFault) → (P → Q) → GivesOnly P r → GivesOnly Q r
gives_map (Ok e) f p = f p
gives_map (Err fault) f p = tt

-- a record of the kind that a word names, or of another kind
of_kind : (kind word : List ℕ) (fields : Fields) (form other : Result Event EventFault) → IsNumber word →
    GivesOnly (AreNumbers fields) form → GivesOnly (AreWritten (kind ∷ fields)) other →
    GivesOnly (AreWritten (kind ∷ fields)) (if bytes_eq kind word then form else other)
of_kind kind word fields form other w numbers h = by_test (bytes_eq kind word) refl
  where
    by_test : (b : Bool) → bytes_eq kind word ≡ b →
        GivesOnly (AreWritten (kind ∷ fields)) (if b then form else other)
    by_test true is =
        let named : IsNumber kind = rw ((bytes_eq-Decides kind word).0 is) w in
        gives_map form (with_kind kind fields named) numbers
    by_test false is = h

event_written : (fields : Fields) → GivesOnly (AreWritten fields) (event_of fields)
unfolding event_of
event_written [] = tt
event_written (kind ∷ fields) =
    of_kind kind (codes "read") fields _ _ (omega arith, (refl, (refl, (refl, (refl, tt))))) (read_numbers fields)
    (of_kind kind (codes "end") fields _ _ (omega arith, (refl, (refl, (refl, tt)))) (end_numbers fields)
    (of_kind kind (codes "endcalc") fields _ _
    (omega arith, (refl, (refl, (refl, (refl, (refl, (refl, (refl, tt)))))))) (endcalc_numbers fields)
    (of_kind kind (codes "limit") fields _ _ (omega arith, (refl, (refl, (refl, (refl, (refl, tt))))))
    (limit_numbers fields)
    (of_kind kind (codes "restrict") fields _ _
    (omega arith, (refl, (refl, (refl, (refl, (refl, (refl, (refl, (refl, tt))))))))) (restrict_numbers fields)
    (of_kind kind (codes "revoke") fields _ _ (omega arith, (refl, (refl, (refl, (refl, (refl, (refl, tt)))))))
    (revoke_numbers fields) tt)))))

-- a record that has a form
pub written : (fields : Fields) (e : Event) → event_of fields ≡ Ok e → AreWritten fields
written fields e is = subst (λ (r : Result Event EventFault). GivesOnly (AreWritten fields) r) is (event_written fields)
