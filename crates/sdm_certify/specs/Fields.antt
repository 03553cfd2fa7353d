-- Fields of a line, read one after the other (own). Each reader returns the value of the first field together with the
-- fields after it, or nothing if the first field hasn't the form that it expects.
use Rattle.std.specs.Prelude.{ℕ, zero, suc, ℤ, pos, neg_ℤ, Bool, true, false, List, [], ◌∷◌, ◌++◌, Option, Some}
use Rattle.std.specs.Prelude.{None, Result}
use Rattle.std.specs.Prelude.{Ok, Err, ◌^◌, unsigned_abs, if◌then◌else◌}
use Rattle.std.specs.Str.{bytes_eq}
use Rattle.sdm_rules.specs.declared.faults.FieldFault.{FieldFault}
use Rattle.sdm_formats.specs.Numbers.{read_int, read_wide}

-- what was read, and then what is read of the fields after it
abbrev pub and_then : {A B : Type 0} → Option (A × List (List ℕ)) → (A → List (List ℕ) → Option B) → Option B
and_then None next = None
and_then (Some (a, fields)) next = next a fields

-- what was read of a field, with the fields after it
abbrev pub with_rest : {A : Type 0} → Result A FieldFault → List (List ℕ) → Option (A × List (List ℕ))
with_rest (Err fault) fields = None
with_rest (Ok a) fields = Some (a, fields)

-- the first field is this word
unfoldable pub first_word : List ℕ → List (List ℕ) → Option (Unit {0} × List (List ℕ))
first_word word [] = None
first_word word (field ∷ fields) = if bytes_eq field word then Some (tt, fields) else None

-- the first field is a number from `least` to `greatest`
unfoldable pub first_number : ℤ → ℤ → List (List ℕ) → Option (ℤ × List (List ℕ))
first_number least greatest [] = None
first_number least greatest (field ∷ fields) = with_rest (read_int field least greatest) fields

-- the first field is a wide number up to `greatest`
unfoldable pub first_wide : ℕ → List (List ℕ) → Option (ℕ × List (List ℕ))
first_wide greatest [] = None
first_wide greatest (field ∷ fields) = with_rest (read_wide field greatest) fields

-- the first fields are so many slopes, each within 10^15 of 0; `done` are the slopes before them
abbrev pub slopes_after : List ℤ → ℕ → List (List ℕ) → Option (List ℤ × List (List ℕ))
slopes_after done zero fields = Some (done, fields)
slopes_after done (suc count) fields =
    and_then (first_number (neg_ℤ (pos (10 ^ 15))) (pos (10 ^ 15)) fields) (λ n fields.
    slopes_after (done ++ n ∷ []) count fields)

-- the first fields are so many numbers that rise, from `least` to `greatest`; `done` are the numbers before them
abbrev pub rising_after : List ℕ → ℕ → ℕ → ℕ → List (List ℕ) → Option (List ℕ × List (List ℕ))
rising_after done zero least greatest fields = Some (done, fields)
rising_after done (suc count) least greatest fields =
    and_then (first_number (pos least) (pos greatest) fields) (λ n fields.
    rising_after (done ++ unsigned_abs n ∷ []) count (suc (unsigned_abs n)) greatest fields)

-- no field is left
unfoldable pub is_end : List (List ℕ) → Bool
is_end [] = true
is_end (field ∷ fields) = false

-- what was read, where it is the whole line
abbrev pub whole_line : {A : Type 0} → A → List (List ℕ) → Option A
whole_line a fields = if is_end fields then Some a else None
