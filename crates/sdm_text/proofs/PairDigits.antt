-- The table has each pair of digits at twice its number: all hundred entries are looked at.
use Rattle.std.proofs.Common.{◌≡◌, ℕ, zero, suc, ◌+◌, ◌-◌, ◌*◌, ◌/◌, ◌%◌, ◌<◌, Bool, true, ◌&&◌, eqb, get_or}
use Rattle.std.proofs.Common.{eq-zero-or-pos, inl, inr, refl, arith}
use Rattle.std.proofs.lemmas.Bool.{and_parts, eqb-true}
use Rattle.sdm_text.specs.declared.digits.TheConstants.{PAIRS}

-- the entry of a number below 100 is its two digits
abbrev is_entry : ℕ → Bool
is_entry p = eqb (get_or PAIRS (2 * p) 0) (48 + p / 10) && eqb (get_or PAIRS (2 * p + 1) 0) (48 + p % 10)

-- so is each entry below that of n
abbrev are_entries : ℕ → Bool
are_entries zero = true
are_entries (suc p) = is_entry p && are_entries p

-- so each of them is
entry_below : (n p : ℕ) → are_entries n ≡ true → p < n → is_entry p ≡ true
entry_below zero p all lt = absurd (omega (arith, lt))
entry_below (suc n) p all lt =
    let parts = and_parts (is_entry n) (are_entries n) all in
    elim (eq-zero-or-pos (n - p)) [
      | inl none ↦ let same : p ≡ n = omega arith in rw same parts.0
      | inr some ↦ entry_below n p parts.1 (omega arith)
    ]

-- the entry of p in the table
pub pair_at : (p : ℕ) → p < 100 → (get_or PAIRS (2 * p) 0 ≡ 48 + p / 10) × (get_or PAIRS (2 * p + 1) 0 ≡ 48 + p % 10)
pair_at p lt =
    let parts = and_parts _ _ (entry_below 100 p refl lt) in
    (eqb-true _ _ parts.0, eqb-true _ _ parts.1)
