-- The first line of a text reaches to its first LF, or to the end of a text that has none; a field ends at the first
-- comma.
use Rattle.std.proofs.Common.{◌≡◌, ℕ, zero, suc, ◌+◌, ◌<◌, Bool, true, false, eqb, eqb-true, List, [], ◌∷◌, Some, None}
use Rattle.std.proofs.Common.{length, get_or, take, drop, add-one, arith, refl}
use Rattle.std.proofs.lemmas.Grind.{get_or_default_zero}
use Rattle.std.proofs.lemmas.List.Splits.{slice_split_first, slice_split_none}
use Rattle.std.proofs.lemmas.List.Sums.{position_or_len_is}
use Rattle.std.specs.List.{position_or_len}
use Rattle.sdm_formats.specs.Lines.{comma_fields, ended_lines}
use Rattle.memchr.specs.Find.{IsFirstByte, is_byte}

not_true : (b : Bool) → (b ≡ true → ⊥) → b ≡ false
not_true true is = absurd (is refl)
not_true false is = refl

-- the first line of a text with an LF is the text up to it, and the others are those of the rest
line_up_to : (text : List ℕ) (at : ℕ) → at < length text → get_or text at 0 ≡ 10 →
    ((k : ℕ) → k < at → eqb (get_or text k 0) 10 ≡ false) →
    ended_lines text ≡ take (suc at) text ∷ ended_lines (drop (suc at) text)
line_up_to [] at within is none = absurd (omega arith)
line_up_to (c ∷ cs) zero within is none = rw is
line_up_to (c ∷ cs) (suc at) within is none =
    let other = none 0 (omega arith) in
    let rest = line_up_to cs at (omega arith) is (λ k lt. none (suc k) (omega arith)) in
    rw (other, rest)

-- a text with no LF is one line
one_line : (text : List ℕ) → 0 < length text → ((k : ℕ) → k < length text → eqb (get_or text k 0) 10 ≡ false) →
    ended_lines text ≡ text ∷ []
one_line [] some none = absurd (omega arith)
one_line (c ∷ []) some none =
    let other = none 0 (omega arith) in rw other
one_line (c ∷ d ∷ cs) some none =
    let other = none 0 (omega arith) in
    let rest = one_line (d ∷ cs) (omega arith) (λ k lt. none (suc k) (omega arith)) in
    rw (other, rest)

-- the first LF was found
pub found_line : (text : List ℕ) (at : ℕ) → IsFirstByte (is_byte 10) text (Some at) →
    ended_lines text ≡ take (at + 1) text ∷ ended_lines (drop (at + 1) text)
found_line text at found = rw add-one
    (line_up_to text at found.0.high (eqb-true _ _ found.1) (λ k lt. not_true _ (found.0.before k (omega arith) lt)))

-- none was found
pub whole_line : (text : List ℕ) → 0 < length text → IsFirstByte (is_byte 10) text None → ended_lines text ≡ text ∷ []
whole_line text some none = one_line text some (λ k lt. not_true _ (none k (omega arith) lt))

-- the first comma was found
pub found_field : (line : List ℕ) (at : ℕ) → at < length line → get_or line at 0 ≡ 44 →
    ((k : ℕ) → k < at → eqb (get_or line k 0) 44 ≡ false) →
    comma_fields line ≡ take at line ∷ comma_fields (drop (at + 1) line)
found_field line at within is none =
    let here : position_or_len (λ c. eqb c 44) line
    ≡ at = position_or_len_is (λ c. eqb c 44) line at 0 (omega arith) none (λ _. rw is refl) in
    rw here at (slice_split_first (λ c. eqb c 44) line 0 (rw here within))

-- none was found
pub one_field : (line : List ℕ) → ((k : ℕ) → k < length line → eqb (get_or line k 0) 44 ≡ false) →
    comma_fields line ≡ line ∷ []
one_field line none = slice_split_none (λ c. eqb c 44) line (λ k d lt. rw (get_or_default_zero line k d lt) (none k lt))
