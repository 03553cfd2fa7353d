-- So far the bytes are digits, the number is theirs, and pairs are left.
use Rattle.std.proofs.Common.{◌≡◌, ◌+◌, ◌-◌, ◌*◌, ◌≤◌, ℕ, length}
use Rattle.sdm_text.proofs.NumberDigits.{IsRead}
use Rattle.sdm_text.proofs.numbers.magnitude.Given as goal

abbrev pub invariant-loop-at : goal.invariant-loop-at
invariant-loop-at l = record {
  within : l.at ≤ length l.digits;
  pairs : (pairs : ℕ) × (length l.digits ≡ l.at + 2 * pairs);
  read : IsRead l.digits l.at l.number;
}

-- each turn takes a pair
abbrev pub decreases-loop-at : goal.decreases-loop-at
decreases-loop-at l = length l.digits - l.at
