-- So far the speeds of the fields before are read and lie below the least of the next, and the rest of them is in the
-- fields that are left.
use Rattle.std.proofs.Common.{◌≡◌, ℕ, ◌-◌, ◌<◌, ◌≤◌, [], length, All, get_or}
use Rattle.sdm_certify.specs.Fields.{rising_after}
use Rattle.sdm_certify.proofs.fields.Fields.speeds.Given as goal

abbrev pub invariant-loop-i : goal.invariant-loop-i
invariant-loop-i l = record {
  left : rising_after [] l.count 1 20_000_000 l.fn.self
      ≡ rising_after l.speeds.items (l.count - l.i) l.least 20_000_000 l.self;
  range : All (λ v. v ≤ 20_000_000) l.speeds.items;
  count : length l.speeds.items ≡ l.i;
  some : 1 ≤ l.least;
  last : l.least ≤ 20_000_001;
  positive : (k : ℕ) → k < length l.speeds.items → 0 < get_or l.speeds.items k 0;
  below : (k : ℕ) → k < length l.speeds.items → get_or l.speeds.items k 0 < l.least;
  rise : (j k : ℕ) → j < k → k < length l.speeds.items → get_or l.speeds.items j 0 < get_or l.speeds.items k 0;
}
