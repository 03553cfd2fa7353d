-- The speeds so far are lowered, and the others are as they were.
use Rattle.std.proofs.Common.{◌≡◌, ◌≤◌, ◌<◌, ℕ, max, min, slice_index}
use Rattle.sdm_speed.proofs.lifts.lower_within.Given as goal

abbrev pub invariant-loop-i : goal.invariant-loop-i
invariant-loop-i l = record {
  inside : l.i ≤ max l.initial.i l.i-end;
  before : (k : ℕ) → k < l.initial.i → slice_index l.speeds k ≡ slice_index l.fn.speeds k;
  lowered : (k : ℕ) → l.initial.i ≤ k → k < l.i → slice_index l.speeds k ≡ min l.limit (slice_index l.fn.speeds k);
  behind : (k : ℕ) → l.i ≤ k → slice_index l.speeds k ≡ slice_index l.fn.speeds k;
}
