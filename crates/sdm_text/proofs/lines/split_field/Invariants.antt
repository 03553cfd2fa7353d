-- So far no byte is a comma.
use Rattle.std.proofs.Common.{◌≡◌, ℕ, ◌<◌, false, eqb, get_or}
use Rattle.sdm_text.proofs.lines.split_field.Given as goal

abbrev pub invariant-loop-at : goal.invariant-loop-at
invariant-loop-at l = (k : ℕ) → k < l.at → eqb (get_or l.line k 0) 44 ≡ false
