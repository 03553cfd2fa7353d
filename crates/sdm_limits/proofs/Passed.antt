-- A front end is past a limit where it is past the grain at which the limit lies.
use Rattle.std.proofs.Common.{◌≡◌, ℤ, pos, ◌+ℤ◌, ◌*ℤ◌, ◌≤ℤ◌, ◌<ℤ◌, Bool, true, false, sym, ◌∙◌, refl}
use Rattle.std.specs.Prelude.{IsTrue, ◌↔◌}
use Rattle.std.proofs.Common.{arith}
use Rattle.std.proofs.lemmas.Bool.{false≢true}
use Rattle.std.proofs.lemmas.Int.{by_lt_z, ints}
use Rattle.sdm_num.specs.Fractions.{Fraction, whole}
use Rattle.sdm_num.proofs.Comparisons.{lt_is, not_lt_is}
use Rattle.sdm_rules.specs.Triggers.{is_past}

-- whether a front end is past a limit, by a test of both
pub past_of : {b : Bool} {at front x : ℤ} {limit : Fraction} → (IsTrue b ↔ (at <ℤ front)) → front ≡ x →
    whole at ≡ limit → b ≡ is_past 0 x limit
past_of {b} {at} {front} is of behind = test b is ∙ (λ k. is_past 0 (of k) (behind k))
  where
    test : (b : Bool) → (IsTrue b ↔ (at <ℤ front)) → b ≡ is_past 0 front (whole at)
    test true is = sym (lt_is at (pos 1 *ℤ (front +ℤ pos 0)) (omega (arith, ints, is.0 refl)))
    test false is =
        by_lt_z at front
        (λ (l : at <ℤ front). absurd (false≢true (is.1 l)))
        (λ (le : front ≤ℤ at). sym (not_lt_is at (pos 1 *ℤ (front +ℤ pos 0)) (omega (arith, ints))))
