-- A compensation of under-reading that is inhibited is 0, and else at most that of the estimate.
use Rattle.std.proofs.Common.{◌≤◌, ℕ, Bool, true, false, subst, sym, arith}
use Rattle.std.specs.Prelude.{if◌then◌else◌}
use Rattle.sdm_num.specs.Readings.{Estimate}
use Rattle.sdm_onboard.proofs.guard.excess.Goals as goal

at_most : (inhibited : Bool) (under most : ℕ) → under ≤ most → (if inhibited then 0 else under) ≤ most
at_most true under most le = omega arith
at_most false under most le = le

pub of-build_up-requires-clause-under : goal.of-build_up-requires-clause-under
of-build_up-requires-clause-under c =
    subst (λ (under : ℕ). under ≤ 540_000) (sym c.under.ensures)
    (at_most _ c.args.reading.now.under 540_000
    (subst (λ (e : Estimate). e.under ≤ 540_000) c.estimate-estimate.ensures c.speed-v_est.ensures.range.under))
