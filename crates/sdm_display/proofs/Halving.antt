-- Where a limit is passed at the next speed, it is at every greater one, so the greatest speed at which it isn't is
-- where halving ends.
use Rattle.std.proofs.Common.{◌≡◌, ℕ, Bool, suc, true, false, not, ◌≤◌, arith, ap, sym, ◌∙◌}
use Rattle.std.proofs.lemmas.Bool.{true≢false, not-true}
use Rattle.sdm_num.specs.Units.{top_kmh}
use Rattle.sdm_rules.specs.Machines.{Implies}
use Rattle.sdm_rules.specs.Release.{greatest_up_to}
use Rattle.sdm_laws.proofs.Rows.CalculatedRelease.{greatest_is}

pub halved : (passed : ℕ → Bool) → ((v v' : ℕ) → v ≤ v' → v' ≤ top_kmh → Implies (passed v) (passed v')) →
    (within past : ℕ) → past ≡ suc within → within ≤ top_kmh → passed within ≡ false →
    (past ≤ top_kmh → passed past ≡ true) → within ≡ greatest_up_to top_kmh (λ kmh. not (passed kmh))
halved passed upwards within past next top fit unfit =
    sym (greatest_is top_kmh (λ kmh. not (passed kmh)) within top (ap not fit)
    (λ j above le e. absurd (true≢false (sym (upwards past j (omega arith) le (unfit (omega arith)))
    ∙ not-true _ e))))
