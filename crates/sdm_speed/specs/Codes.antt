-- How restrictions are told apart in a model (own).
use Rattle.std.specs.Prelude.{ℕ, Bool, refl}
use Rattle.std.specs.Coded.{Coded, code_by, coded×, coded_ℕ, coded_bool}
use Rattle.std.specs.Ordering.{nat_cmp}
use Rattle.std.specs.FinMap as finite
use Rattle.sdm_rules.specs.declared.restrictions.Restriction.{Restriction}

-- restrictions as tuples of numbers
abbrev pub coded_restriction : Coded Restriction
coded_restriction =
    code_by ((ℕ × ℕ) × ((ℕ × ℕ) × Bool)) (coded× (coded× coded_ℕ coded_ℕ) (coded× (coded× coded_ℕ coded_ℕ) coded_bool))
    (λ r. ((r.id, r.start), ((r.end, r.speed), r.delayed)))
    (λ p. record { id = p.0.0; start = p.0.1; end = p.1.0.0; speed = p.1.0.1; delayed = p.1.1 })
    (λ _. refl)

-- restrictions by identity as lists of such tuples of numbers
abbrev pub coded_restrictions : Coded (finite.FinMap nat_cmp Restriction)
coded_restrictions = finite.code coded_ℕ coded_restriction
