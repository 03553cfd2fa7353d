-- A map without identities is empty.
use Rattle.std.proofs.Common.{◌≡◌, subst, arith}
use Rattle.std.specs.FinMap as finite
use Rattle.sdm_rules.specs.Supervision.{Supervision}
use Rattle.sdm_supervisor.proofs.supervisors.Supervisor.is_fresh.Goals as goal

pub returns-then-restrictions-eq0-clause-unrestricted : goal.returns-then-restrictions-eq0-clause-unrestricted
returns-then-restrictions-eq0-clause-unrestricted c fresh =
    subst (λ (s : Supervision). s.restrictions ≡ finite.empty) c.self.view_is
    (finite.empty_of_len c.self.inside.profile.restrictions
    (omega (arith, c.held_count-restrictions.ensures, c.if-restrictions-eq0.true)))
