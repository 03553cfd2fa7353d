-- Under a limit of authority no reading is within an SvL.
use Rattle.std.proofs.Common.{ap, sym, ◌∙◌}
use Rattle.sdm_rules.specs.Supervision.{Supervision}
use Rattle.sdm_supervisor.proofs.WithinLaws.{never_within}
use Rattle.sdm_supervisor.proofs.supervisors.Supervisor.claim.Goals as goal

pub returns-in-Limit : goal.returns-in-Limit
returns-in-Limit c = never_within c.args.self.now c.args.reading.now _ _
    (ap (λ (s : Supervision). s.authority) (sym c.self.view_is) ∙ c.in-Limit.is)
