-- The target is the SvL, and the estimate that of the reading.
use Rattle.std.proofs.Common.{◌∙◌}
use Rattle.sdm_supervisor.proofs.WithinLaws.{before_svl}
use Rattle.sdm_supervisor.proofs.supervisors.within.is_before_svl.Goals as goal

pub returns : goal.returns
returns c cm kept =
    before_svl c.args.braking.now c.args.reading.now _ _ cm _ _ c.is_before_ebi.ensures c.max_mm.ensures
    (c.asked-asked.ensures.estimate ∙ c.estimate.ensures) kept.at
