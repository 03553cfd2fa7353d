use Rattle.std.proofs.Common.{refl}
use Rattle.sdm_c.proofs.Returned.{as_it_was}
use Rattle.sdm_c.proofs.sdm_clear_of.Goals as goal

pub returns-clause-unchanged : goal.returns-clause-unchanged
returns-clause-unchanged c =
    as_it_was c.args.h.now c.is_open.new.self c.supervisor.result.now c.supervisor.result.now
    c.is_open.ensures.unchanged c.supervisor.ensures.value refl
