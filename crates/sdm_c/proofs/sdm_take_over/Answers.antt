-- Both supervisors come back as they were lent, but for the next one where it took over.
use Rattle.std.proofs.Common.{refl}
use Rattle.sdm_c.proofs.Returned.{as_it_was}
use Rattle.sdm_c.proofs.sdm_take_over.Goals as goal

pub returns-clause-unchanged : goal.returns-clause-unchanged
returns-clause-unchanged c = λ refused.
    as_it_was c.args.next.now c.is_open.new.self c.supervisor.result.now c.take_over.new.next
    c.is_open.ensures.unchanged c.supervisor.ensures.value (c.take_over.ensures.unchanged refused)

pub returns-clause-before : goal.returns-clause-before
returns-clause-before c =
    as_it_was c.args.before.now c.is_open-2.new.self c.supervisor-2.result.now c.supervisor-2.result.now
    c.is_open-2.ensures.unchanged c.supervisor-2.ensures.value refl
