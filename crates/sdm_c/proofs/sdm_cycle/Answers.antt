-- What the supervisor that is lent says of the reading holds of the handle's state and of C's numbers.
use Rattle.std.proofs.Common.{subst}
use Rattle.sdm_rules.specs.Supervision.{Supervision, row_of}
use Rattle.sdm_laws.specs.Falls.{MeetsFalls}
use Rattle.sdm_row_laws.specs.AllCommands.{KeepsAllOrder}
use Rattle.sdm_row_laws.specs.CoveredFalls.{MeetsEachFall}
use Rattle.sdm_row_laws.specs.ServiceStop.{CommandsNoBrake, StopsByItsEoa}
use Rattle.sdm_c.specs.Numbers.{reading_from}
use Rattle.sdm_c.proofs.CycleInC.{commands_in_c, each_fall_in_c, eoa_in_c, falls_in_c, lent_state}
use Rattle.sdm_c.proofs.Returned.{as_it_was}
use Rattle.sdm_c.proofs.sdm_cycle.Goals as goal

pub returns-in-Ok-clause-commands : goal.returns-in-Ok-clause-commands
returns-in-Ok-clause-commands c = λ done.
    let r = reading_from c.args.reading.now in
    subst (λ (s : Supervision). KeepsAllOrder s r (row_of s r))
    (lent_state c.args.h.now c.is_open.new.self c.supervisor.result.now c.is_open.ensures.unchanged
    c.supervisor.ensures.value)
    (commands_in_c c.supervisor.result.now c.in-Some.reading r c.in-Ok.judged c.in-Some.ensures.1 c.in-Ok.ensures.row
    c.in-Ok.ensures.commands)

pub returns-in-Ok-clause-eoa : goal.returns-in-Ok-clause-eoa
returns-in-Ok-clause-eoa c = λ done.
    let r = reading_from c.args.reading.now in
    subst (λ (s : Supervision). CommandsNoBrake r (row_of s r) → StopsByItsEoa s r)
    (lent_state c.args.h.now c.is_open.new.self c.supervisor.result.now c.is_open.ensures.unchanged
    c.supervisor.ensures.value)
    (eoa_in_c c.supervisor.result.now c.in-Some.reading r c.in-Ok.judged c.in-Some.ensures.1 c.in-Ok.ensures.row
    c.in-Ok.ensures.eoa)

pub returns-in-Ok-clause-falls : goal.returns-in-Ok-clause-falls
returns-in-Ok-clause-falls c = λ done covered eb.
    let r = reading_from c.args.reading.now in
    subst (λ (s : Supervision). MeetsFalls s r)
    (lent_state c.args.h.now c.is_open.new.self c.supervisor.result.now c.is_open.ensures.unchanged
    c.supervisor.ensures.value)
    (falls_in_c c.supervisor.result.now c.in-Some.reading r c.in-Ok.judged c.in-Some.ensures.1 c.row_in_c.result
    c.row_in_c.ensures c.in-Ok.ensures.falls covered eb)

pub returns-in-Ok-clause-each_fall : goal.returns-in-Ok-clause-each_fall
returns-in-Ok-clause-each_fall c = λ done covered.
    let r = reading_from c.args.reading.now in
    subst (λ (s : Supervision). MeetsEachFall s r)
    (lent_state c.args.h.now c.is_open.new.self c.supervisor.result.now c.is_open.ensures.unchanged
    c.supervisor.ensures.value)
    (each_fall_in_c c.supervisor.result.now c.in-Some.reading r c.in-Ok.judged c.in-Some.ensures.1 c.row_in_c.result
    c.row_in_c.ensures c.in-Ok.ensures.each_fall covered)

pub returns-in-Err-clause-unchanged : goal.returns-in-Err-clause-unchanged
returns-in-Err-clause-unchanged c = λ refused.
    as_it_was c.args.h.now c.is_open.new.self c.supervisor.result.now c.cycle.new.self c.is_open.ensures.unchanged
    c.supervisor.ensures.value c.in-Err.ensures.unchanged
