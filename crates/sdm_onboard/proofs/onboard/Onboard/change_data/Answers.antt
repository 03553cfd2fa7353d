-- New data change the supervisor, or order both brakes.
use Rattle.std.proofs.Common.{refl}
use Rattle.sdm_onboard.proofs.Taking.{refused_data, taken_data}
use Rattle.sdm_onboard.proofs.onboard.Onboard.change_data.Goals as goal

pub returns-in-Ok-take_over-clause-follows : goal.returns-in-Ok-take_over-clause-follows
returns-in-Ok-take_over-clause-follows c =
    taken_data c.args.self.now _ c.args.opened c.in-Ok.next c.in-Ok.is c.in-Ok-take_over.ensures.accepted
    c.in-Ok-take_over.ensures.taken refl

pub returns-in-Err-take_over-clause-follows : goal.returns-in-Err-take_over-clause-follows
returns-in-Err-take_over-clause-follows c =
    let now = c.miss_authority-in-Err-take_over.ensures in
    refused_data c.args.self.now c.miss_authority-in-Err-take_over.new.self c.args.opened c.in-Ok.next
    c.in-Err-take_over.fault c.in-Ok.is c.in-Err-take_over.ensures.refused now.supervisor now.braked.emergency now.braked.service
