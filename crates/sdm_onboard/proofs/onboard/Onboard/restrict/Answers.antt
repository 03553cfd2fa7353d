use Rattle.std.proofs.Common.{refl}
use Rattle.sdm_onboard.specs.Messages.{HasSpeed}
use Rattle.sdm_onboard.proofs.Taking.{asked_restriction}
use Rattle.sdm_onboard.proofs.onboard.Onboard.restrict.Goals as goal

pub returns-clause-takes : goal.returns-clause-takes
returns-clause-takes c =
    let speed : HasSpeed c.args.restriction =
    record { slowest = c.if-restriction-lt1.false; fastest = c.if-restriction-gt500.false } in
    asked_restriction c.args.self.now _ c.args.restriction c.restrict.result speed c.restrict.ensures.accepted
    c.restrict.ensures.taken c.restrict.ensures.refused c.restrict.ensures.unchanged refl
