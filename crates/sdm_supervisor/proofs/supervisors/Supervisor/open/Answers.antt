-- The braking is that of the data, and the first fault of its slopes is that of the opening, whatever the authority.
use Rattle.std.proofs.Common.{subst, sym}
use Rattle.std.specs.Prelude.{OnOk}
use Rattle.std.proofs.lemmas.Result.{err_from_is_err_and}
use Rattle.sdm_rules.specs.Data.{TrainAndTrack}
use Rattle.sdm_rules.specs.Opening.{IsAccepted}
use Rattle.sdm_braking.specs.Braking.{IsRefusal}
use Rattle.sdm_supervisor.proofs.supervisors.Supervisor.open.Goals as goal

pub returns-clause-accepted : goal.returns-clause-accepted
returns-clause-accepted c = subst (λ (d : TrainAndTrack). OnOk c.with_braking.result
    (IsAccepted d c.args.authority)) c.in_ok-braking.ensures.data c.with_braking.ensures.accepted

pub returns-in_err-braking-clause-refused : goal.returns-in_err-braking-clause-refused
returns-in_err-braking-clause-refused c =
    let left = err_from_is_err_and c.from_residual.result c.from_residual.ensures.1 in
    rw left.1 (subst (IsRefusal c.args.train_and_track c.args.authority)
    (sym left.2) (c.in_err-braking.ensures.refused c.args.authority))
