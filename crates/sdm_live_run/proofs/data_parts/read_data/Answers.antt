-- What ends the program before a record: what `gather` says of it, or the data that are refused.
use Rattle.std.proofs.Common.{sym, subst}
use Rattle.std.proofs.lemmas.Result.{err_from_is_err_and}
use Rattle.sdm_report.specs.declared.outcome.Outcome.{Outcome}
use Rattle.sdm_live.specs.Exchanges.{Along}
use Rattle.sdm_live_run.specs.Live.{IsLiveEnd}
use Rattle.sdm_live_run.proofs.Composing.{gather_end_along, refused_along}
use Rattle.sdm_live_run.proofs.data_parts.read_data.Goals as goal

pub returns-in_err-division-clause-end : goal.returns-in_err-division-clause-end
returns-in_err-division-clause-end g c =
    let left = err_from_is_err_and c.from_residual.result c.from_residual.ensures.1 in
    let A : Outcome → Type 0 = λ o.
    Along (g.P.Peer.history c.args.peer.now) (g.P.Peer.history c.gather.new.peer) (λ h k. IsLiveEnd h o k) in
    rw left.1 (subst A (sym left.2) (gather_end_along _ _ _ c.in_err-division.ensures.end))

pub returns-in_err-supervisor-clause-end : goal.returns-in_err-supervisor-clause-end
returns-in_err-supervisor-clause-end g c =
    let left = err_from_is_err_and c.from_residual-in_err-supervisor.result
    c.from_residual-in_err-supervisor.ensures.1 in
    let A : Outcome → Type 0 = λ o.
    Along (g.P.Peer.history c.args.peer.now) (g.P.Peer.history c.gather.new.peer) (λ h k. IsLiveEnd h o k) in
    rw left.1 (subst A (sym left.2) (refused_along _ _ c.gather.new.bytes.items c.deref.result.now
    c.in_ok-division.division _ c.in_ok-division.ensures.divided c.deref.ensures.value
    c.in_err-supervisor.ensures.refused c.in_ok-division.ensures.gathered))
