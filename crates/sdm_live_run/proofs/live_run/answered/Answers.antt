-- The data part, and then the records after it.
use Rattle.std.proofs.Common.{sym, subst}
use Rattle.sdm_report.specs.declared.outcome.Outcome.{Outcome}
use Rattle.sdm_live.specs.Exchanges.{Along}
use Rattle.sdm_live_run.specs.Live.{IsLiveEnd}
use Rattle.sdm_live_run.proofs.Composing.{answered_along, end_along, ended_along, prompt_along, rest_is, waiting_along}
use Rattle.sdm_live_run.proofs.Composing.{waiting_prompt_along}
use Rattle.sdm_live_run.proofs.live_run.answered.Goals as goal

pub read_data-requires-clause-may_ask : goal.read_data-requires-clause-may_ask
read_data-requires-clause-may_ask g c p asked = c.requires.may_ask p (waiting_along _ _ asked)

pub returns-in-Err-clause-prompt : goal.returns-in-Err-clause-prompt
returns-in-Err-clause-prompt g c = waiting_prompt_along _ _ c.read_data.ensures.prompt

pub returns-then-division-clause-prompt : goal.returns-then-division-clause-prompt
returns-then-division-clause-prompt g c = waiting_prompt_along _ _ c.read_data.ensures.prompt

pub returns-then-division-clause-answer : goal.returns-then-division-clause-answer
returns-then-division-clause-answer g c =
    end_along c.read_data.new.bytes.items c.in-Ok.data.0 c.in-Ok.data.1 c.in-Ok.ensures.opened _ _ c.if-division.true
    c.in-Ok.ensures.gathered

pub serve_records-ended-requires : goal.serve_records-ended-requires
serve_records-ended-requires g c =
    let bytes = c.read_data.new.bytes.items in
    let division = c.in-Ok.data.1 in
    record {
      may_ask = λ p asked. c.requires.may_ask p
          (answered_along bytes c.in-Ok.data.0 division c.in-Ok.ensures.opened c.if-division.false _
          (rest_is c.deref.result.now bytes division.records_start c.deref.ensures.value) _ _ _
          c.in-Ok.ensures.gathered asked);
    }

pub returns-clause-prompt : goal.returns-clause-prompt
returns-clause-prompt g c =
    let bytes = c.read_data.new.bytes.items in
    let division = c.in-Ok.data.1 in
    prompt_along bytes c.in-Ok.data.0 division c.in-Ok.ensures.opened c.if-division.false _
    (rest_is c.deref.result.now bytes division.records_start c.deref.ensures.value) _ _ _
    c.in-Ok.ensures.gathered c.serve_records-ended.ensures.prompt

pub returns-clause-answer : goal.returns-clause-answer
returns-clause-answer g c =
    let bytes = c.read_data.new.bytes.items in
    let division = c.in-Ok.data.1 in
    let A : Outcome → Type 0 = λ o.
    Along (g.P.Peer.history c.args.peer.now) (g.P.Peer.history c.serve_records-ended.new.peer)
    (λ h k. IsLiveEnd h o k) in
    subst A (sym c.outcome_of.ensures)
    (ended_along bytes c.in-Ok.data.0 division c.in-Ok.ensures.opened c.if-division.false _
    (rest_is c.deref.result.now bytes division.records_start c.deref.ensures.value) _ _ _ c.serve_records-ended.result
    c.in-Ok.ensures.gathered c.serve_records-ended.ensures.answer)
