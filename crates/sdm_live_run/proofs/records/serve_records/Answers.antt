-- The loop begins in the state in which nothing was told yet.
use Rattle.sdm_live_run.proofs.Composing.{served_answer, served_ask, served_prompt}
use Rattle.sdm_live_run.proofs.records.serve_records.Goals as goal

pub serve-requires : goal.serve-requires
serve-requires g c = record {
  may_ask = λ p asked.
      c.requires.may_ask p
      (served_ask _ _ c.args.supervisor c.args.given.now _ c.new-records.ensures asked);
}

pub returns-clause-prompt : goal.returns-clause-prompt
returns-clause-prompt g c =
    served_prompt _ _ c.args.supervisor c.args.given.now _ c.new-records.ensures c.serve.ensures.prompt

pub returns-clause-answer : goal.returns-clause-answer
returns-clause-answer g c =
    served_answer _ _ c.args.supervisor c.args.given.now _ c.serve.result c.new-records.ensures c.serve.ensures.answer
