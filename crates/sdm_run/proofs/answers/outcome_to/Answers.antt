-- Where no flush is due out isn't called any more.
use Rattle.std.proofs.Common.{◌∙◌}
use Rattle.sdm_run.proofs.answers.outcome_to.Goals as goal

pub returns-clause-untouched : goal.returns-clause-untouched
returns-clause-untouched g c output of none =
    let ended = c.run_command-ended.ensures.untouched output of none in
    (c.flushed.ensures.unflushed ended.0).1 ∙ ended.1
