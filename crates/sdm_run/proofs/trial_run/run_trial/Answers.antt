-- What was written is the summary of the rows of all cycles.
use Rattle.std.proofs.Common.{◌∙◌}
use Rattle.sdm_rules.specs.Records.{rows_of}
use Rattle.sdm_formats.specs.Trial.{trial_journey}
use Rattle.sdm_run.specs.Shapes.{trial_shape}
use Rattle.sdm_run.proofs.TrialRuns.{trial_written}
use Rattle.sdm_run.proofs.trial_run.run_trial.Goals as goal

pub returns-clause-answer : goal.returns-clause-answer
returns-clause-answer g c =
    let rows = rows_of (trial_journey c.args.seed c.args.cycles).turns in
    trial_written c.args.seed c.args.cycles _ _ _ _ c.requires
    (c.bytes.ensures.value ∙ c.put.ensures rows c.summary_of.ensures) c.written.ensures.answer

pub returns-clause-possible : goal.returns-clause-possible
returns-clause-possible g c = c.written.ensures.possible trial_shape

pub returns-clause-untouched : goal.returns-clause-untouched
returns-clause-untouched g c none =
    let rows = rows_of (trial_journey c.args.seed c.args.cycles).turns in
    c.written.ensures.untouched (c.bytes.ensures.value ∙ c.put.ensures rows c.summary_of.ensures ∙ none)
