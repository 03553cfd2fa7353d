use Rattle.sdm_run.proofs.journey_openings.opened.Goals as goal

pub returns-in-Err-clause-refused : goal.returns-in-Err-clause-refused
returns-in-Err-clause-refused c = c.outcome_of.ensures.refused c.args.bytes.now c.in-Err.ensures.refused
