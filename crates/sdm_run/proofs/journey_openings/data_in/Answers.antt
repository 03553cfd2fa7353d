use Rattle.sdm_run.proofs.journey_openings.data_in.Goals as goal

pub returns-in-Err-clause-refused : goal.returns-in-Err-clause-refused
returns-in-Err-clause-refused c = c.outcome_of.ensures.no_data c.args.bytes.now c.in-Err.ensures.refused
