-- A reading that isn't told of to its end was taken as it is defined.
use Rattle.std.proofs.Common.{refl, arith, rules}
use Rattle.csv.specs.Records.{fields_of}
use Rattle.sdm_rules.specs.declared.records.Event.TheVariants.{Read}
use Rattle.sdm_rules.specs.Records.{step}
use Rattle.sdm_run.proofs.RunTexts.{taken_cut}
use Rattle.sdm_run.proofs.journey_records.take_record.Goals as goal

pub returns-in-Err-clause-taken : goal.returns-in-Err-clause-taken
unfolding step
returns-in-Err-clause-taken g c =
    let reading = c.in-Read.reading in
    taken_cut c.args.supervisor.now c.args.number (fields_of c.args.fields.now) (Read reading) (omega arith)
    (search rules) reading refl c.cycle.new.self (rw (c.in-Ok.ensures.in_time, c.in-Ok.ensures.taken) refl)
    c.in-Ok.row c.in-Ok.ensures.row c.args.teller c.in-Err.ended _ _ c.in-Err.ensures.told
