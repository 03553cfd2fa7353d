use Rattle.sdm_c.proofs.FirstOut.{reading_in}
use Rattle.sdm_c.proofs.sdm_reading_field.Goals as goal

pub returns-clause-in_range : goal.returns-clause-in_range
returns-clause-in_range c = let value = c.of_reading.ensures in rw value (reading_in c.args.reading.now)
