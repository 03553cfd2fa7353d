-- The numbers that are handed to the reading are those of the definition.
use Rattle.std.proofs.Common.{rules}
use Rattle.sdm_trial.proofs.readings.reading_by.Goals as goal

pub returns : goal.returns
returns c = search rules
