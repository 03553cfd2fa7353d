use Rattle.sdm_supervisor.proofs.FlatFacts.{flat_stop}
use Rattle.sdm_supervisor.proofs.flat_laws.law_of_flat_stop.Goals as goal

pub returns : goal.returns
returns c = flat_stop
