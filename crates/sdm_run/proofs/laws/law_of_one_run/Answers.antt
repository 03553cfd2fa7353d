use Rattle.sdm_run.proofs.OneRun.{one_run}
use Rattle.sdm_run.proofs.laws.law_of_one_run.Goals as goal

pub returns : goal.returns
returns g c = one_run
