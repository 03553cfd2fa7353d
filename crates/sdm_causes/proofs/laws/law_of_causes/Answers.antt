use Rattle.sdm_causes.proofs.Caused.{caused}
use Rattle.sdm_causes.proofs.laws.law_of_causes.Goals as goal

pub returns : goal.returns
returns c = caused
