-- The law is a lemma.
use Rattle.sdm_change.proofs.KeptOver.{renewal}
use Rattle.sdm_change.proofs.laws.law_of_renewal.Goals as goal

pub returns : goal.returns
returns c = renewal
