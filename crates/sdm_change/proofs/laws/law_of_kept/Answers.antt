-- The law is a lemma.
use Rattle.sdm_change.proofs.KeptOver.{kept}
use Rattle.sdm_change.proofs.laws.law_of_kept.Goals as goal

pub returns : goal.returns
returns c = kept
