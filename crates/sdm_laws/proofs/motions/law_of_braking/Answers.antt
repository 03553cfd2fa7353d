use Rattle.sdm_laws.proofs.Moving.Braking.{braking}
use Rattle.sdm_laws.proofs.motions.law_of_braking.Goals as goal

pub returns : goal.returns
returns c = braking
