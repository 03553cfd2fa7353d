use Rattle.sdm_laws.proofs.Moving.Stretch.{stretch}
use Rattle.sdm_laws.proofs.motions.law_of_stretch.Goals as goal

pub returns : goal.returns
returns c = stretch
