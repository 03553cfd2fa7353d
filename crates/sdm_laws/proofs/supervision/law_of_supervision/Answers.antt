use Rattle.sdm_laws.proofs.Rows.Headline.{supervision}
use Rattle.sdm_laws.proofs.supervision.law_of_supervision.Goals as goal

pub returns : goal.returns
returns c = supervision
