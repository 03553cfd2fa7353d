use Rattle.sdm_laws.proofs.Rows.Falls.{falls}
use Rattle.sdm_laws.proofs.supervision.law_of_falls.Goals as goal

pub returns : goal.returns
returns c = falls
