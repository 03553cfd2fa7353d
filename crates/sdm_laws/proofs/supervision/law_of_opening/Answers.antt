use Rattle.sdm_laws.proofs.Openings.OneFault.{opening_decided}
use Rattle.sdm_laws.proofs.supervision.law_of_opening.Goals as goal

pub returns : goal.returns
returns c = opening_decided
