use Rattle.sdm_laws.proofs.Rows.Journeys.{turns_safe}
use Rattle.sdm_laws.proofs.supervision.law_of_journeys.Goals as goal

pub returns : goal.returns
returns g c = turns_safe
