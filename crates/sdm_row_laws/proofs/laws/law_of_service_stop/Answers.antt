use Rattle.sdm_row_laws.proofs.Service.{service_stop}
use Rattle.sdm_row_laws.proofs.laws.law_of_service_stop.Goals as goal

pub returns : goal.returns
returns c = service_stop
