use Rattle.sdm_row_laws.proofs.Service.{service_rows}
use Rattle.sdm_row_laws.proofs.laws.law_of_service_rows.Goals as goal

pub returns : goal.returns
returns c = service_rows
