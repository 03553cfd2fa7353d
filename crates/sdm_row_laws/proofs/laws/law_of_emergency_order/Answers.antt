use Rattle.sdm_row_laws.proofs.AllOrder.{emergency_order}
use Rattle.sdm_row_laws.proofs.laws.law_of_emergency_order.Goals as goal

pub returns : goal.returns
returns c = emergency_order
