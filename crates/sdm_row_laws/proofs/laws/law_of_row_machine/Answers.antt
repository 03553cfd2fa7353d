use Rattle.sdm_row_laws.proofs.AllOrder.{row_machine}
use Rattle.sdm_row_laws.proofs.laws.law_of_row_machine.Goals as goal

pub returns : goal.returns
returns c = row_machine
