use Rattle.sdm_row_laws.proofs.AllOrder.{all_commands}
use Rattle.sdm_row_laws.proofs.laws.law_of_all_commands.Goals as goal

pub returns : goal.returns
returns c = all_commands
