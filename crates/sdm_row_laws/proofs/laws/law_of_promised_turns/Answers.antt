use Rattle.sdm_row_laws.proofs.OpenTurns.{promised_turns}
use Rattle.sdm_row_laws.proofs.laws.law_of_promised_turns.Goals as goal

pub returns : goal.returns
returns g c = promised_turns
