use Rattle.sdm_live_laws.proofs.TakenTurns.{live_rows}
use Rattle.sdm_live_laws.proofs.law_of_live_rows.Goals as goal

pub returns : goal.returns
returns c = live_rows
