use Rattle.sdm_c.proofs.CallJourneys.{call_rows}
use Rattle.sdm_c.proofs.laws.law_of_call_rows.Goals as goal

pub returns : goal.returns
returns c = call_rows
