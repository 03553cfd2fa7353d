use Rattle.sdm_live_laws.proofs.SameRows.{same_rows}
use Rattle.sdm_live_laws.proofs.law_of_same_rows.Goals as goal

pub returns : goal.returns
returns c = same_rows
