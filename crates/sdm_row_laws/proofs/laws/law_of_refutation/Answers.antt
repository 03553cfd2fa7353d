use Rattle.sdm_row_laws.proofs.ExactLimits.{refutation}
use Rattle.sdm_row_laws.proofs.laws.law_of_refutation.Goals as goal

pub returns : goal.returns
returns c = refutation
