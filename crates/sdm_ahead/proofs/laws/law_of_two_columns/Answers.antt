-- The law is a lemma.
use Rattle.sdm_ahead.proofs.TwoColumns.{two_columns}
use Rattle.sdm_ahead.proofs.laws.law_of_two_columns.Goals as goal

pub returns : goal.returns
returns c = two_columns
