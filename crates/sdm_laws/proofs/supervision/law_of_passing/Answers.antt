-- What the file of passing proves of every reading.
use Rattle.sdm_laws.proofs.Rows.Passing.{passing}
use Rattle.sdm_laws.proofs.supervision.law_of_passing.Goals as goal

pub returns : goal.returns
returns c = passing
