-- What the headline's file proves of limits.
use Rattle.sdm_laws.proofs.Rows.Headline.{limits}
use Rattle.sdm_laws.proofs.supervision.law_of_limits.Goals as goal

pub returns : goal.returns
returns c = limits
