use Rattle.sdm_laws.proofs.BrakeCurves.Slack.{rounding}
use Rattle.sdm_laws.proofs.curves.law_of_rounding.Goals as goal

pub returns : goal.returns
returns c = rounding
