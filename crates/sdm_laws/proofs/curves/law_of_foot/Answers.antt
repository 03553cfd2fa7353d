use Rattle.sdm_laws.proofs.BrakeCurves.CurveOrder.{at_foot}
use Rattle.sdm_laws.proofs.curves.law_of_foot.Goals as goal

pub returns : goal.returns
returns c = at_foot
