use Rattle.sdm_laws.proofs.BrakeCurves.CurveOrder.{exact_positive}
use Rattle.sdm_laws.proofs.curves.law_of_fractions.Goals as goal

pub returns : goal.returns
returns c = exact_positive
