use Rattle.sdm_laws.proofs.BrakeCurves.CurveOrder.{exact_before}
use Rattle.sdm_laws.proofs.curves.law_of_order.Goals as goal

pub returns : goal.returns
returns c = exact_before
