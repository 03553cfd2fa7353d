use Rattle.sdm_laws.proofs.BrakeCurves.CurveScales.{exact_scaled}
use Rattle.sdm_laws.proofs.curves.law_of_scale.Goals as goal

pub returns : goal.returns
returns c = exact_scaled
