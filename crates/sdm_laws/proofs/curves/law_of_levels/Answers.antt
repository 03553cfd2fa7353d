use Rattle.sdm_laws.proofs.BrakeCurves.CurveLevels.{levels_kept}
use Rattle.sdm_laws.proofs.curves.law_of_levels.Goals as goal

pub returns : goal.returns
returns c = levels_kept
