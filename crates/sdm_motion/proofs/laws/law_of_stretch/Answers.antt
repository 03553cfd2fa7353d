use Rattle.sdm_motion.proofs.OnMaps.{map_stretch}
use Rattle.sdm_motion.proofs.laws.law_of_stretch.Goals as goal

pub returns : goal.returns
returns c = map_stretch
