use Rattle.sdm_motion.proofs.OnMaps.{map_motion}
use Rattle.sdm_motion.proofs.laws.law_of_motion.Goals as goal

pub returns : goal.returns
returns c = map_motion
