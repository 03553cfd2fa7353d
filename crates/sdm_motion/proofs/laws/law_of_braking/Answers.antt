use Rattle.sdm_motion.proofs.OnMaps.{map_braking}
use Rattle.sdm_motion.proofs.laws.law_of_braking.Goals as goal

pub returns : goal.returns
returns c = map_braking
