use Rattle.sdm_motion.proofs.OnMaps.{map_reaction}
use Rattle.sdm_motion.proofs.laws.law_of_reaction.Goals as goal

pub returns : goal.returns
returns c = map_reaction
