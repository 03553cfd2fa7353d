use Rattle.sdm_laws.proofs.Moving.Reaction.{reaction}
use Rattle.sdm_laws.proofs.motions.law_of_reaction.Goals as goal

pub returns : goal.returns
returns c = reaction
