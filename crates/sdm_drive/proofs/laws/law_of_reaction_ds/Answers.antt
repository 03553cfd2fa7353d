use Rattle.sdm_drive.proofs.Sliced.{sliced}
use Rattle.sdm_drive.proofs.laws.law_of_reaction_ds.Goals as goal

pub returns : goal.returns
returns c = sliced
