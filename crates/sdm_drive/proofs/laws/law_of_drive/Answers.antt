use Rattle.sdm_drive.proofs.Steps.{driven}
use Rattle.sdm_drive.proofs.laws.law_of_drive.Goals as goal

pub returns : goal.returns
returns c = driven
