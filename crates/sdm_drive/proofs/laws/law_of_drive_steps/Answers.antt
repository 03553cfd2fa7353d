use Rattle.sdm_drive.proofs.Journeys.{steps_promised}
use Rattle.sdm_drive.proofs.laws.law_of_drive_steps.Goals as goal

pub returns : goal.returns
returns c = steps_promised
