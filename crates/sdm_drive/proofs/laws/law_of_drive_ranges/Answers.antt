use Rattle.sdm_drive.proofs.Steps.{in_drive_ranges}
use Rattle.sdm_drive.proofs.laws.law_of_drive_ranges.Goals as goal

pub returns : goal.returns
returns c = in_drive_ranges
