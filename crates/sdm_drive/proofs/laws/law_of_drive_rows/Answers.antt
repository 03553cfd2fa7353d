use Rattle.sdm_drive.proofs.Ahead.{rows_by_svl}
use Rattle.sdm_drive.proofs.laws.law_of_drive_rows.Goals as goal

pub returns : goal.returns
returns c = rows_by_svl
