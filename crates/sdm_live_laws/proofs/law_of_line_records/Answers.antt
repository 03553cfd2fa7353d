use Rattle.sdm_live_laws.proofs.LineRecords.{line_records}
use Rattle.sdm_live_laws.proofs.law_of_line_records.Goals as goal

pub returns : goal.returns
returns c = line_records
