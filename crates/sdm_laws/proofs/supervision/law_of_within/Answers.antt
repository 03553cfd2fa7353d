-- What the file of readings within the SvL proves of each.
use Rattle.sdm_laws.proofs.Rows.WithinSvl.{within_stops}
use Rattle.sdm_laws.proofs.supervision.law_of_within.Goals as goal

pub returns : goal.returns
returns c = within_stops
