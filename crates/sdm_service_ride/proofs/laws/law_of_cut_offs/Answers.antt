use Rattle.sdm_service_ride.proofs.Drivers.{cut_offs}
use Rattle.sdm_service_ride.proofs.laws.law_of_cut_offs.Goals as goal

pub returns : goal.returns
returns c = cut_offs
