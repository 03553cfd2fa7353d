use Rattle.sdm_ride.proofs.MotionRides.{motion_rides}
use Rattle.sdm_ride.proofs.laws.law_of_motion_rides.Goals as goal

pub returns : goal.returns
returns c = motion_rides
