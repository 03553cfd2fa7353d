use Rattle.sdm_onboard.proofs.LateReadings.{late_readings}
use Rattle.sdm_onboard.proofs.laws.law_of_late_readings.Goals as goal

pub returns : goal.returns
returns c = late_readings
