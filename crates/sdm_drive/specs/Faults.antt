-- Which data may be driven, and why others may not (own).
use Rattle.std.specs.Prelude.{◌≡◌, ℕ, pos, ◌<◌, ◌≤◌, unsigned_abs, ⊤}
use Rattle.sdm_rules.specs.declared.authorities.Authority.{Authority}
use Rattle.sdm_rules.specs.declared.authorities.Authority.TheVariants.{Stop, Limit}
use Rattle.sdm_rules.specs.declared.faults.OpenFault.TheVariants as open_faults
use Rattle.sdm_rules.specs.Data.{TrainAndTrack}
use Rattle.sdm_rules.specs.Opening.{IsAccepted, IsOpenFault}
use Rattle.sdm_drive.specs.declared.faults.DriveFault.{DriveFault}
use Rattle.sdm_drive.specs.declared.faults.DriveFault.TheVariants.{NoStop, HasRelease, ShortBuild, Open, Memory}
use Rattle.sdm_drive.specs.Drive.{step_time}
use Rattle.sdm_drive.specs.DriveLaws.{IsDrivable}

-- the data may be driven under the authority: the opening accepts both, the authority is a stop without a release
-- speed, and the emergency brake takes at least the time of a step to build up
pub record MayBeDriven (d : TrainAndTrack) (a : Authority) : Type 0 where
  pub eoa : ℕ
  pub svl : ℕ
  pub stop : a ≡ Stop eoa svl 0
  pub accepted : IsAccepted d a
  pub drivable : IsDrivable d eoa svl

-- the authority is a stop without a release speed
abbrev pub IsPlainStop : Authority → Type 0
IsPlainStop a = (eoa : ℕ) × (svl : ℕ) × (a ≡ Stop eoa svl 0)

-- the emergency brake takes at least the time of a step to build up
abbrev pub HasBuildUp : TrainAndTrack → Type 0
HasBuildUp d = step_time ≤ unsigned_abs d.train.emergency_time

-- why data are not driven, by the first cause; memory may be refused at any time
abbrev pub IsDriveRefusal : TrainAndTrack → Authority → DriveFault → Type 0
IsDriveRefusal d a NoStop = (loa : ℕ) × (speed : ℕ) × (a ≡ Limit loa speed)
IsDriveRefusal d a (HasRelease release) = (eoa : ℕ) × (svl : ℕ) × (a ≡ Stop eoa svl release) × (0 < release)
IsDriveRefusal d a (ShortBuild time) = IsPlainStop a × (pos time ≡ d.train.emergency_time) × (time < step_time)
IsDriveRefusal d a (Open fault) =
    IsPlainStop a × HasBuildUp d × IsOpenFault d a fault × (fault ≡ open_faults.Memory → ⊥)
IsDriveRefusal d a Memory = ⊤
