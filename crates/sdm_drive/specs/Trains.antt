-- What the true train of a drive keeps (own).
use Rattle.std.specs.Prelude.{pos, ◌≤◌, ◌≤ℤ◌}
use Rattle.sdm_drive.specs.Drive.{TrueTrain, greatest_driven}

-- it is at or past the start, and not too fast
pub record IsOnWay (t : TrueTrain) : Type 0 where
  pub place : pos 0 ≤ℤ t.place
  pub speed : t.speed ≤ greatest_driven
