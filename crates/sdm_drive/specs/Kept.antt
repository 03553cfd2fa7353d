-- What a drive keeps from step to step (own).
use Rattle.std.specs.Prelude.{ℕ, ◌≤◌}
use Rattle.sdm_rules.specs.Ranges.{longest_track}
use Rattle.sdm_drive.specs.Drive.{Drive}
use Rattle.sdm_drive.specs.DriveLaws.{most_steps}
use Rattle.sdm_drive.specs.Held.{IsHeldDrive, IsRanged}

-- its stop lies on a track of at most 100 km, its train is held by the SvL and in its ranges, and not too many steps
-- were made
pub record IsKeptDrive (s : Drive) : Type 0 where
  pub eoa : ℕ
  pub svl : ℕ
  pub on_track : svl ≤ longest_track
  pub held : IsHeldDrive eoa svl s
  pub ranged : IsRanged s.steps s
  pub few : s.steps ≤ most_steps
