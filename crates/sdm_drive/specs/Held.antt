-- What every drive keeps at the time of its next reading (own).
use Rattle.std.specs.Prelude.{◌≡◌, ◌⊎◌, ℕ, suc, pos, Option, Some, None, ◌+◌, ◌-◌, ◌*◌, ◌≤◌}
use Rattle.sdm_rules.specs.declared.authorities.Authority.TheVariants.{Stop}
use Rattle.sdm_rules.specs.Cells.{place_of_cell}
use Rattle.sdm_rules.specs.Opening.{IsOpen}
use Rattle.sdm_laws.specs.MotionLaws.{IsWithinCurve}
use Rattle.sdm_drive.specs.Drive.{Drive, brake_delay, brake_of, step_time}
use Rattle.sdm_drive.specs.Trains.{IsOnWay}
use Rattle.sdm_drive.specs.DriveLaws.{reach}

-- from when on the brakes of a train that moves work at the latest, in ds, by the time of the last reading within the
-- SvL and the delay of the brake: 0 where there was no such reading, since the train then stands
abbrev pub due_after : Option ℕ → ℕ → ℕ
due_after None delay = 0
due_after (Some last) delay = last + delay

-- from when on the brakes of a moving train of the drive work at the latest, in ds
abbrev pub due_of : Drive → ℕ
due_of s = due_after s.last (brake_delay s.supervision.train_and_track)

-- What the train can reach until its brakes work is within the curve of the SvL, with some acceleration, in cm/s²; it
-- stands where no reading was within the SvL yet, or where its brakes would work too late.
pub record IsHeldDrive (eoa svl : ℕ) (s : Drive) : Type 0 where
  pub is_open : IsOpen s.supervision
  pub authority : s.supervision.authority ≡ Stop eoa svl 0
  pub slow : step_time ≤ brake_delay s.supervision.train_and_track
  pub accel : ℕ
  pub held :
      IsWithinCurve (brake_of s) 1 (place_of_cell (pos svl)) 0
      (reach accel (due_of s - step_time * suc s.steps) s.train)
  pub standing : s.last ≡ None → s.train.speed ≡ 0
  pub late : (b : ℕ) → s.onset ≡ Some b → (s.train.speed ≡ 0) ⊎ (b ≤ due_of s)
  pub past : due_of s ≤ step_time * suc s.steps + brake_delay s.supervision.train_and_track

-- after `n` steps: the train is in its ranges, and no reading was later than the last step
pub record IsRanged (n : ℕ) (s : Drive) : Type 0 where
  pub on_way : IsOnWay s.train
  pub steps : s.steps ≡ n
  pub last : (time : ℕ) → s.supervision.last_time ≡ Some time → time ≤ step_time * s.steps
