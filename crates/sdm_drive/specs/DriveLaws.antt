-- The laws of the drive, as statements over its definitions alone (own).
use Rattle.std.specs.Prelude.{◌≡◌, ℕ, suc, ℤ, pos, All, List, None, ◌+◌, ◌*◌, ◌<◌, ◌≤◌, ◌+ℤ◌, ◌≤ℤ◌, unsigned_abs}
use Rattle.sdm_num.specs.Readings.{IsReading}
use Rattle.sdm_num.specs.Bounds.{mm_below}
use Rattle.sdm_rules.specs.declared.authorities.Authority.TheVariants.{Stop}
use Rattle.sdm_rules.specs.declared.motions.Phase.TheVariants.{Build}
use Rattle.sdm_rules.specs.declared.motions.Point.{Point}
use Rattle.sdm_rules.specs.Cells.{place_of_cell}
use Rattle.sdm_rules.specs.Slopes.{Slopes, IsUsable}
use Rattle.sdm_rules.specs.Motion.{IsSlice}
use Rattle.sdm_rules.specs.Data.{TrainAndTrack}
use Rattle.sdm_rules.specs.Supervision.{opening}
use Rattle.sdm_rules.specs.Records.{time_fault}
use Rattle.sdm_rules.specs.Opening.{IsOpen}
use Rattle.sdm_laws.specs.MotionLaws.{IsWithinCurve}
use Rattle.sdm_drive.specs.declared.rows.DriveRow.{DriveRow}
use Rattle.sdm_drive.specs.Drive.{Drive, TrueTrain, after_braking, after_steps, drive_rows, drive_start}
use Rattle.sdm_drive.specs.Drive.{greatest_driven, least_ahead, next_reading, step_time}

-- ---- one ds

-- where the train is, with the square of its speed
abbrev pub point_of : TrueTrain → Point
point_of t = record { place = t.place; square = t.speed * t.speed }

-- Of one ds of braking: a train within a curve is within it after the ds.
abbrev pub LawOfBrakedDs : Type 0
LawOfBrakedDs =
    (on : Slopes) (f : ℤ) (w : ℕ) (t : TrueTrain) → IsUsable on → IsWithinCurve on 1 f w (point_of t) →
    IsWithinCurve on 1 f w (point_of (after_braking on t))

-- how far the train comes, and how fast it gets, at most in `h` ds with the acceleration `a`, in cm/s²
abbrev pub reach : ℕ → ℕ → TrueTrain → Point
reach a h t =
    let speed = t.speed + 54 * a * h in
    record { place = t.place +ℤ pos (1_000_000 * (t.speed * h + 27 * a * (h * h))); square = speed * speed }

-- a ds that takes the train from `t` to `t'` is a slice of a motion with the acceleration `a`, in cm/s²
pub record IsSliceOf (a : ℕ) (t t' : TrueTrain) : Type 0 where
  pub length : ℕ
  pub moved : t'.place ≡ t.place +ℤ pos length
  pub slice : IsSlice a t.speed (record { phase = Build; time = 1; length = length; to = t'.speed })

-- Of one ds before the brakes work, a slice of a motion: what the train can reach after it, it could reach before, so
-- within a curve it stays.
abbrev pub LawOfReactionDs : Type 0
LawOfReactionDs =
    (on : Slopes) (f : ℤ) (w a h : ℕ) (t t' : TrueTrain) → IsUsable on → IsSliceOf a t t' →
    IsWithinCurve on 1 f w (reach a (suc h) t) → IsWithinCurve on 1 f w (reach a h t')

-- ---- the drive

-- a stop without a release speed, under which a train may be driven: the data are accepted, and the emergency brake
-- takes at least the time of a step to build up
pub record IsDrivable (d : TrainAndTrack) (eoa svl : ℕ) : Type 0 where
  pub is_open : IsOpen (opening d (Stop eoa svl 0))
  pub build_up : step_time ≤ unsigned_abs d.train.emergency_time

-- the start of a drive under the stop, from a seed
abbrev pub start_under : TrainAndTrack → ℕ → ℕ → ℕ → Drive
start_under d eoa svl seed = drive_start d (Stop eoa svl 0) seed

-- THE DRIVE: from every seed and after every number of steps the true front end is at or before the SvL.
abbrev pub LawOfDrive : Type 0
LawOfDrive =
    (d : TrainAndTrack) (eoa svl seed n : ℕ) → IsDrivable d eoa svl →
    (after_steps n (start_under d eoa svl seed)).train.place ≤ℤ place_of_cell (pos svl)

-- the most steps of a drive
abbrev pub most_steps : ℕ
most_steps = 100_000

-- the ranges of a drive before its next step: the true front end lies between 0 and the SvL, the true speed is at most
-- the greatest, the next reading is in its ranges, and its time is not before that of the reading before it
pub record IsInRanges (svl : ℕ) (s : Drive) : Type 0 where
  pub from_start : pos 0 ≤ℤ s.train.place
  pub by_svl : s.train.place ≤ℤ place_of_cell (pos svl)
  pub speed : s.train.speed ≤ greatest_driven
  pub reading : IsReading (next_reading s)
  pub in_time : time_fault s.supervision.last_time (next_reading s).time ≡ None

-- On a track of at most 100 km every drive is in its ranges before each of its steps.
abbrev pub LawOfDriveRanges : Type 0
LawOfDriveRanges =
    (d : TrainAndTrack) (eoa svl seed n : ℕ) → IsDrivable d eoa svl → svl ≤ 10_000_000 → n < most_steps →
    IsInRanges svl (after_steps n (start_under d eoa svl seed))

-- no row has its front end past the SvL, and how far the SvL was at least ahead is not negative
pub record AreBySvl (svl : ℕ) (rows : List DriveRow) : Type 0 where
  pub fronts : All (λ r. r.front ≤ℤ place_of_cell (pos svl)) rows
  pub least : pos 0 ≤ℤ mm_below (least_ahead svl rows)

-- This holds for the rows of every drive.
abbrev pub LawOfDriveRows : Type 0
LawOfDriveRows =
    (d : TrainAndTrack) (eoa svl seed n : ℕ) → IsDrivable d eoa svl →
    AreBySvl svl (drive_rows n (start_under d eoa svl seed))
