-- The journey of a drive: its readings as records. So its rows promise what those of every journey do, and each of its
-- readings is true of the train that it reads (own).
use Rattle.std.specs.Prelude.{◌≡◌, ℕ, zero, suc, List, [], ◌∷◌, All, map, ◌≤◌, ◌≤ℤ◌}
use Rattle.sdm_num.specs.Readings.{OdometerReading, estimate_of}
use Rattle.sdm_rules.specs.Data.{TrainAndTrack}
use Rattle.sdm_rules.specs.Reaction.{v_est_delta0}
use Rattle.sdm_rules.specs.Records.{Journey, journey_from, rows_of}
use Rattle.sdm_formats.specs.Trial.{reading_record}
use Rattle.sdm_row_laws.specs.OpenTurns.{AreTurnsPromised}
use Rattle.sdm_drive.specs.Drive.{Drive, TrueTrain, after_step, drive_rows, next_reading}
use Rattle.sdm_drive.specs.DriveLaws.{IsDrivable, start_under}

-- the drive before each of so many steps (own)
abbrev pub drives_before : ℕ → Drive → List Drive
drives_before zero s = []
drives_before (suc n) s = s ∷ drives_before n (after_step s)

-- the journey whose records are the readings of so many steps, in their order (own)
abbrev pub drive_journey : ℕ → Drive → Journey
drive_journey n s = journey_from (λ k r. reading_record r) 1 s.supervision (map next_reading (drives_before n s))

-- the reading is true of the train: the true front end lies from the min to the max safe one, and the true speed is at
-- most V_est + V_delta0 (own)
pub record IsTrueOf (d : TrainAndTrack) (t : TrueTrain) (r : OdometerReading) : Type 0 where
  pub rear : r.min ≤ℤ t.place
  pub front : t.place ≤ℤ r.max
  pub speed : t.speed ≤ v_est_delta0 d (estimate_of r)

-- the next reading of a drive is true of its train (own)
abbrev pub IsReadTrue : Drive → Type 0
IsReadTrue s = IsTrueOf s.supervision.train_and_track s.train (next_reading s)

-- WHAT THE STEPS OF A DRIVE PROMISE: their rows are those of a journey, the one of its readings; of each of these rows
-- holds what a command says of its rows; and each reading is true of the train.
pub record AreStepsPromised (n : ℕ) (s : Drive) : Type 0 where
  pub rows : map (λ r. r.row) (drive_rows n s) ≡ rows_of (drive_journey n s).turns
  pub turns : AreTurnsPromised (drive_journey n s).turns
  pub readings : All IsReadTrue (drives_before n s)

-- This holds for every drive, from every seed and for every number of steps.
abbrev pub LawOfDriveSteps : Type 0
LawOfDriveSteps =
    (d : TrainAndTrack) (eoa svl seed n : ℕ) → IsDrivable d eoa svl → AreStepsPromised n (start_under d eoa svl seed)
