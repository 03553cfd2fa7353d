-- What is said of the rows of a drive towards an EOA at 9 m and an SvL at 10 m, which is 5,400,000,000,000 grains.
use Rattle.std.proofs.Common.{◌≡◌, ℕ, suc, pos, negsuc, List, [], ◌∷◌, map, arith, refl, ◌≤ℤ◌}
use Rattle.std.specs.Prelude.{false, true}
use Rattle.std.proofs.lemmas.Int.{ints}
use Rattle.sdm_num.specs.Bounds.{mm_below}
use Rattle.sdm_num.specs.Readings.{OdometerReading}
use Rattle.sdm_rules.specs.declared.authorities.Authority.TheVariants.{Stop}
use Rattle.sdm_rules.specs.declared.rows.Row.{Row}
use Rattle.sdm_rules.specs.Data.{TrainAndTrack}
use Rattle.sdm_rules.specs.Machines.{Implies, must_after}
use Rattle.sdm_rules.specs.Opening.{IsAccepted}
use Rattle.sdm_rules.specs.Records.{rows_of, step}
use Rattle.sdm_rules.specs.Stop.{StopsBySvl}
use Rattle.sdm_rules.specs.Supervision.{opening, row_of}
use Rattle.sdm_drive.specs.Drive.{Drive, after_step, drive_row, drive_rows, drive_start, least_ahead, next_reading}
use Rattle.sdm_drive.specs.DriveJourneys.{AreStepsPromised, IsTrueOf, drive_journey}
use Rattle.sdm_drive.specs.DriveLaws.{AreBySvl}
use Rattle.sdm_drive.specs.Faults.{HasBuildUp}
use Rattle.sdm_run.specs.Drives.{AreDriveRowsSafe}
use Rattle.sdm_opening.specs.Openings.{IsDataOf}

-- the front end of the first row is at or before the SvL, whatever the data
first_front : (seed n : ℕ) (bytes : List ℕ) (d : TrainAndTrack) → IsDataOf bytes d (Stop 900 1_000 0) →
    IsAccepted d (Stop 900 1_000 0) → HasBuildUp d → AreDriveRowsSafe seed (suc n) bytes →
    (drive_row (drive_start d (Stop 900 1_000 0) seed)).front ≤ℤ pos 5_400_000_000_000
first_front seed n bytes d given accepted build_up h =
    (h d 900 1_000 given accepted build_up).by_svl.fronts 0 (drive_row (drive_start d (Stop 900 1_000 0) seed)) (omega arith)

-- and so is that of the second
second_front : (seed n : ℕ) (bytes : List ℕ) (d : TrainAndTrack) → IsDataOf bytes d (Stop 900 1_000 0) →
    IsAccepted d (Stop 900 1_000 0) → HasBuildUp d → AreDriveRowsSafe seed (suc (suc n)) bytes →
    (drive_row (after_step (drive_start d (Stop 900 1_000 0) seed))).front ≤ℤ pos 5_400_000_000_000
second_front seed n bytes d given accepted build_up h =
    (h d 900 1_000 given accepted build_up).by_svl.fronts 1 (drive_row (drive_start d (Stop 900 1_000 0) seed)) (omega arith)

-- the least distance is not negative
least_is_ahead : (seed n : ℕ) (bytes : List ℕ) (d : TrainAndTrack) → IsDataOf bytes d (Stop 900 1_000 0) →
    IsAccepted d (Stop 900 1_000 0) → HasBuildUp d → AreDriveRowsSafe seed n bytes →
    pos 0 ≤ℤ mm_below (least_ahead 1_000 (drive_rows n (drive_start d (Stop 900 1_000 0) seed)))
least_is_ahead seed n bytes d given accepted build_up h = (h d 900 1_000 given accepted build_up).by_svl.least

-- a row a grain past the SvL isn't by it, also after others
a_grain_past_the_svl : (row first : Row) → AreBySvl 1_000 (
    record { row = first; front = pos 0; speed = 0; stops = 0 }
    ∷ record { row = row; front = pos 5_400_000_000_001; speed = 0; stops = 0 }
    ∷ []) → ⊥
a_grain_past_the_svl row first h =
    let k = h.fronts 1 (record { row = row; front = pos 0; speed = 0; stops = 0 }) (omega arith) in omega (arith, ints, k)

-- ---- its steps

module _ (seed n : ℕ) (bytes : List ℕ) (d : TrainAndTrack) (given : IsDataOf bytes d (Stop 900 1_000 0))
    (accepted : IsAccepted d (Stop 900 1_000 0)) (build_up : HasBuildUp d)
    (h : AreDriveRowsSafe seed (suc (suc n)) bytes) where
  abbrev start : Drive
  start = drive_start d (Stop 900 1_000 0) seed

  abbrev promised : AreStepsPromised (suc (suc n)) start
  promised = (h d 900 1_000 given accepted build_up).steps

  -- the first row is that of the first reading, in the state of the opening
  first_row : (drive_row start).row ≡ row_of (opening d (Stop 900 1_000 0)) (next_reading start)
  unfolding drive_row
  first_row = refl

  -- all rows are those of the journey of its readings
  all_rows : map (λ r. r.row) (drive_rows (suc (suc n)) start) ≡ rows_of (drive_journey (suc (suc n)) start).turns
  all_rows = promised.rows

  -- from the first reading every motion stops by the SvL, where its row is covered
  first_stops : (row_of (opening d (Stop 900 1_000 0)) (next_reading start)).covered ≡ true →
      StopsBySvl d (next_reading start) 1_000
  unfolding step
  first_stops covered = (promised.turns.safe.0.stop covered).stops 900 1_000 0 refl

  -- where the exact machine commands the brake at the first reading, so does the drive's row
  first_ordered : Implies (must_after (opening d (Stop 900 1_000 0)) (next_reading start) false)
      (row_of (opening d (Stop 900 1_000 0)) (next_reading start)).held.eb
  unfolding step
  first_ordered = promised.turns.safe.0.order.needed

  -- the second reading is of a train that isn't past its max safe front end
  second_front_read : (after_step start).train.place ≤ℤ (next_reading (after_step start)).max
  second_front_read = (promised.readings 1 start (omega arith)).front

-- a train that is a grain past the max safe front end isn't within the reading
past_the_front : (d : TrainAndTrack) (r : OdometerReading) →
    IsTrueOf d (record { place = pos 1; speed = 0 }) (record r { max = pos 0 }) → ⊥
past_the_front d r h = let k = h.front in omega (arith, ints, k)

-- nor is one a grain behind the min safe front end
behind_the_rear : (d : TrainAndTrack) (r : OdometerReading) →
    IsTrueOf d (record { place = negsuc 0; speed = 0 }) (record r { min = pos 0 }) → ⊥
behind_the_rear d r h = let k = h.rear in omega (arith, ints, k)

-- nor one that moves where 0 is read without compensation
faster_than_read : (d : TrainAndTrack) (r : OdometerReading) → d.national.inhibit_under_reading ≡ true →
    IsTrueOf d (record { place = pos 0; speed = 1 }) (record r { speed = 0 }) → ⊥
faster_than_read d r inhibited h = let k = rw inhibited at h.speed in omega arith
