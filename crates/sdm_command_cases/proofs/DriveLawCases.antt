-- What the laws of the drive say after more than a few steps and of more than the slowest train, and which numbers
-- a refusal tells.
use Rattle.std.proofs.Common.{◌≡◌, ℕ, ℤ, pos, ◌≤ℤ◌}
use Rattle.sdm_rules.specs.declared.authorities.Authority.{Authority}
use Rattle.sdm_rules.specs.declared.authorities.Authority.TheVariants.{Stop}
use Rattle.sdm_rules.specs.Slopes.{Slopes, IsUsable}
use Rattle.sdm_rules.specs.Data.{TrainAndTrack}
use Rattle.sdm_laws.specs.MotionLaws.{IsWithinCurve}
use Rattle.sdm_drive.specs.declared.faults.DriveFault.TheVariants.{HasRelease, ShortBuild}
use Rattle.sdm_drive.specs.Drive.{TrueTrain, after_braking, after_steps}
use Rattle.sdm_drive.specs.DriveLaws.{IsDrivable, IsSliceOf, LawOfBrakedDs, LawOfDrive, LawOfReactionDs, point_of}
use Rattle.sdm_drive.specs.DriveLaws.{reach, start_under}
use Rattle.sdm_drive.specs.Faults.{IsDriveRefusal}

-- ---- the laws

-- braking on the curve of a target of 1 m/s, which is 54,000 notches
braked_above_0 : LawOfBrakedDs → (on : Slopes) (f : ℤ) (t : TrueTrain) → IsUsable on →
    IsWithinCurve on 1 f 54_000 (point_of t) → IsWithinCurve on 1 f 54_000 (point_of (after_braking on t))
braked_above_0 law on f t usable within = law on f 54_000 t usable within

-- the second of five ds before the brakes work
second_of_five : LawOfReactionDs → (on : Slopes) (f : ℤ) (t t' : TrueTrain) → IsUsable on → IsSliceOf 40 t t' →
    IsWithinCurve on 1 f 0 (reach 40 4 t) → IsWithinCurve on 1 f 0 (reach 40 3 t')
second_of_five law on f t t' usable slice within = law on f 0 40 3 t t' usable slice within

-- a drive towards an SvL at 10 m, after any number of steps
after_any_steps : LawOfDrive → (d : TrainAndTrack) (seed n : ℕ) → IsDrivable d 900 1_000 →
    (after_steps n (start_under d 900 1_000 seed)).train.place ≤ℤ pos 5_400_000_000_000
after_any_steps law d seed n drivable = law d 900 1_000 seed n drivable

-- ---- the numbers of a refusal

-- the release speed is that of the authority
no_other_release : (d : TrainAndTrack) → IsDriveRefusal d (Stop 5 9 7) (HasRelease 8) → ⊥
no_other_release d (eoa, svl, is, positive) = cc

-- and the time that of the data, here 4 ds
no_other_time : (d : TrainAndTrack) (a : Authority) → d.train.emergency_time ≡ pos 4 →
    IsDriveRefusal d a (ShortBuild 3) → ⊥
no_other_time d a is h = let e = h.1 in cc
