-- How near the computed limits of a reading are to the exact ones, by the number of speed bands; also at the other
-- speeds that a driver is shown as limits (own).
use Rattle.std.specs.Prelude.{ℕ, ◌<◌, Option, Some, None, ⊤, length}
use Rattle.sdm_num.specs.Units.{notches}
use Rattle.sdm_num.specs.Fractions.{Fraction, IsAtMost, more}
use Rattle.sdm_num.specs.Readings.{OdometerReading, estimate_of}
use Rattle.sdm_rules.specs.declared.limits.LimitKind.{LimitKind}
use Rattle.sdm_rules.specs.declared.targets.Target.{Target}
use Rattle.sdm_rules.specs.Data.{TrainAndTrack}
use Rattle.sdm_rules.specs.Limits.{computed, exact_places, limit_in, limits_of, release_start}
use Rattle.sdm_laws.specs.CurveLaws.{slack_of}
use Rattle.sdm_laws.specs.SupervisionLaws.{AreEarly}

-- `x` is at most so many grains past `low`
pub record IsWithin (grains : ℕ) (low x : Fraction) : Type 0 where
  pub positive : 0 < x.m
  pub near : IsAtMost x (more low grains)

-- both places exist or neither does; the second is at most so many grains past the first
abbrev pub AreWithinIfAny : ℕ → Option Fraction → Option Fraction → Type 0
AreWithinIfAny grains None None = ⊤
AreWithinIfAny grains None (Some x) = ⊥
AreWithinIfAny grains (Some low) None = ⊥
AreWithinIfAny grains (Some low) (Some x) = IsWithin grains low x

-- each exact limit, and the exact start of release speed monitoring, is at most so many grains past the computed one
-- (SUBSET-026-3 3.13.9.3, 3.13.9.4)
pub record AreWithin (grains : ℕ) (d : TrainAndTrack) (r : OdometerReading) : Type 0 where
  pub limits : (t : Target) (kind : LimitKind) →
      AreWithinIfAny grains (limit_in kind (limits_of computed d (estimate_of r) t))
      (limit_in kind (limits_of exact_places d (estimate_of r) t))
  pub release_start : (eoa svl release : ℕ) →
      IsWithin grains (release_start computed d eoa svl release) (release_start exact_places d eoa svl release)

-- the computed limits are early for the exact ones, by at most the rounding of all bands of the train
pub record AreNear (d : TrainAndTrack) (r : OdometerReading) : Type 0 where
  pub early : AreEarly d r
  pub within : AreWithin (slack_of (length d.train.bands)) d r

-- a reading with another speed, in km/h, all else as in the reading
abbrev pub at_kmh : ℕ → OdometerReading → OdometerReading
at_kmh kmh r = record r { speed = notches kmh }
