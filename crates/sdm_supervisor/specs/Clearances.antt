-- What is asked of a place when the first one is sought that a reading is clear of (own).
use Rattle.std.specs.Prelude.{◌≡◌, ℕ, ℤ, pos, Bool, true, false, not, ◌*◌, ◌<◌, ◌≤◌}
use Rattle.sdm_num.specs.Fractions.{less}
use Rattle.sdm_num.specs.Units.{millimetre, notches_of_mm_s, place_of_mm}
use Rattle.sdm_rules.specs.Limits.{computed}
use Rattle.sdm_rules.specs.Slopes.{Slopes}
use Rattle.sdm_rules.specs.Triggers.{is_past}
use Rattle.sdm_row_laws.specs.Clearances.{Allowance}

-- ---- allowances

-- the allowance of a front end in mm, a speed in mm/s and an acceleration in cm/s² (own)
abbrev pub allowance_of : ℕ → ℕ → ℕ → Allowance
allowance_of front_mm speed_mm_s accel = record {
  front = front_mm * millimetre;
  speed = notches_of_mm_s speed_mm_s;
  accel = accel;
}

-- an allowance is in its ranges: up to 10 km, 10,000 mm/s and 300 cm/s² (ranges own)
pub record IsAllowance (a : Allowance) : Type 0 where
  pub front : a.front ≤ 10_000_000 * millimetre
  pub speed : a.speed ≤ notches_of_mm_s 10_000
  pub accel : a.accel ≤ 300

-- ---- one place

-- a train that has run so many grains from a front end on, and then has a speed in notches, isn't past where the
-- computed curve of a place in grains has this speed (own)
abbrev pub clears : Slopes → ℤ → ℕ → ℕ → ℤ → Bool
clears on front way speed place = not (is_past 0 front (less (computed on place 0 speed) way))

-- the same of a place in mm
abbrev pub clears_mm : Slopes → ℤ → ℕ → ℕ → ℕ → Bool
clears_mm on front way speed mm = clears on front way speed (place_of_mm (pos mm))

-- the first millimetre that is cleared, up to a last one (own)
pub record IsFirstCleared (on : Slopes) (front : ℤ) (way speed last mm : ℕ) : Type 0 where
  pub within : mm ≤ last
  pub clear : clears_mm on front way speed mm ≡ true
  pub none : (lesser : ℕ) → lesser < mm → clears_mm on front way speed lesser ≡ false
