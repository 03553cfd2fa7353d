-- Odometer readings and the estimates in them (SUBSET-026-3 3.6.4, 3.13.2.2; ranges own).
use Rattle.std.specs.Prelude.{ℕ, ℤ, pos, negsuc, ◌≤◌, ◌≤ℤ◌}
use Rattle.sdm_num.specs.Units.{place_of_mm, notches, notches_of_mm_s, top_kmh}

-- an odometer reading: the train's front end lies between `min` and `max`, and most likely at `est` (SUBSET-026-3
-- 3.6.4, 3.13.2.2)
pub record OdometerReading : Type 0 where
  pub time : ℕ  -- ds, from any origin
  pub est : ℤ  -- estimated front end, grains (3.6.4)
  pub min : ℤ  -- min safe front end, grains (3.6.4.4)
  pub max : ℤ  -- max safe front end, grains (3.6.4.4)
  pub speed : ℕ  -- estimated speed V_est, notches (3.13.2.2)
  pub accel : ℤ  -- estimated acceleration A_est, cm/s² (3.13.2.2)
  pub under : ℕ  -- how far the true speed may be above the estimated one, notches (3.13.9.3.2)

-- the ranges that every reading keeps (own)
pub record IsReading (r : OdometerReading) : Type 0 where
  pub time : r.time ≤ 100_000_000
  pub low : place_of_mm (negsuc 9_999_999) ≤ℤ r.min
  pub back : r.min ≤ℤ r.est
  pub front : r.est ≤ℤ r.max
  pub high : r.max ≤ℤ place_of_mm (pos 110_000_000)
  pub speed : r.speed ≤ notches_of_mm_s 138_888
  pub slowing : negsuc 299 ≤ℤ r.accel
  pub gaining : r.accel ≤ℤ pos 300
  pub under : r.under ≤ notches_of_mm_s 10_000

-- what is estimated of the train's motion, whatever its place (SUBSET-026-3 3.13.2.2)
pub record Estimate : Type 0 where
  pub speed : ℕ  -- V_est, notches
  pub accel : ℤ  -- A_est, cm/s²
  pub under : ℕ  -- how far the true speed may be above the estimated one, notches (3.13.9.3.2)

-- the ranges that every estimate keeps: its speed may be one that no reading has (own)
pub record IsEstimate (e : Estimate) : Type 0 where
  pub speed : e.speed ≤ notches top_kmh
  pub slowing : negsuc 299 ≤ℤ e.accel
  pub gaining : e.accel ≤ℤ pos 300
  pub under : e.under ≤ notches_of_mm_s 10_000

-- the estimate of a reading (SUBSET-026-3 3.13.2.2)
abbrev pub estimate_of : OdometerReading → Estimate
estimate_of r = record { speed = r.speed; accel = r.accel; under = r.under }

-- the reading of these numbers: places in mm, speeds in mm/s (own)
abbrev pub reading_of : ℕ → ℤ → ℤ → ℤ → ℕ → ℤ → ℕ → OdometerReading
reading_of time est_mm min_mm max_mm speed_mm_s accel under_mm_s = record {
  time = time;
  est = place_of_mm est_mm;
  min = place_of_mm min_mm;
  max = place_of_mm max_mm;
  speed = notches_of_mm_s speed_mm_s;
  accel = accel;
  under = notches_of_mm_s under_mm_s;
}
