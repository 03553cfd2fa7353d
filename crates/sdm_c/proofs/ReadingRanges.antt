-- The ranges of a reading in C's numbers are those of the reading in grains and notches: a place in mm is compared as
-- its grains are, a speed in mm/s as its notches.
use Rattle.std.proofs.Common.{◌≡◌, ℤ, pos, negsuc, IsTrue, Bool, true, false, int_le, ◌≤◌, ◌≤ℤ◌, refl, arith, rules}
use Rattle.std.proofs.Common.{to_z, of_z, w16}
use Rattle.std.specs.Prelude.{◌&&◌, nat_le, Option, Some, None}
use Rattle.std.specs.Option.{SomeIff}
use Rattle.std.proofs.lemmas.Bool.{le-leb, leb-true}
use Rattle.std.proofs.lemmas.Int.{ints, to_z-of_z}
use Rattle.sdm_num.specs.Readings.{IsReading, OdometerReading}
use Rattle.sdm_num.proofs.Comparisons.{le_is, le_of}
use Rattle.sdm_rules.specs.Ranges.{is_within}
use Rattle.sdm_c.specs.declared.structs.ReadingC.{ReadingC}
use Rattle.sdm_c.specs.Numbers.{are_front_ends, is_acceleration, is_motion, is_reading, reading_from}

parts : (a b : Bool) → IsTrue (a && b) → IsTrue a × IsTrue b
parts true b h = (refl, h)
parts false b h = search rules

within : (least greatest n : ℤ) → IsTrue (is_within least greatest n) → (least ≤ℤ n) × (n ≤ℤ greatest)
within least greatest n h =
    let both = parts (int_le least n) (int_le n greatest) h in (le_of least n both.0, le_of n greatest both.1)

-- in range in grains and notches, so in C's numbers
pub tested : (r : ReadingC) → IsReading (reading_from r) → IsTrue (is_reading r)
tested r h =
    let min : negsuc 9_999_999 ≤ℤ r.min_mm = omega (arith, ints, h.low) in
    let back : r.min_mm ≤ℤ r.est_mm = omega (arith, ints, h.back) in
    let front : r.est_mm ≤ℤ r.max_mm = omega (arith, ints, h.front) in
    let max : r.max_mm ≤ℤ pos 110_000_000 = omega (arith, ints, h.high) in
    let speed : r.speed_mm_s ≤ 138_888 = omega (arith, h.speed) in
    let under : r.under_mm_s ≤ 10_000 = omega (arith, h.under) in
    rw (
      le-leb r.time_ds 100_000_000 h.time,
      le_is (negsuc 9_999_999) r.min_mm min,
      le_is r.min_mm r.est_mm back,
      le_is r.est_mm r.max_mm front,
      le_is r.max_mm (pos 110_000_000) max,
      le-leb r.speed_mm_s 138_888 speed,
      le_is (negsuc 299) r.accel_cm_s2 h.slowing,
      le_is r.accel_cm_s2 (pos 300) h.gaining,
      le-leb r.under_mm_s 10_000 under,
    ) refl

-- in range in C's numbers, so in grains and notches
pub in_range : (r : ReadingC) → IsTrue (is_reading r) → IsReading (reading_from r)
in_range r h =
    let whole = parts (nat_le r.time_ds 100_000_000 && are_front_ends r.min_mm r.est_mm r.max_mm)
    (is_motion r.speed_mm_s r.accel_cm_s2 r.under_mm_s) h in
    let timed = parts (nat_le r.time_ds 100_000_000) (are_front_ends r.min_mm r.est_mm r.max_mm) whole.0 in
    let fronts = parts (is_within (negsuc 9_999_999) r.est_mm r.min_mm)
    (is_within r.est_mm (pos 110_000_000) r.max_mm) timed.1 in
    let low = within (negsuc 9_999_999) r.est_mm r.min_mm fronts.0 in
    let high = within r.est_mm (pos 110_000_000) r.max_mm fronts.1 in
    let moving = parts (nat_le r.speed_mm_s 138_888 && is_acceleration r.accel_cm_s2)
    (nat_le r.under_mm_s 10_000) whole.1 in
    let driven = parts (nat_le r.speed_mm_s 138_888) (is_acceleration r.accel_cm_s2) moving.0 in
    let gains = within (negsuc 299) (pos 300) r.accel_cm_s2 driven.1 in
    let speed = leb-true r.speed_mm_s 138_888 driven.0 in
    let under = leb-true r.under_mm_s 10_000 moving.1 in
    record {
      time = leb-true r.time_ds 100_000_000 timed.0;
      low = omega (arith, ints, low);
      back = omega (arith, ints, low);
      front = omega (arith, ints, high);
      high = omega (arith, ints, high);
      speed = omega (arith, speed);
      slowing = gains.0;
      gaining = gains.1;
      under = omega (arith, under);
    }

-- an acceleration in its range fits 16 bits
pub fits : (accel : ℤ) → IsTrue (is_acceleration accel) → to_z w16 (of_z w16 accel) ≡ accel
fits (pos n) h = let bounds = within (negsuc 299) (pos 300) (pos n) h in
    to_z-of_z w16 (pos n) (record { sfits = omega (arith, ints, bounds) })
fits (negsuc n) h = let bounds = within (negsuc 299) (pos 300) (negsuc n) h in
    to_z-of_z w16 (negsuc n) (record { sfits = omega (arith, ints, bounds) })

-- the acceleration is in its range, so the reading of these numbers is told by it
pub with_accel : (r : ReadingC) (accel : ℤ) (given : Option OdometerReading) → accel ≡ r.accel_cm_s2 →
    SomeIff given (IsReading (reading_from (record r { accel_cm_s2 = accel })))
    (reading_from (record r { accel_cm_s2 = accel })) → SomeIff given (IsTrue (is_reading r)) (reading_from r)
with_accel r accel None is h = λ taken. h (rw (is) (in_range r taken))
with_accel r accel (Some x) is h = (tested r (rw (← is) h.0), rw (← is) h.1)

-- the acceleration is out of its range, so the reading is
pub no_accel : (r : ReadingC) → ¬ IsTrue (is_acceleration r.accel_cm_s2) → ¬ IsTrue (is_reading r)
no_accel r out taken =
    let whole = parts (nat_le r.time_ds 100_000_000 && are_front_ends r.min_mm r.est_mm r.max_mm)
    (is_motion r.speed_mm_s r.accel_cm_s2 r.under_mm_s) taken in
    let moving = parts (nat_le r.speed_mm_s 138_888 && is_acceleration r.accel_cm_s2)
    (nat_le r.under_mm_s 10_000) whole.1 in
    out (parts (nat_le r.speed_mm_s 138_888) (is_acceleration r.accel_cm_s2) moving.0).1
