-- A place that whole millimetres are added to, rounded up, and a reading by its parts.
use Rattle.std.proofs.Common.{◌≡◌, ℕ, ℤ, Bool, pos, neg_ℤ, ◌*◌, ◌%◌, ◌+ℤ◌, ◌-ℤ◌, ◌≤ℤ◌, refl, arith, if◌then◌else◌}
use Rattle.std.proofs.lemmas.Int.{ints}
use Rattle.std.specs.Int.{int_div_euclid}
use Rattle.sdm_num.specs.Units.{millimetre}
use Rattle.sdm_num.specs.Bounds.{mm_above}
use Rattle.sdm_num.specs.Readings.{reading_of}
use Rattle.sdm_num.proofs.Floors.{floor_low, floor_high, floor_is}
use Rattle.sdm_drive.specs.Drive.{TrueTrain, read_speed, reading_by}

-- whole millimetres come out of the rounding
pub above_more : (p : ℤ) (e : ℕ) → mm_above (p +ℤ pos (millimetre * e)) ≡ mm_above p +ℤ pos e
above_more p e =
    let c = int_div_euclid (neg_ℤ p) (pos millimetre) in
    let low = floor_low millimetre (neg_ℤ p) (omega arith) in
    let high = floor_high millimetre (neg_ℤ p) (omega arith) in
    let is = floor_is millimetre (neg_ℤ (p +ℤ pos (millimetre * e))) (c +ℤ neg_ℤ (pos e)) (omega arith)
    (omega (arith, ints, low)) (omega (arith, ints, high)) in
    omega (arith, ints, is)

-- on a track of at most 100 km
pub above_range : (p : ℤ) → pos 0 ≤ℤ p → p ≤ℤ pos 54_000_000_000_000_000 →
    (pos 0 ≤ℤ mm_above p) × (mm_above p ≤ℤ pos 100_000_000)
above_range p from to =
    let low = floor_low millimetre (neg_ℤ p) (omega arith) in
    let high = floor_high millimetre (neg_ℤ p) (omega arith) in
    (omega (arith, ints, low), omega (arith, ints, high))

-- the reading by its parts
pub made : (inhibited : Bool) (time x : ℕ) (t : TrueTrain) (est min max accel : ℤ) (speed under : ℕ) →
    max ≡ mm_above t.place +ℤ pos (x % 5_001) → est ≡ max -ℤ pos 5_000 → min ≡ max -ℤ pos 10_000 →
    accel ≡ pos (x % 61) -ℤ pos 20 → speed ≡ read_speed inhibited x t.speed →
    under ≡ (if inhibited then 0 else 500) →
    reading_of time est min max speed accel under ≡ reading_by inhibited time x t
unfolding reading_by
made inhibited time x t est min max accel speed under max_is est_is min_is accel_is speed_is under_is =
    rw (est_is, min_is, accel_is, speed_is, under_is, max_is) refl
