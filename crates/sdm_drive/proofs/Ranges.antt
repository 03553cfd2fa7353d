-- The ranges of the drive: the train never goes back and is never faster than its greatest speed, and times rise from
-- reading to reading. So each reading is in its ranges.
use Rattle.std.proofs.Common.{◌≡◌, ℕ, ℤ, pos, neg_ℤ, Bool, true, false, ◌==◌, Option, Some, None, suc, zero, ◌-◌, ◌*◌}
use Rattle.std.proofs.Common.{◌/◌, ◌%◌, ◌≤◌, ◌+ℤ◌, ◌≤ℤ◌, max, refl, arith}
use Rattle.std.specs.Prelude.{if◌then◌else◌}
use Rattle.std.proofs.lemmas.Int.{ints}
use Rattle.std.proofs.lemmas.Bool.{le-ltb}
use Rattle.std.proofs.Math.Nat.{mod-lt}
use Rattle.sdm_num.specs.Units.{millimetre}
use Rattle.sdm_num.specs.Readings.{IsReading}
use Rattle.sdm_num.proofs.Floors.{floor_low, floor_high}
use Rattle.sdm_rules.specs.Cells.{place_of_cell}
use Rattle.sdm_rules.specs.Slopes.{Slopes, IsUsable}
use Rattle.sdm_rules.specs.Supervision.{after_reading}
use Rattle.sdm_rules.specs.Records.{time_fault}
use Rattle.sdm_drive.specs.declared.orders.Orders.{Orders}
use Rattle.sdm_drive.specs.Drive.{TrueTrain, Drive, after_driving, after_ds, after_several_ds, div_up, reading_by}
use Rattle.sdm_drive.specs.Drive.{after_step, after_step_from, brake_of, greatest_driven, step_time}
use Rattle.sdm_drive.specs.Held.{IsRanged}
use Rattle.sdm_drive.specs.Trains.{IsOnWay}
use Rattle.sdm_drive.proofs.Deciseconds.{by_case, braking_does}

-- ---- the train

-- each ds keeps the train in its ranges
on_way_driving : (accel : ℤ) (t : TrueTrain) → IsOnWay t → IsOnWay (after_driving accel t)
unfolding after_driving
on_way_driving accel t k = let p = k.place in record { place = omega (arith, ints); speed = omega arith }

on_way_ds : (on : Slopes) → IsUsable on → (o : Orders) (time : ℕ) (t : TrueTrain) → IsOnWay t →
    IsOnWay (after_ds on o time t)
on_way_ds on usable o time t k =
    let p = k.place in
    let v = k.speed in
    by_case IsOnWay on o time t
    (λ e.
    let b = braking_does on t usable in
    let moved = b.moved in
    let slower = b.slower in
    record { place = omega (arith, ints); speed = omega arith })
    (λ e h. record { place = omega (arith, ints); speed = v })
    (λ e h. on_way_driving o.accel t k)

on_way_several_ds : (on : Slopes) → IsUsable on → (o : Orders) (time n : ℕ) (t : TrueTrain) → IsOnWay t →
    IsOnWay (after_several_ds on o time n t)
on_way_several_ds on usable o time zero t k = k
on_way_several_ds on usable o time (suc n) t k =
    on_way_several_ds on usable o (suc time) n (after_ds on o time t) (on_way_ds on usable o time t k)

-- ---- a reading

-- the speed that is read is at most the greatest one, by whether the train stands and whether the compensation of
-- under-reading is inhibited
speed_by : (stands inhibited : Bool) (x w : ℕ) → w ≤ greatest_driven →
    (if stands then 0 else if inhibited then div_up w 54 else max 1 (w / 54 - x % 500)) ≤ 138_888
speed_by true inhibited x w h = omega arith
speed_by false true x w h = omega arith
speed_by false false x w h = omega arith

under_by : (inhibited : Bool) → (if inhibited then 0 else 500) ≤ 10_000
under_by true = omega arith
under_by false = omega arith

-- the reading of a train in its ranges, at or before an SvL on the track, is in its ranges
pub in_ranges : (inhibited : Bool) (time x svl : ℕ) (t : TrueTrain) → time ≤ 100_000_000 → svl ≤ 10_000_000 →
    IsOnWay t → t.place ≤ℤ place_of_cell (pos svl) → IsReading (reading_by inhibited time x t)
unfolding reading_by
in_ranges inhibited time x svl t in_time short k far =
    let p = k.place in
    let low = floor_low millimetre (neg_ℤ t.place) (omega arith) in
    let high = floor_high millimetre (neg_ℤ t.place) (omega arith) in
    let less = mod-lt x {m = 5_001} (omega arith) in
    let gain = mod-lt x {m = 61} (omega arith) in
    let v = speed_by (t.speed == 0) inhibited x t.speed k.speed in
    let u = under_by inhibited in
    record {
      time = in_time;
      low = omega (arith, ints, low, high, less);
      back = omega (arith, ints);
      front = omega (arith, ints);
      high = omega (arith, ints, low, high, less);
      speed = omega arith;
      slowing = omega (arith, ints, gain);
      gaining = omega (arith, ints, gain);
      under = omega arith;
    }

-- ---- the drive

some_some : (a b : ℕ) → Some a ≡ Some b → a ≡ b
some_some a b e = cc

-- a step keeps the ranges
pub step_ranged : (n : ℕ) (s : Drive) → IsUsable (brake_of s) → IsRanged n s → IsRanged (suc n) (after_step s)
unfolding after_step_from after_reading reading_by
step_ranged n s usable k =
    let steps = k.steps in
    record {
      on_way = on_way_several_ds (brake_of s) usable _ (step_time * suc s.steps) step_time s.train k.on_way;
      steps = omega arith;
      last = λ time is. (let e = some_some (step_time * suc s.steps) time is in omega arith);
    }

-- a time that is not before the last one has no fault
pub not_back : (last : Option ℕ) (time : ℕ) → ((t : ℕ) → last ≡ Some t → t ≤ time) → time_fault last time ≡ None
not_back None time h = refl
not_back (Some t) time h = rw (le-ltb time t (h t refl)) refl

driving_near : (accel : ℤ) (t : TrueTrain) → t.speed ≤ greatest_driven →
    (after_driving accel t).place ≤ℤ (t.place +ℤ pos 10_000_000_000_000)
unfolding after_driving
driving_near accel t slow = omega (arith, ints)

-- a ds takes the train at most about 19 m
pub ds_near : (on : Slopes) → IsUsable on → (o : Orders) (time : ℕ) (t : TrueTrain) → t.speed ≤ greatest_driven →
    (after_ds on o time t).place ≤ℤ (t.place +ℤ pos 10_000_000_000_000)
ds_near on usable o time t slow =
    by_case (λ (t' : TrueTrain). t'.place ≤ℤ (t.place +ℤ pos 10_000_000_000_000)) on o time t
    (λ e.
    let b = braking_does on t usable in
    let moved = b.moved in
    let slower = b.slower in
    let mean = b.mean in
    omega (arith, ints))
    (λ e h. omega (arith, ints))
    (λ e h. driving_near o.accel t slow)
