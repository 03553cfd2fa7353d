-- What the odometer of the drive reads: the true front end is at most the max safe one, and the true speed at most the
-- speed that is read with V_delta0. So from a reading the train can reach no more than D_bec and V_bec say.
use Rattle.std.proofs.Common.{◌≡◌, ℕ, ℤ, pos, negsuc, neg_ℤ, Bool, true, false, ◌==◌, ◌+◌, ◌-◌, ◌*◌, ◌/◌, ◌%◌, ◌<◌, ◌≤◌}
use Rattle.std.proofs.Common.{◌+ℤ◌, ◌-ℤ◌, ◌≤ℤ◌, max, refl, arith, inl, inr, ◌⊎◌, if◌then◌else◌}
use Rattle.std.proofs.lemmas.Int.{ints}
use Rattle.std.proofs.lemmas.Bool.{eqb-true}
use Rattle.std.proofs.Math.Nat.{mul-le-mul_left, lt-mul-div-succ, mod-lt}
use Rattle.std.proofs.lemmas.Nat.{mul-le}
use Rattle.sdm_num.specs.Units.{millimetre, place_of_mm}
use Rattle.sdm_num.specs.Bounds.{mm_above}
use Rattle.sdm_num.specs.Readings.{OdometerReading}
use Rattle.sdm_num.proofs.Floors.{floor_low}
use Rattle.sdm_rules.specs.Data.{TrainAndTrack}
use Rattle.sdm_rules.specs.Reaction.{BuildUp, a_est1, v_delta0, v_bec, d_bec}
use Rattle.sdm_laws.specs.MotionLaws.{IsBounded}
use Rattle.sdm_drive.specs.Drive.{TrueTrain, div_up, read_speed, reading_by}
use Rattle.sdm_drive.specs.DriveLaws.{reach}

-- the reading says enough of the train: where it is and how fast at most, that it moves where it does, and that it is
-- driven gently
pub record IsReadOf (d : TrainAndTrack) (t : TrueTrain) (r : OdometerReading) : Type 0 where
  pub front : t.place ≤ℤ r.max
  pub speed : t.speed ≤ r.speed + v_delta0 d r.under
  pub moving : 0 < t.speed → 0 < r.speed
  pub gentle : a_est1 r.accel ≤ 40

above : (z : ℤ) (k : ℕ) → z ≤ℤ place_of_mm (mm_above z +ℤ pos k)
above z k = omega (arith, ints, floor_low millimetre (neg_ℤ z) (omega arith))

-- ---- the speed, by whether the train stands and whether the compensation of under-reading is inhibited

fast_by : (stands inhibited : Bool) (x w : ℕ) → (stands ≡ true → w ≡ 0) →
    w ≤ 54 * (if stands then 0 else if inhibited then div_up w 54 else max 1 (w / 54 - x % 500))
    + (if inhibited then 0 else 54 * (if inhibited then 0 else 500))
fast_by true inhibited x w h = let e = h refl in omega arith
fast_by false true x w h = let k = lt-mul-div-succ (w + 53) {b = 54} (omega arith) in omega (arith, k)
fast_by false false x w h =
    let k = lt-mul-div-succ w {b = 54} (omega arith) in
    let less = mod-lt x {m = 500} (omega arith) in
    omega (arith, k, less)

moving_by : (stands inhibited : Bool) (x w : ℕ) → 0 < w →
    0 < (if stands then 0 else if inhibited then div_up w 54 else max 1 (w / 54 - x % 500)) ⊎ (stands ≡ true)
moving_by true inhibited x w some = inr refl
moving_by false true x w some = inl (let k = lt-mul-div-succ (w + 53) {b = 54} (omega arith) in omega (arith, k))
moving_by false false x w some = inl (omega arith)

-- the speed of a train that moves is read above 0
read_moving : (inhibited : Bool) (x w : ℕ) → 0 < w → 0 < read_speed inhibited x w
read_moving inhibited x w some =
    elim (moving_by (w == 0) inhibited x w some) [
      | inl lt ↦ lt
      | inr stands ↦ absurd (let e = eqb-true w 0 stands in omega arith)
    ]

-- ---- the acceleration

at_most_40 : (z : ℤ) → z ≤ℤ pos 40 → a_est1 z ≤ 40
at_most_40 (pos a) h = omega (arith, ints)
at_most_40 (negsuc a) h = omega arith

gentle_accel : (x : ℕ) → a_est1 (pos (x % 61) -ℤ pos 20) ≤ 40
gentle_accel x =
    let less = mod-lt x {m = 61} (omega arith) in at_most_40 (pos (x % 61) -ℤ pos 20) (omega (arith, ints, less))

-- every reading of the drive says enough of its train
pub is_read : (d : TrainAndTrack) (time x : ℕ) (t : TrueTrain) →
    IsReadOf d t (reading_by d.national.inhibit_under_reading time x t)
unfolding reading_by
is_read d time x t =
    let inhibited = d.national.inhibit_under_reading in
    record {
      front = above t.place (x % 5_001);
      speed = fast_by (t.speed == 0) inhibited x t.speed (λ e. eqb-true t.speed 0 e);
      moving = λ some. (let h = read_moving inhibited x t.speed some in omega arith);
      gentle = gentle_accel x;
    }

-- ---- what can be reached from a reading

-- the way in both times of reaction, with one acceleration in both
far : (w v0 a tt tb : ℕ) → w ≤ v0 →
    1_000_000 * (w * (tt + tb) + 27 * a * ((tt + tb) * (tt + tb)))
    ≤ 1_000_000 * ((v0 + 27 * a * tt) * tt + ((v0 + 54 * a * tt) + 27 * a * tb) * tb)
far w v0 a tt tb le = omega (arith, mul-le-mul_left (tt + tb) le)

-- the point that the train can reach in the whole time of reaction is within D_bec and V_bec
pub reached : (b : BuildUp) (t : TrueTrain) (front : ℤ) → b.accel2 ≡ b.accel1 → t.place ≤ℤ front →
    t.speed ≤ b.speed →
    IsBounded (front +ℤ pos (d_bec b 0)) (v_bec b 0) (reach b.accel1 (b.traction + b.berem) t)
reached b t front same place speed =
    let a = b.accel1 in
    let tt = b.traction in
    let time = tt + b.berem in
    let v1 : max (b.speed + 54 * a * tt) 0 ≡ b.speed + 54 * a * tt = omega arith in
    let v2 : max (b.speed + 27 * a * tt) 0 ≡ b.speed + 27 * a * tt = omega arith in
    let h = far t.speed b.speed a tt b.berem speed in
    let fast : t.speed + 54 * a * time ≤ v_bec b 0 = rw (v1, same) (omega arith) in
    let way : 1_000_000 * (t.speed * time + 27 * a * (time * time)) ≤ d_bec b 0 = rw (v1, v2, same) h in
    record { place = omega (arith, ints); square = mul-le _ _ _ _ fast fast }
