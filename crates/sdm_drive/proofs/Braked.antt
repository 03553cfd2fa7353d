-- One braked ds is one use of the law of one stretch at scale 1, with the greatest slope ahead: the speed falls by at
-- least what that slope asks, since it was rounded up, and a stop comes no later, since its distance was rounded down.
-- The way is at most that of coasting, so the slope is the greatest of all cells that are passed.
use Rattle.std.proofs.Common.{◌≡◌, ℕ, ℤ, pos, nat_le, ◌+◌, ◌-◌, ◌*◌, ◌<◌, ◌≤◌, ◌+ℤ◌, refl, subst, sym, arith}
use Rattle.std.proofs.lemmas.Int.{ints}
use Rattle.std.proofs.lemmas.Bool.{leb-true, leb-false, cond_both}
use Rattle.std.proofs.lemmas.Nat.{mul-le}
use Rattle.std.proofs.Math.Nat.{mul-le-mul_left, mul-div-le, div-le_of_le-mul, lt-mul-div-succ}
use Rattle.sdm_num.proofs.Ints.{scale-+ℤ}
use Rattle.sdm_rules.specs.Slopes.{Slopes}
use Rattle.sdm_rules.specs.Motion.{BrakesAtLeast}
use Rattle.sdm_laws.specs.MotionLaws.{IsSteepest}
use Rattle.sdm_laws.proofs.Moving.Stretch.{stretch}
use Rattle.sdm_drive.specs.Drive.{TrueTrain, div_up, slope_ahead, speed_loss, stopping_distance}
use Rattle.sdm_drive.specs.Drive.{after_braking_with, after_braking}
use Rattle.sdm_drive.specs.DriveLaws.{LawOfBrakedDs, point_of}
use Rattle.sdm_drive.proofs.Greatest.{steepest_ahead, ahead_positive}

-- ---- rounding

-- a quotient that is rounded up is enough
up_enough : (a b : ℕ) → 0 < b → a ≤ b * div_up a b
up_enough a b b_pos = let h = lt-mul-div-succ (a + (b - 1)) b_pos in omega (arith, h)

-- and no lesser number is
up_least : (a b w : ℕ) → 0 < b → w < div_up a b → b * w < a
up_least a b w b_pos lt =
    let h = mul-div-le (a + (b - 1)) b in
    let g : b * (w + 1) ≤ b * div_up a b = mul-le-mul_left b (omega arith) in
    omega (arith, h, g)

-- the speed falls by at least what the slope asks
loss_enough : (q a : ℕ) → 0 < q → 27 * a ≤ 10_000_000 * q * speed_loss q a
unfolding speed_loss
loss_enough q a q_pos = up_enough (27 * a) (10_000_000 * q) (omega arith)

-- a lesser speed is lost with less than the slope
loss_least : (q a w : ℕ) → 0 < q → w < speed_loss q a → 10_000_000 * q * w < 27 * a
unfolding speed_loss
loss_least q a w q_pos lt = up_least (27 * a) (10_000_000 * q) w (omega arith) lt

-- ---- one ds over plain numbers

-- on the way of a fall of speed the slope uses no more energy than the fall gives
slows_enough : (q a n v : ℕ) → 27 * a ≤ 10_000_000 * q * n →
    27 * a * (500_000 * (n + 2 * v)) ≤ 5_000_000_000_000 * q * (n * (n + 2 * v))
slows_enough q a n v h = omega (arith, mul-le-mul_left (500_000 * (n + 2 * v)) h)

-- a train that a slope stops in a ds comes no farther than with half its speed
pub stop_near : (q a w : ℕ) → 0 < q → w < speed_loss q a → stopping_distance q a w ≤ 500_000 * w
unfolding stopping_distance
stop_near q a w q_pos lt =
    let h : 10_000_000 * q * w ≤ 27 * a = (let k = loss_least q a w q_pos lt in omega arith) in
    div-le_of_le-mul (27 * a) (omega (arith, mul-le-mul_left (500_000 * w) h))

-- on the distance of a stop the slope uses no more energy than the speed had
stops_enough : (q a w : ℕ) → 27 * a * stopping_distance q a w ≤ 5_000_000_000_000 * q * (w * w)
unfolding stopping_distance
stops_enough q a w = mul-div-le (5_000_000_000_000 * q * (w * w)) (27 * a)

-- what a ds of braking with a slope does
pub record IsBraked (q a : ℕ) (t t' : TrueTrain) : Type 0 where
  pub way : ℕ
  pub moved : t'.place ≡ t.place +ℤ pos way
  pub slower : t'.speed ≤ t.speed
  pub mean : 2 * way ≤ 1_000_000 * (t.speed + t'.speed)
  pub enough : 27 * a * way ≤ 5_000_000_000_000 * q * (t.speed * t.speed - t'.speed * t'.speed)

-- the energy of a fall by `n` from `w` to `v`
falls : (q a n v w : ℕ) → 27 * a ≤ 10_000_000 * q * n → w ≡ n + v →
    27 * a * (500_000 * (2 * w - n)) ≤ 5_000_000_000_000 * q * (w * w - v * v)
falls q a n v w h e =
    let way : 2 * w - n ≡ n + 2 * v = omega arith in
    let square : w * w - v * v ≡ n * (n + 2 * v) =
    (let s : (n + v) * (n + v) ≡ n * (n + 2 * v) + v * v = omega arith in rw e (omega (arith, s))) in
    rw (way, square) (slows_enough q a n v h)

-- so it does, whether the speed falls or the train stops
pub braked_with : (q a : ℕ) (t : TrueTrain) → 0 < q → IsBraked q a t (after_braking_with q a t)
braked_with q a t q_pos =
    cond_both (nat_le (speed_loss q a) t.speed) _ _ (λ (t' : TrueTrain). IsBraked q a t t')
    (λ e.
    let n = speed_loss q a in
    let le = leb-true n t.speed e in
    record {
      way = 500_000 * (2 * t.speed - n);
      moved = refl;
      slower = omega arith;
      mean = omega arith;
      enough = falls q a n (t.speed - n) t.speed (loss_enough q a q_pos) (omega arith);
    })
    (λ e.
    let near = stop_near q a t.speed q_pos (leb-false (speed_loss q a) t.speed e) in
    let all : t.speed * t.speed - 0 * 0 ≡ t.speed * t.speed = omega arith in
    record {
      way = stopping_distance q a t.speed;
      moved = refl;
      slower = omega arith;
      mean = omega arith;
      enough = rw all (stops_enough q a t.speed);
    })

-- ---- the law

at_least : (on : Slopes) (a : ℕ) (t t' : TrueTrain) → IsBraked on.q a t t' →
    BrakesAtLeast on a t.place (t.speed * t.speed) t'.place (t'.speed * t'.speed)
at_least on a t t' b =
    let moved = b.moved in
    let slower = b.slower in
    let enough = b.enough in
    let way = scale-+ℤ (27 * a) t.place (pos b.way) in
    record {
      forward = omega (arith, ints);
      slower = mul-le t'.speed t'.speed t.speed t.speed slower slower;
      enough = rw (moved, way) (omega (arith, ints));
    }

-- a train within a curve is within it after a ds of braking
pub braked : LawOfBrakedDs
unfolding after_braking
braked on f w t usable within =
    let a = slope_ahead on t in
    let t' = after_braking_with on.q a t in
    let b = braked_with on.q a t usable.unit in
    let slower = b.slower in
    let mean = b.mean in
    let steep = subst (λ (p : ℤ).
    IsSteepest on 1 a (point_of t) (record { place = p; square = t'.speed * t'.speed })) (sym b.moved)
    (steepest_ahead on t b.way (t'.speed * t'.speed) (omega arith)) in
    stretch on 1 f w a (point_of t) (point_of t') usable (omega arith) (ahead_positive on t usable) steep
    (at_least on a t t' b) within
