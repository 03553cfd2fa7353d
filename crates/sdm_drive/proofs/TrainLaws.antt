-- What the code of the true train does is what its definitions say: where a search found the slope ahead, and where the
-- train stands.
use Rattle.std.proofs.Common.{◌≡◌, ℕ, ℤ, pos, ◌+ℤ◌, ◌≤ℤ◌, ◌-◌, ◌*◌, ◌≤◌, nat_le, arith}
use Rattle.std.proofs.lemmas.Int.{ints}
use Rattle.std.proofs.lemmas.Bool.{cond_both}
use Rattle.std.proofs.Math.Nat.{div-le_of_le-mul}
use Rattle.sdm_rules.specs.Cells.{cell_of}
use Rattle.sdm_rules.specs.Curves.{cell_start}
use Rattle.sdm_rules.specs.Slopes.{Slopes}
use Rattle.sdm_laws.proofs.OneBand.Cells.{cell_low, cell_reaches}
use Rattle.sdm_curve.specs.Greatest.{IsGreatestSlope}
use Rattle.sdm_drive.specs.Drive.{TrueTrain, after_braking, after_coasting, slope_ahead, speed_loss, stopping_distance}
use Rattle.sdm_drive.proofs.Greatest.{greatest_is}

-- a train that coasts doesn't come to an earlier cell
not_back : (t : TrueTrain) → cell_of t.place ≤ℤ cell_of (after_coasting t).place
not_back t =
    let cell = cell_of t.place in
    let start : cell_start 1 cell ≤ℤ t.place = cell_low 1 t.place (omega arith) in
    cell_reaches 1 cell (after_coasting t).place (omega arith) (omega (arith, ints))

-- what a search over the cells ahead found is the slope ahead
pub found_ahead : (on : Slopes) (t : TrueTrain) (from to : ℤ) (greatest : ℕ) → from ≡ cell_of t.place →
    to ≡ cell_of (after_coasting t).place → IsGreatestSlope on from to greatest → greatest ≡ slope_ahead on t
found_ahead on t from to greatest from_is to_is h =
    greatest_is on (cell_of t.place) (cell_of (after_coasting t).place) greatest (not_back t) (rw (from_is, to_is) at h)

-- braking, a train that stands stays
pub stays : (on : Slopes) (t : TrueTrain) → t.speed ≡ 0 → t ≡ after_braking on t
unfolding after_braking stopping_distance
stays on t stands =
    let a = slope_ahead on t in
    let loss = speed_loss on.q a in
    cond_both (nat_le loss t.speed)
    (record { place = t.place +ℤ pos (500_000 * (2 * t.speed - loss)); speed = t.speed - loss })
    (record { place = t.place +ℤ pos (stopping_distance on.q a t.speed); speed = 0 })
    (λ (t' : TrueTrain). t ≡ t')
    (λ _.
    let place : t.place ≡ t.place +ℤ pos (500_000 * (2 * t.speed - loss)) = omega (arith, ints) in
    let speed : t.speed ≡ t.speed - loss = omega arith in
    λ k. record { place = place k; speed = speed k })
    (λ _.
    let nothing : 5_000_000_000_000 * on.q * (t.speed * t.speed) ≡ 0 = rw stands (omega arith) in
    let short : stopping_distance on.q a t.speed ≤ 0 = div-le_of_le-mul (27 * a) (omega (arith, nothing)) in
    let place : t.place ≡ t.place +ℤ pos (stopping_distance on.q a t.speed) = omega (arith, ints, short) in
    λ k. record { place = place k; speed = stands k })
