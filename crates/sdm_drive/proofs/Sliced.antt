-- One ds before the brakes work: the way that is left to the train, with its acceleration over the time that is left,
-- is used up by the ds and what is left after it.
use Rattle.std.proofs.Common.{ℕ, ℤ, suc, ◌+◌, ◌*◌, ◌≤◌, ◌≤ℤ◌, arith}
use Rattle.std.proofs.lemmas.Int.{ints}
use Rattle.std.proofs.lemmas.Nat.{mul-le}
use Rattle.std.proofs.Math.Nat.{mul-le-mul_left}
use Rattle.sdm_num.specs.Fractions.{whole}
use Rattle.sdm_num.proofs.Order.{at_most_trans, whole_at_most}
use Rattle.sdm_rules.specs.declared.motions.Point.{Point}
use Rattle.sdm_rules.specs.Slopes.{Slopes, IsUsable}
use Rattle.sdm_rules.specs.Curves.{exact_at}
use Rattle.sdm_laws.specs.MotionLaws.{IsWithinCurve}
use Rattle.sdm_laws.proofs.BrakeCurves.CurveOrder.{exact_positive, exact_falls}
use Rattle.sdm_drive.specs.DriveLaws.{LawOfReactionDs, reach}

-- a point that is no farther and no faster is within the curve too
pub within_before : (on : Slopes) (f : ℤ) (w : ℕ) (x y : Point) → IsUsable on → y.place ≤ℤ x.place →
    y.square ≤ x.square → IsWithinCurve on 1 f w x → IsWithinCurve on 1 f w y
within_before on f w x y usable place square within =
    let from = exact_at on 1 f w x.square in
    let to = exact_at on 1 f w y.square in
    let here = at_most_trans (whole y.place) (whole x.place) from (omega arith) (whole_at_most y.place x.place place)
    within in
    at_most_trans (whole y.place) from to (exact_positive on 1 f w x.square usable (omega arith)) here
    (exact_falls on 1 f w y.square x.square usable (omega arith) square)

-- the way of a ds and that of the time after it
farther : (w w' a h way : ℕ) → w' ≤ w + 54 * a → 2 * way ≤ 1_000_000 * (w + w') →
    way + 1_000_000 * (w' * h + 27 * a * (h * h)) ≤ 1_000_000 * (w * suc h + 27 * a * (suc h * suc h))
farther w w' a h way gains moves = omega (arith, mul-le-mul_left h gains)

-- the speed after a ds and the time after it
faster : (w w' a h : ℕ) → w' ≤ w + 54 * a → w' + 54 * a * h ≤ w + 54 * a * suc h
faster w w' a h gains = omega arith

-- what the train can reach after a ds it could reach before
pub sliced : LawOfReactionDs
sliced on f w a h t t' usable s within =
    let gains : t'.speed ≤ t.speed + 54 * a = (let g = s.slice.gains in omega arith) in
    let moves : 2 * s.length ≤ 1_000_000 * (t.speed + t'.speed) = (let g = s.slice.moves in omega arith) in
    let far = farther t.speed t'.speed a h s.length gains moves in
    let fast = faster t.speed t'.speed a h gains in
    let moved = s.moved in
    within_before on f w (reach a (suc h) t) (reach a h t') usable (omega (arith, ints)) (mul-le _ _ _ _ fast fast)
    within
