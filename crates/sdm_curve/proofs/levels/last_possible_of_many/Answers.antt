use Rattle.std.proofs.Common.{◌≡◌, arith}
use Rattle.sdm_curve.proofs.Gaps.{near_enough}
use Rattle.sdm_curve.proofs.levels.last_possible_of_many.Goals as goal

pub returns-clause-near : goal.returns-clause-near
returns-clause-near c =
    let left = c.halves.invariant in
    let end : c.halves._turn ≡ 0 = omega (arith, c.halves-test.false) in
    near_enough c.args.map.now c.args.band c.halves.low c.halves.past c.args.level c.span_of-low.ensures.kept
    c.requires.known_band (omega (arith, left.some, left.known)) (omega (arith, rw end at left.most))
    (omega (arith, left.begun))
