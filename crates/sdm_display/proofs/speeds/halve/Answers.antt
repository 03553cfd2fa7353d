-- Halving ends where the greater speed is the next one.
use Rattle.std.proofs.Common.{◌≡◌, ◌≤◌, ◌+◌, arith}
use Rattle.sdm_display.proofs.Halving.{halved}
use Rattle.sdm_display.proofs.speeds.halve.Goals as goal

pub returns-after-loop-turn-clause-value : goal.returns-after-loop-turn-clause-value
returns-after-loop-turn-clause-value g c =
    let end = c.loop-turn in
    let kept = end.invariant in
    let none : end._turn ≡ 0 = omega (arith, c.loop-turn-test.false) in
    let next : end.past ≤ end.within + 1 = rw none at kept.width in
    halved (g.P.Passed.passed c.args.places.now c.args.limit) c.requires.upwards end.within end.past
    (omega (arith, next, kept.apart)) (omega (arith, kept.apart, kept.top)) kept.within kept.past

pub returns-then-past-within-le1-clause-value : goal.returns-then-past-within-le1-clause-value
returns-then-past-within-le1-clause-value g c =
    let end = c.loop-turn in
    let kept = end.invariant in
    let next = c.if-past-within-le1.true in
    halved (g.P.Passed.passed c.args.places.now c.args.limit) c.requires.upwards end.within end.past
    (omega (arith, next, kept.apart)) (omega (arith, kept.apart, kept.top)) kept.within kept.past
