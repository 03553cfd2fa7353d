-- The start is the lesser of two places, each so many grains before one of a curve, and stands for the lesser of both
-- exact ones.
use Rattle.std.proofs.Common.{◌+◌, ◌∙◌, ap, arith, rules}
use Rattle.sdm_num.specs.Bounds.{Bound}
use Rattle.sdm_num.specs.Fractions.{less}
use Rattle.sdm_num.specs.Units.{distance_at}
use Rattle.sdm_rules.specs.Slopes.{meaning_of}
use Rattle.sdm_rules.specs.Curves.{exact, stepped}
use Rattle.sdm_limits.specs.Sides.{place_of}
use Rattle.sdm_limits.proofs.Places.{earlier_fine, early_before}
use Rattle.sdm_release.proofs.Places.{earlier_of_two}
use Rattle.sdm_release.proofs.start.release_start.Goals as goal

pub returns-clause-at : goal.returns-clause-at
returns-clause-at c =
    let a = c.args in
    ap place_of c.earlier.ensures.value ∙
    earlier_of_two c.less-before_eoa.result c.less-before_svl.result
    (stepped (meaning_of a.expected.now) a.sbd.now.place a.sbd.now.speed a.release)
    (stepped (meaning_of a.safe.now) a.ebd.now.place a.ebd.now.speed a.release)
    (distance_at a.release a.times.now.bs)
    (distance_at a.release (a.times.now.traction + a.times.now.berem + a.times.now.bs))
    (search rules)
    (search rules)

pub returns-clause-stands : goal.returns-clause-stands
returns-clause-stands c =
    let a = c.args in
    let sbd = exact (meaning_of a.expected.now) a.sbd.now.place a.sbd.now.speed a.release in
    let ebd = exact (meaning_of a.safe.now) a.ebd.now.place a.ebd.now.speed a.release in
    let emergency_time = a.times.now.traction + a.times.now.berem + a.times.now.bs in
    let eoa = early_before c.less-before_eoa.result sbd c.distance_at-service.result a.release a.times.now.bs
    c.distance_at-service.ensures.value (c.less-before_eoa.ensures.stands sbd c.place.ensures.stands) in
    let svl = early_before c.less-before_svl.result ebd c.distance_at-emergency.result a.release emergency_time
    c.distance_at-emergency.ensures.value (c.less-before_svl.ensures.stands ebd c.place-2.ensures.stands) in
    c.earlier.ensures.stands (less sbd (distance_at a.release a.times.now.bs))
    (less ebd (distance_at a.release emergency_time)) eoa svl

pub returns-clause-slack : goal.returns-clause-slack
returns-clause-slack c = λ grains safe expected.
    let eoa = ap (λ (b : Bound). b.slack) c.less-before_eoa.ensures.value in
    let svl = ap (λ (b : Bound). b.slack) c.less-before_svl.ensures.value in
    rw c.earlier.ensures.value (earlier_fine grains c.less-before_eoa.result c.less-before_svl.result
    (omega (arith, eoa, c.place.ensures.slack, expected)) (omega (arith, svl, c.place-2.ensures.slack, safe)))
