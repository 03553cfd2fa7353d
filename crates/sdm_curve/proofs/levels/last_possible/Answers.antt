-- Where segments are few, the twelfth before the last is the first.
use Rattle.std.proofs.Common.{◌≡◌, ◌-◌, ◌*◌, length, arith}
use Rattle.sdm_curve.proofs.Sums.{sum-zero}
use Rattle.sdm_curve.proofs.levels.last_possible.Goals as goal

pub returns-clause-near : goal.returns-clause-near
returns-clause-near c =
    let m = c.args.map.now in
    let first : c.segments-2.result - 1 - 12 ≡ 0 = omega arith in
    rw first (omega (arith, sum-zero m.starts m.slopes (c.args.band * length m.starts)))
