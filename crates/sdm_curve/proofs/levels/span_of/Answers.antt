-- The first segment begins at no level.
use Rattle.std.proofs.Common.{◌*◌, length, arith}
use Rattle.sdm_curve.proofs.Sums.{sum-zero}
use Rattle.sdm_curve.proofs.levels.span_of.Goals as goal

pub returns-then-past-low-clause-begun : goal.returns-then-past-low-clause-begun
returns-then-past-low-clause-begun c =
    let m = c.args.map.now in
    omega (arith, sum-zero m.starts m.slopes (c.args.band * length m.starts))

pub returns-then-key-sum-clause-begun : goal.returns-then-key-sum-clause-begun
returns-then-key-sum-clause-begun c =
    let m = c.args.map.now in
    omega (arith, sum-zero m.starts m.slopes (c.args.band * length m.starts))

pub returns-then-sum-key-clause-begun : goal.returns-then-sum-key-clause-begun
returns-then-sum-key-clause-begun c =
    let m = c.args.map.now in
    omega (arith, sum-zero m.starts m.slopes (c.args.band * length m.starts))
