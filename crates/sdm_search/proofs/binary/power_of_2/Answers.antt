-- It has no more than 64 digits.
use Rattle.std.proofs.Common.{◌≡◌, ◌^◌, ◌*◌, ◌<◌, arith}
use Rattle.std.proofs.Math.Nat.{mod-eq_of_lt}
use Rattle.std.proofs.Math.Pow.{pow-lt}
use Rattle.sdm_search.proofs.binary.power_of_2.Goals as goal

pub returns-clause-value : goal.returns-clause-value
returns-clause-value c =
    let small : 2 ^ c.args.exponent < 18_446_744_073_709_551_616 = pow-lt c.requires in
    let once : 1 * 2 ^ c.args.exponent ≡ 2 ^ c.args.exponent = omega arith in
    rw once (mod-eq_of_lt small)
