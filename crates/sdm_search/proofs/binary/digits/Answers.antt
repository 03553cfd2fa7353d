-- The digits are those that don't lead with zeros.
use Rattle.std.proofs.Common.{◌≡◌, ◌-◌, arith}
use Rattle.std.specs.Int.{leading_zeros}
use Rattle.std.proofs.Common.{w64}
use Rattle.std.proofs.lemmas.Nat.{leading_length}
use Rattle.sdm_search.proofs.binary.digits.Goals as goal

pub returns-clause-enough : goal.returns-clause-enough
returns-clause-enough c =
    let e = leading_length 64 c.args.n (omega arith) in
    let digits : 64 - leading_zeros w64 c.args.n ≡ e.0 = omega (arith, e.1) in
    rw digits e.2

pub returns-clause-few : goal.returns-clause-few
returns-clause-few c =
    let e = leading_length 64 c.args.n (omega arith) in
    let digits : 64 - leading_zeros w64 c.args.n ≡ e.0 = omega (arith, e.1) in
    rw digits e.3
