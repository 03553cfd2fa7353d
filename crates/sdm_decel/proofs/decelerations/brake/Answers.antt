-- Both terms are small, so the bits of the difference are the difference.
use Rattle.std.proofs.Common.{◌≡◌, ℤ, ◌-ℤ◌, ◌*ℤ◌, w64, to_z, of_z, rules, ap, arith}
use Rattle.std.proofs.lemmas.Int.{ints, to_z-of_z}
use Rattle.sdm_rules.specs.Decelerations.{cm_s2}
use Rattle.sdm_decel.proofs.decelerations.brake.Goals as goal

pub returns-in-Normal : goal.returns-in-Normal
returns-in-Normal c =
    let n = c.args.band.now.normal in
    let k = c.kn_term.result in
    let n_range = c.requires.normal in
    let k_range = c.kn_term.ensures.range in
    let brake_is : to_z w64 (of_z w64 (cm_s2 *ℤ n)) ≡ cm_s2 *ℤ n = omega (arith, ints, n_range.0, n_range.1) in
    let all_is : to_z w64 (of_z w64 (cm_s2 *ℤ n -ℤ k)) ≡ cm_s2 *ℤ n
    -ℤ k = omega (arith, ints, n_range.0, n_range.1, k_range.0, k_range.1) in
    let kn_is = rw (to_z-of_z w64 c.grad.result (search rules), c.grad.ensures.value) at c.kn_term.ensures.value in
    rw (to_z-of_z w64 n (search rules), to_z-of_z w64 k (search rules), brake_is, all_is) (record {
      value = rw (c.in-Normal.is) (ap (λ (x : ℤ). cm_s2 *ℤ n -ℤ x) kn_is);
      range = (omega (arith, ints, n_range.0, k_range.1), omega (arith, ints, n_range.1, k_range.0));
    })
