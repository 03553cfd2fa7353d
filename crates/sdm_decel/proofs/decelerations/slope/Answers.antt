-- Both terms are small, so the bits of the sum are the sum.
use Rattle.std.proofs.Common.{◌+ℤ◌, w64, rules, arith}
use Rattle.std.proofs.lemmas.Int.{ints, to_z-of_z}
use Rattle.sdm_decel.proofs.Sizes.{IsSmall, size_of, stays}
use Rattle.sdm_decel.proofs.SlopeTerms.{slope_is}
use Rattle.sdm_decel.proofs.decelerations.slope.Goals as goal

pub returns : goal.returns
returns c =
    let s = c.scaled-scaled.result in
    let g = c.a_gradient.result in
    let s_range = c.scaled-scaled.ensures.range in
    let g_range = c.a_gradient.ensures.range in
    let small : IsSmall 205_730_400_000_000 (s +ℤ g) =
    (omega (arith, ints, s_range.0, g_range.0), omega (arith, ints, s_range.1, g_range.1)) in
    let all_is = stays (s +ℤ g) 205_730_400_000_000 small (omega arith) in
    let scaled_is =
    rw (to_z-of_z w64 c.brake-brake.result (search rules)) at c.scaled-scaled.ensures.value in
    let grad_is =
    rw (to_z-of_z w64 c.grad.result (search rules), c.grad.ensures.value, c.rotating_mass.ensures.value) at
    c.a_gradient.ensures.value in
    rw (to_z-of_z w64 s (search rules), to_z-of_z w64 g (search rules), all_is) (record {
      value = slope_is c.args.kind c.args.train.now c.args.national.now c.args.under c.args.band.now _ _ s g
          c.q_of.ensures.value c.brake-brake.ensures.value scaled_is grad_is;
      size = omega (arith, size_of (s +ℤ g) 205_730_400_000_000 small);
    })
