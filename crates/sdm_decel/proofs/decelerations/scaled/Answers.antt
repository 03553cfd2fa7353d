-- The product is small, so its bits are the product.
use Rattle.std.proofs.Common.{◌≡◌, ◌*◌, ◌*ℤ◌, pos, w64, to_z, of_z, rules, refl, ◌∙◌}
use Rattle.std.proofs.lemmas.Int.{to_z-of_z}
use Rattle.sdm_decel.proofs.Sizes.{fits, product_small, stays}
use Rattle.sdm_decel.proofs.decelerations.scaled.Goals as goal

pub overflow_mul-result : goal.overflow_mul-result
overflow_mul-result g c =
    let a_is : to_z w64 (of_z w64 c.from.result) ≡ pos c.args.a = to_z-of_z w64 c.from.result (search rules)
    ∙ c.from.ensures in
    let small = product_small c.args.a c.args.b g.row.M g.row.N c.requires.first c.requires.second in
    rw (a_is, to_z-of_z w64 c.args.b (search rules))
    (fits (pos c.args.a *ℤ c.args.b) (g.row.M * g.row.N) small c.requires.fits)

pub returns : goal.returns
returns g c =
    let a_is : to_z w64 (of_z w64 c.from.result) ≡ pos c.args.a = to_z-of_z w64 c.from.result (search rules)
    ∙ c.from.ensures in
    let small = product_small c.args.a c.args.b g.row.M g.row.N c.requires.first c.requires.second in
    let is = stays (pos c.args.a *ℤ c.args.b) (g.row.M * g.row.N) small c.requires.fits in
    rw (a_is, to_z-of_z w64 c.args.b (search rules), is) (record { value = refl; range = small })
