use Rattle.std.proofs.Common.{arith, ◌∙◌}
use Rattle.std.proofs.lemmas.Bool.{leb-true, le-leb}
use Rattle.sdm_certify.proofs.Ways.{enough_of, enough_out, fits_product}
use Rattle.sdm_certify.proofs.steps.takes_enough.Goals as goal

pub overflow_mul-result : goal.overflow_mul-result
overflow_mul-result c =
    let product = fits_product c.from.result c.way.result (omega (arith, c.rate.ensures.small, c.from.ensures))
    c.way.ensures.small in
    omega (arith, product)

pub returns : goal.returns
returns c =
    let rate = c.from.ensures ∙ c.rate.ensures.value in (
      (λ t. enough_of _ _ c.args.from.now c.args.to.now _ rate c.way.ensures.value (leb-true _ _ t)),
      (λ h. le-leb _ _ (enough_out _ _ c.args.from.now c.args.to.now _ rate c.way.ensures.value h)),
    )
