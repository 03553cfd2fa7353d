use Rattle.std.proofs.Common.{arith, ◌∙◌}
use Rattle.std.proofs.lemmas.Int.{ints}
use Rattle.std.proofs.lemmas.Bool.{le-leb}
use borrow.Author.Tests.{leb-true}
use Rattle.sdm_motion.proofs.Enough.{enough_of, enough_out, fits_product}
use Rattle.sdm_motion.proofs.steps.brakes.Goals as goal

pub overflow_mul-result : goal.overflow_mul-result
overflow_mul-result c = let product = fits_product c.from.result c.distance_to.result
    (omega (arith, c.rate.ensures.small, c.from.ensures)) c.distance_to.ensures.small in omega (arith, product)

pub returns : goal.returns
returns c =
    let rate = c.from.ensures ∙ c.rate.ensures.value in (
      (λ t. enough_of _ _ _ _ _ _ _ _ _ rate (omega (
        arith,
        ints,
        c.distance_to.ensures.value,
      )) c.energy_of_change-energy.ensures.value c.requires.forward c.requires.slower
          (leb-true _ _ t)),
      (λ h. le-leb _ _ (enough_out _ _ _ _ _ _ _ _ _ rate
          (omega (arith, ints, c.distance_to.ensures.value)) c.energy_of_change-energy.ensures.value h)),
    )
