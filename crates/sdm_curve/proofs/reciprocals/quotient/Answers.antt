use Rattle.std.proofs.Common.{◌∙◌, sym, refl, arith}
use Rattle.sdm_curve.proofs.Quotients.{guess_fits, zeros_fit, guessed_rest, quotient_is, quotient_is_more}
use Rattle.sdm_curve.proofs.reciprocals.quotient.Goals as goal
use Rattle.sdm_curve.proofs.reciprocals.quotient.Goals.{then-is_less, else-is_less}

pub overflow_sub-shift : goal.overflow_sub-shift
overflow_sub-shift c = zeros_fit c.args.divisor c.requires.low c.requires.high

pub returns : goal.returns
returns c =
    let parts = guessed_rest c.args.n c.args.divisor c.from-3.result c.from-2.result _ (omega arith)
    (guess_fits _ c.from.result _ (omega arith) c.from-2.ensures)
    c.requires.high c.from-3.ensures refl (omega arith) in
    c.from-6.ensures ∙ (elim c.if-is_less.branch [
      | then-is_less w ↦ w.from-is ∙ sym c.from-2.ensures ∙ quotient_is c.args.n c.args.divisor c.from-2.result _ parts
          (omega arith)
      | else-is_less w ↦ (omega (
        arith,
        w.from-is,
        c.from-2.ensures,
        quotient_is_more c.args.n c.args.divisor c.from-2.result _ parts
            (omega arith) (omega arith),
      ))
    ])
