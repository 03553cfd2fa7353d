-- As many digits as a wide number has fit.
use Rattle.std.proofs.Common.{refl, arith}
use Rattle.sdm_text.proofs.NumberDigits.{below_greater_power, one_more}
use Rattle.sdm_text.proofs.wide.wide_magnitude.Goals as goal

pub overflow_mul-number : goal.overflow_mul-number
overflow_mul-number c = omega (arith, below_greater_power _ _ 37 c.loop-count.invariant.read.small (omega arith))

pub overflow_add-number : goal.overflow_add-number
overflow_add-number c = omega (arith, below_greater_power _ _ 37 c.loop-count.invariant.read.small (omega arith))

pub loop-count-preserved : goal.loop-count-preserved
loop-count-preserved c = record {
  read = one_more _ _ _ _ _ _ c.loop-count-test.true (omega (arith, c.type_inv.digits c.loop-count.count))
      c.from-digit.ensures c.if-digit-gt9.false refl (omega (arith, c.from.ensures)) c.loop-count.invariant.read;
}
