-- After i digits the number is below 10^i, so that it fits after as many as a number has.
use Rattle.std.proofs.Common.{◌≡◌, ◌+◌, ◌-◌, ◌*◌, ◌%◌, ◌/◌, ◌≤◌, length, refl, arith}
use Rattle.sdm_formats.specs.Numbers.{most_digits}
use Rattle.sdm_text.proofs.NumberDigits.{IsRead, below_greater_power, less_zero, none_read, one_more}
use Rattle.sdm_text.proofs.numbers.magnitude.Goals as goal
use Rattle.sdm_text.proofs.numbers.magnitude.Goals.{then-at-eq1, else-at-eq1}

pub loop-at-init : goal.loop-at-init
loop-at-init c =
    let ds = c.args.digits.now in
    record {
      within = omega arith;
      pairs = (length ds / 2, omega arith);
      read = elim c.if-at-eq1.branch [
        | then-at-eq1 w ↦ one_more ds 0 0 _ _ _ (omega arith) (omega (arith, c.type_inv.digits 0)) w.from.ensures
            (rw w.number-is at c.if-number-gt9.false) w.if-at-eq1.true (omega (arith, w.number-is)) (none_read ds)
        | else-at-eq1 w ↦ let even : length ds % 2 ≡ 0 =
            omega (arith, w.if-at-eq1.false) in rw (even, w.number-is) (none_read ds)
      ];
    }

pub overflow_mul-number : goal.overflow_mul-number
overflow_mul-number c = omega
    (arith, below_greater_power _ _ 16 c.loop-at.invariant.read.small (omega (arith, c.loop-at.invariant.pairs.1)))

pub overflow_add-number : goal.overflow_add-number
overflow_add-number c = omega
    (arith, below_greater_power _ _ 16 c.loop-at.invariant.read.small (omega (arith, c.loop-at.invariant.pairs.1)))

pub overflow_add-number-in-loop-at : goal.overflow_add-number-in-loop-at
overflow_add-number-in-loop-at c = omega
    (arith, below_greater_power _ _ 16 c.loop-at.invariant.read.small (omega (arith, c.loop-at.invariant.pairs.1)))

pub loop-at-preserved : goal.loop-at-preserved
loop-at-preserved c =
    let ds = c.args.digits.now in
    let h = c.loop-at.invariant in
    let at = c.loop-at.at in
    let two : at + 2 ≤ length ds = omega (arith, h.pairs.1) in
    let tens = one_more ds at c.loop-at.number _ _ _ (omega arith) (omega (arith, c.type_inv.digits at))
    c.from-tens.ensures c.if-tens-gt9.false refl refl h.read in
    let read : IsRead ds (at + 2)
    (100 * c.loop-at.number + 10 * less_zero c.from-tens.result + less_zero c.from-ones.result) =
    one_more ds (at + 1) _ _ _ _ (omega arith) (omega (arith, c.type_inv.digits (at + 1)))
    c.from-ones.ensures c.if-ones-gt9.false (omega arith) (omega arith) tens in
    record { within = two; pairs = (h.pairs.0 - 1, omega (arith, h.pairs.1)); read = read }

pub returns-clause-fits : goal.returns-clause-fits
returns-clause-fits c = below_greater_power _ _ most_digits c.loop-at.invariant.read.small (omega arith)
