-- As many digits as are looked at fit, also one more than a number has.
use Rattle.std.proofs.Common.{◌≡◌, ◌+◌, ◌-◌, ◌<◌, length, length-drop, length-take, take, drop, refl, arith}
use Rattle.std.proofs.lemmas.List.{get_or-take, take_all}
use Rattle.sdm_formats.specs.Numbers.{most_digits}
use Rattle.sdm_text.proofs.NumberDigits.{below_greater_power, begins_with_digits, one_more}
use Rattle.sdm_text.proofs.numbers.split_digits.Goals as goal

pub overflow_mul-number : goal.overflow_mul-number
overflow_mul-number c = omega (
  arith,
  below_greater_power _ _ most_digits c.loop-count.invariant.read.small
      (omega (arith, c.min.ensures, length-take c.min.result c.args.line.now)),
)

pub overflow_add-number : goal.overflow_add-number
overflow_add-number c = omega (
  arith,
  below_greater_power _ _ most_digits c.loop-count.invariant.read.small
      (omega (arith, c.min.ensures, length-take c.min.result c.args.line.now)),
)

pub loop-count-preserved : goal.loop-count-preserved
loop-count-preserved c =
    let line = c.args.line.now in
    let at = c.loop-count.count in
    let within : at < c.min.result = omega (arith, c.loop-count-test.true, length-take c.min.result line) in
    record {
      read = one_more _ _ _ _ _ _ c.loop-count-test.true
          (rw (get_or-take c.min.result line at 0 within) (omega (arith, c.type_inv.line at)))
          c.from-digit.ensures c.if-digit-gt9.false refl refl c.loop-count.invariant.read;
    }

pub returns-then-count-gt0-clause-number : goal.returns-then-count-gt0-clause-number
returns-then-count-gt0-clause-number c =
    let line = c.args.line.now in
    let next = c.loop-count.count + 1 in
    let rest : take (length line - next) (drop next line)
    ≡ drop next line = take_all _ _ (omega (arith, length-drop next line)) in
    rw rest (begins_with_digits line c.min.result c.loop-count.count c.loop-count.number c.loop-count-test.true
    (omega (arith, c.min.ensures)) c.loop-count.invariant.read.digits c.if-count-gt0.true c.if-byte-eq44.true
    c.loop-count.invariant.read.writes)

pub returns-then-count-gt0-clause-fits : goal.returns-then-count-gt0-clause-fits
returns-then-count-gt0-clause-fits c = below_greater_power _ _ most_digits c.loop-count.invariant.read.small
    (omega (arith, c.min.ensures, length-take c.min.result c.args.line.now))
