-- A minus sign may come first; a number from 10,000 on is what it has of ten thousands, and four digits.
use Rattle.std.proofs.Common.{◌≡◌, ◌+◌, ◌++◌, ◌≤◌, length, decimal, refl, ap, arith, append_assoc}
use Rattle.std.proofs.Common.{length-append}
use Rattle.std.proofs.lemmas.Grind.{common_steps}
use Rattle.std.specs.Fmt.{signed_decimal}
use Rattle.itoa.proofs.Decimal.{decimal_four, length_four}
use Rattle.sdm_text.proofs.Lengths.{number_is_short}
use Rattle.sdm_text.proofs.rows.RowBuf.number.Goals as goal
use Rattle.sdm_text.proofs.rows.RowBuf.number.Goals.{After-unsigned_abs-n, then-n-lt0, else-n-lt0}

-- the sign that was put and the digits are the number as text
sign_put : (c : After-unsigned_abs-n) →
    c.if-n-lt0.self ++ decimal c.unsigned_abs-n.result ≡ c.args.self.now ++ signed_decimal c.args.n
sign_put c = elim c.if-n-lt0.branch [
  | then-n-lt0 w ↦ grind (arith, common_steps)
  | else-n-lt0 w ↦ grind (arith, common_steps)
]

-- there is room for the digits after the sign that was put
digits_fit : (c : After-unsigned_abs-n) → length c.if-n-lt0.self + length (decimal c.unsigned_abs-n.result) ≤ 192
digits_fit c =
    let long = ap length (sign_put c) in
    rw (← length-append) (rw long (rw length-append c.requires))

pub up_to_four-requires-then-n-lt-NINE_DIGITS-clause-room : goal.up_to_four-requires-then-n-lt-NINE_DIGITS-clause-room
up_to_four-requires-then-n-lt-NINE_DIGITS-clause-room c =
    let fits = digits_fit (goal.at.up_to_four-requires-then-n-lt-NINE_DIGITS-clause-room c).After-unsigned_abs-n in
    omega (arith, length_four c.unsigned_abs-n.result c.if-n-lt10000.false (omega arith))

pub two-requires-clause-room : goal.two-requires-clause-room
two-requires-clause-room c =
    let fits = digits_fit (goal.at.two-requires-clause-room c).After-unsigned_abs-n in
    rw (c.up_to_four-then-n-lt-NINE_DIGITS.ensures, length-append)
    (omega (arith, length_four c.unsigned_abs-n.result c.if-n-lt10000.false (omega arith)))

pub two-requires-then-n-lt-NINE_DIGITS-clause-room : goal.two-requires-then-n-lt-NINE_DIGITS-clause-room
two-requires-then-n-lt-NINE_DIGITS-clause-room c =
    let fits = digits_fit (goal.at.two-requires-then-n-lt-NINE_DIGITS-clause-room c).After-unsigned_abs-n in
    rw (c.two.ensures, c.up_to_four-then-n-lt-NINE_DIGITS.ensures, length-append, length-append)
    (omega (arith, length_four c.unsigned_abs-n.result c.if-n-lt10000.false (omega arith)))

pub returns-then-n-lt-NINE_DIGITS-clause-text : goal.returns-then-n-lt-NINE_DIGITS-clause-text
returns-then-n-lt-NINE_DIGITS-clause-text c =
    rw (
      c.two-then-n-lt-NINE_DIGITS.ensures,
      c.two.ensures,
      c.up_to_four-then-n-lt-NINE_DIGITS.ensures,
      ← sign_put (goal.at.returns-then-n-lt-NINE_DIGITS-clause-text c).After-unsigned_abs-n,
      decimal_four c.unsigned_abs-n.result c.if-n-lt10000.false (omega arith),
      append_assoc,
      append_assoc,
    ) refl

pub returns-then-n-lt10000-clause-short : goal.returns-then-n-lt10000-clause-short
returns-then-n-lt10000-clause-short c = number_is_short _ _ c.args.n c.ranges.n (grind (arith, common_steps))

pub returns-then-n-lt-NINE_DIGITS-clause-short : goal.returns-then-n-lt-NINE_DIGITS-clause-short
returns-then-n-lt-NINE_DIGITS-clause-short c =
    number_is_short _ _ c.args.n c.ranges.n (returns-then-n-lt-NINE_DIGITS-clause-text c)

pub returns-else-n-lt-NINE_DIGITS-clause-short : goal.returns-else-n-lt-NINE_DIGITS-clause-short
returns-else-n-lt-NINE_DIGITS-clause-short c = number_is_short _ _ c.args.n c.ranges.n (grind (arith, common_steps))
