-- A number below 10 is one digit, another below 100 is two, and one from 100 on is what it has of hundreds, and two
-- digits.
use Rattle.std.proofs.Common.{◌/◌, refl, arith, append_assoc, length-append}
use Rattle.std.proofs.lemmas.Fmt.{decimal_digit}
use Rattle.itoa.proofs.Decimal.{decimal_two, decimal_pair, length_one, length_two, length_pair}
use Rattle.sdm_text.proofs.rows.RowBuf.up_to_four.Goals as goal

pub byte-requires : goal.byte-requires
byte-requires c = omega (arith, length_one c.args.n c.if-n-lt10.true)

pub two-requires-clause-room : goal.two-requires-clause-room
two-requires-clause-room c = omega (arith, length_two c.args.n c.if-n-lt10.false c.if-n-lt100.true)

pub byte-requires-then-n-lt1000 : goal.byte-requires-then-n-lt1000
byte-requires-then-n-lt1000 c = omega (arith, length_pair c.args.n c.if-n-lt100.false (omega arith))

pub two-requires-then-n-lt1000-clause-room : goal.two-requires-then-n-lt1000-clause-room
two-requires-then-n-lt1000-clause-room c = rw (c.byte-then-n-lt1000.ensures, length-append)
    (omega (arith, length_pair c.args.n c.if-n-lt100.false (omega arith), length_one (c.args.n / 100) (omega arith)))

pub two-requires-else-n-lt1000-clause-room : goal.two-requires-else-n-lt1000-clause-room
two-requires-else-n-lt1000-clause-room c = omega (arith, length_pair c.args.n c.if-n-lt100.false (omega arith))

pub two-requires-else-n-lt1000-2-clause-room : goal.two-requires-else-n-lt1000-2-clause-room
two-requires-else-n-lt1000-2-clause-room c = rw (c.two-else-n-lt1000.ensures, length-append)
    (omega (
      arith,
      length_pair c.args.n c.if-n-lt100.false (omega arith),
      length_two (c.args.n / 100) (omega arith) (omega arith),
    ))

pub returns-then-n-lt10 : goal.returns-then-n-lt10
returns-then-n-lt10 c = rw (c.byte.ensures, decimal_digit c.args.n c.if-n-lt10.true) refl

pub returns-then-n-lt100 : goal.returns-then-n-lt100
returns-then-n-lt100 c = rw (c.two.ensures, decimal_two c.args.n c.if-n-lt10.false c.if-n-lt100.true) refl

pub returns-then-n-lt1000 : goal.returns-then-n-lt1000
returns-then-n-lt1000 c =
    rw (
      c.two-then-n-lt1000.ensures,
      c.byte-then-n-lt1000.ensures,
      decimal_pair c.args.n c.if-n-lt100.false (omega arith),
      decimal_digit (c.args.n / 100) (omega arith),
      append_assoc,
    ) refl

pub returns-else-n-lt1000 : goal.returns-else-n-lt1000
returns-else-n-lt1000 c =
    rw (
      c.two-else-n-lt1000-2.ensures,
      c.two-else-n-lt1000.ensures,
      decimal_pair c.args.n c.if-n-lt100.false (omega arith),
      decimal_two (c.args.n / 100) (omega arith) (omega arith),
      append_assoc,
    ) refl
