-- A number of 128 bits has at most 39 digits.
use Rattle.std.proofs.Common.{arith, length-append}
use Rattle.sdm_text.proofs.Lengths.{wide_decimal_is_short}
use Rattle.sdm_certify.proofs.written_fields.add_wide.Goals as goal

pub wide-requires : goal.wide-requires
wide-requires c = rw (c.byte.ensures, length-append)
    (omega (arith, wide_decimal_is_short c.args.number (omega arith), c.requires.room))

pub returns-clause-short : goal.returns-clause-short
returns-clause-short c = rw (c.wide.ensures, c.byte.ensures, length-append, length-append)
    (omega (arith, wide_decimal_is_short c.args.number (omega arith), c.requires.room))
