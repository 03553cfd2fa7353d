-- A slope has at most 16 digits.
use Rattle.std.proofs.Common.{arith, length-append}
use Rattle.sdm_certify.proofs.AddedFields.{slope_is_short}
use Rattle.sdm_certify.proofs.written_fields.add_slope.Goals as goal

pub wide-requires : goal.wide-requires
wide-requires c = rw (c.from.ensures, c.byte.ensures, length-append)
    (omega (arith, slope_is_short c.args.slope c.requires.small, c.requires.room))

pub returns-clause-short : goal.returns-clause-short
returns-clause-short c = rw (c.wide.ensures, c.from.ensures, c.byte.ensures, length-append, length-append)
    (omega (arith, slope_is_short c.args.slope c.requires.small, c.requires.room))
