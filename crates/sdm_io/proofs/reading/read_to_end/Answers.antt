-- What a failed reading took comes after what was kept.
use Rattle.std.proofs.Common.{arith}
use Rattle.sdm_io.proofs.Bytes.{exactly_after, within_after}
use Rattle.sdm_io.proofs.reading.read_to_end.Goals as goal

pub returns-in-Err-read_blocks-clause-within : goal.returns-in-Err-read_blocks-clause-within
returns-in-Err-read_blocks-clause-within g c =
    within_after _ _ _ _ _ c.large.invariant.read _ _ (omega arith) c.in-Err-read_blocks.ensures.within

pub returns-in-Err-read_blocks-clause-not_above : goal.returns-in-Err-read_blocks-clause-not_above
returns-in-Err-read_blocks-clause-not_above g c other =
    within_after _ _ _ _ _ c.large.invariant.read _ _ (omega arith)
    (c.in-Err-read_blocks.ensures.not_above (λ is. other cc))

pub returns-in-Err-read_blocks-clause-one_above : goal.returns-in-Err-read_blocks-clause-one_above
returns-in-Err-read_blocks-clause-one_above g c is =
    exactly_after _ _ _ _ _ c.large.invariant.read _ _ (omega arith) (c.in-Err-read_blocks.ensures.one_above cc)
