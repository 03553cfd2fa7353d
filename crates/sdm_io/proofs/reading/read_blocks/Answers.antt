-- What the failed turn took comes after what was kept.
use Rattle.std.proofs.Common.{arith}
use Rattle.sdm_io.proofs.Bytes.{exactly_after, within_after}
use Rattle.sdm_io.proofs.reading.read_blocks.Goals as goal

pub returns-in-Err-clause-within : goal.returns-in-Err-clause-within
returns-in-Err-clause-within g c =
    within_after _ _ _ _ _ c.chunks.invariant.read _ _ (omega arith) c.in-Err.ensures.within

pub returns-in-Err-clause-not_above : goal.returns-in-Err-clause-not_above
returns-in-Err-clause-not_above g c other =
    within_after _ _ _ _ _ c.chunks.invariant.read _ _ (omega arith) (c.in-Err.ensures.not_above (λ is. other cc))

pub returns-in-Err-clause-one_above : goal.returns-in-Err-clause-one_above
returns-in-Err-clause-one_above g c is =
    exactly_after _ _ _ _ _ c.chunks.invariant.read _ _ (omega arith) (c.in-Err.ensures.one_above cc)
