-- Where the peer fails, it took a part of the answer to a line that is too long.
use Rattle.std.proofs.Common.{◌∙◌, sym}
use Rattle.sdm_live.proofs.Along.{along_map}
use Rattle.sdm_live.proofs.Taking.{full_line, on_err_map, one_too_many_part}
use Rattle.sdm_live.proofs.lines.take_byte.Goals as goal

pub returns-clause-err : goal.returns-clause-err
returns-clause-err g c =
    on_err_map c.hand_over.result
    (λ a. along_map _ _ _ _
    (λ h k part. one_too_many_part g.S.Step.rules c.args.step.now c.args.line.now c.args.byte
    c.too_long.result.now (sym c.ends_line.ensures ∙ c.if-ends_line.false)
    (sym c.is_over.ensures ∙ c.if-is_over.false)
    (full_line _ _ c.len.ensures c.if-len-lt-LONGEST_LINE.false) c.too_long.ensures h k part)
    a)
    c.hand_over.ensures.err
