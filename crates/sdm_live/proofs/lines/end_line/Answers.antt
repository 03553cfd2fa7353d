-- Where the peer fails, it took a part of what is told of the line.
use Rattle.std.proofs.Common.{◌∙◌}
use Rattle.sdm_live.proofs.Along.{along_map}
use Rattle.sdm_live.proofs.Taking.{line_part, on_err_map}
use Rattle.sdm_live.proofs.lines.end_line.Goals as goal

pub returns-clause-err : goal.returns-clause-err
returns-clause-err g c =
    on_err_map c.hand_over.result
    (λ a. along_map _ _ _ _
    (λ h k part. line_part g.S.Step.rules c.args.step.now c.take.new.self c.args.line.now c.bytes.result.now
    c.told.result.now (λ e. c.if-len-eq0.false (c.len.ensures ∙ e)) c.bytes.ensures.value c.take.ensures
    c.told.ensures h k part)
    a)
    c.hand_over.ensures.err
