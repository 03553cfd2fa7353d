-- Two fields behind a comma.
use Rattle.sdm_causes.specs.Text.{brake_part}
use Rattle.sdm_display.proofs.CausePieces.{two_behind}
use Rattle.sdm_display.proofs.cause_lines.put_brake_part.Goals as goal

pub returns : goal.returns
unfolding brake_part
returns c = two_behind _ _ _ _ _ _ _ c.requires c.byte.ensures c.put_trigger.ensures.text c.byte-2.ensures
    c.put_trigger-2.ensures.text
