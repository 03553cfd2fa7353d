-- Three fields behind a comma, and a line feed.
use Rattle.sdm_causes.specs.Text.{command_part}
use Rattle.sdm_display.proofs.CausePieces.{three_behind}
use Rattle.sdm_display.proofs.cause_lines.put_command_part.Goals as goal

pub returns : goal.returns
unfolding command_part
returns c = three_behind _ _ _ _ _ _ _ _ _ _ _ c.requires c.byte.ensures c.put_standing.ensures.text c.byte-2.ensures
    c.put_standing-2.ensures.text c.byte-3.ensures c.put_standing-3.ensures.text c.byte-4.ensures
