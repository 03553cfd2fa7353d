-- Each comma and the field after it lengthen the fields that are put.
use Rattle.std.proofs.Common.{[], ◌∷◌, decimal, refl}
use Rattle.sdm_causes.specs.Text.{driver_part, trigger_text}
use Rattle.sdm_report.proofs.Pieces.{IsJoined, more_fields}
use Rattle.sdm_display.proofs.cause_lines.put_driver_part.Goals as goal

pub returns : goal.returns
unfolding driver_part
returns c =
    let causes = c.args.causes.now in
    let time : IsJoined c.put_count.new.into
    (decimal causes.time ∷ []) = record { is = rw (c.put_count.ensures.text, c.requires) refl } in
    let over = more_fields _ _ _ _ (trigger_text causes.over) _ [] time c.byte.ensures c.put_trigger.ensures.text in
    let warn = more_fields _ _ _ _ (trigger_text causes.warn) _ [] over c.byte-2.ensures c.put_trigger-2.ensures.text in
    warn.is
