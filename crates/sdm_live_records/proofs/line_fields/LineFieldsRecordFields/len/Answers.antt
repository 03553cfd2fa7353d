-- One place for each field.
use Rattle.std.proofs.Common.{sym, ◌∙◌}
use Rattle.csv.proofs.RecordFacts.{cut-length}
use Rattle.sdm_live_records.proofs.line_fields.LineFieldsRecordFields.len.Goals as goal

pub returns : goal.returns
returns c =
    rw (← c.self.view_is) (c.len.ensures.value ∙ sym (cut-length 0 c.self.inside.ends.items c.self.inside.bytes.items))
