-- A byte after the last place changes no field before it.
use Rattle.std.proofs.Common.{◌∷◌, [], arith}
use Rattle.std.proofs.lemmas.List.{drop-append-le, length-append}
use Rattle.csv.proofs.RecordFacts.{cut-more, rising-last, rising-more}
use Rattle.sdm_live_records.proofs.line_fields.LineFields.push.Goals as goal

pub returns-clause-fields : goal.returns-clause-fields
returns-clause-fields c =
    rw (← c.self.view_is, c.push.ensures.items)
    (cut-more 0 c.self.inside.ends.items c.self.inside.bytes.items (c.args.byte ∷ []) c.self.invariant)

pub returns-clause-partial : goal.returns-clause-partial
returns-clause-partial c =
    rw (← c.self.view_is, c.push.ensures.items)
    (drop-append-le _ c.self.inside.bytes.items (c.args.byte ∷ [])
    (rising-last 0 c.self.inside.ends.items _ c.self.invariant))

pub invariant_of-self : goal.invariant_of-self
invariant_of-self c =
    let grown = length-append c.self.inside.bytes.items (c.args.byte ∷ []) in
    rw c.push.ensures.items (rising-more 0 c.self.inside.ends.items _ _ c.self.invariant (omega arith))
