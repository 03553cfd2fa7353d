-- The count of the bytes is one more place.
use Rattle.std.proofs.Common.{◌≡◌, ◌++◌, ◌∷◌, [], length, ap, ◌∙◌, arith}
use Rattle.std.proofs.lemmas.List.{drop_all}
use Rattle.csv.proofs.RecordFacts.{cut-end, last-append, rising-end}
use Rattle.sdm_live_records.proofs.line_fields.LineFields.end_field.Goals as goal

pub returns-clause-fields : goal.returns-clause-fields
returns-clause-fields c =
    let e : c.push.new.self.items ≡ c.self.inside.ends.items ++ (length c.self.inside.bytes.items ∷ []) =
    c.push.ensures.items ∙ ap (λ n. c.self.inside.ends.items ++ (n ∷ [])) c.len-end.ensures.value in
    rw (← c.self.view_is, e) (cut-end 0 c.self.inside.ends.items c.self.inside.bytes.items c.self.invariant)

pub returns-clause-partial : goal.returns-clause-partial
returns-clause-partial c =
    let e : c.push.new.self.items ≡ c.self.inside.ends.items ++ (length c.self.inside.bytes.items ∷ []) =
    c.push.ensures.items ∙ ap (λ n. c.self.inside.ends.items ++ (n ∷ [])) c.len-end.ensures.value in
    rw (e, last-append 0 c.self.inside.ends.items (length c.self.inside.bytes.items))
    (drop_all (length c.self.inside.bytes.items) c.self.inside.bytes.items (omega arith))

pub invariant_of-self : goal.invariant_of-self
invariant_of-self c =
    let e : c.push.new.self.items ≡ c.self.inside.ends.items ++ (length c.self.inside.bytes.items ∷ []) =
    c.push.ensures.items ∙ ap (λ n. c.self.inside.ends.items ++ (n ∷ [])) c.len-end.ensures.value in
    rw e (rising-end 0 c.self.inside.ends.items _ c.self.invariant)
