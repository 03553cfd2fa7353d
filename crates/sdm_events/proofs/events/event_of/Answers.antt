-- The kind is the record's first field; it is the text of a kind or of none of them.
use Rattle.std.proofs.Common.{refl, arith}
use Rattle.std.proofs.lemmas.Grind.{common_steps}
use Rattle.sdm_formats.specs.Forms.{event_of}
use Rattle.sdm_events.proofs.Fields.{as_text, first_field, no_fields}
use Rattle.sdm_events.proofs.events.event_of.Goals as goal

pub returns-in_default-clause-value : goal.returns-in_default-clause-value
unfolding event_of
returns-in_default-clause-value g c =
    rw (no_fields (g.F.RecordFields.fields c.args.fields.now) _ c.get.ensures c.in_default.is) refl

pub returns-then-eq-clause-value : goal.returns-then-eq-clause-value
unfolding event_of
returns-then-eq-clause-value g c =
    let is_read = as_text _ _ _ _ _ refl c.as_array.ensures.cases c.eq.ensures in
    rw (first_field (g.F.RecordFields.fields c.args.fields.now) _ _ c.get.ensures c.in-Some.is) (grind (arith, common_steps))

pub returns-then-eq-2-clause-value : goal.returns-then-eq-2-clause-value
unfolding event_of
returns-then-eq-2-clause-value g c =
    let is_read = as_text _ _ _ _ _ refl c.as_array.ensures.cases c.eq.ensures in
    let is_end = as_text _ _ _ _ _ refl c.as_array-else-eq.ensures.cases c.eq-else-eq.ensures in
    rw (first_field (g.F.RecordFields.fields c.args.fields.now) _ _ c.get.ensures c.in-Some.is) (grind (arith, common_steps))

pub returns-then-eq-3-clause-value : goal.returns-then-eq-3-clause-value
unfolding event_of
returns-then-eq-3-clause-value g c =
    let is_read = as_text _ _ _ _ _ refl c.as_array.ensures.cases c.eq.ensures in
    let is_end = as_text _ _ _ _ _ refl c.as_array-else-eq.ensures.cases c.eq-else-eq.ensures in
    let is_endcalc = as_text _ _ _ _ _ refl c.as_array-else-eq-2.ensures.cases c.eq-else-eq-2.ensures in
    rw (first_field (g.F.RecordFields.fields c.args.fields.now) _ _ c.get.ensures c.in-Some.is) (grind (arith, common_steps))

pub returns-then-eq-4-clause-value : goal.returns-then-eq-4-clause-value
unfolding event_of
returns-then-eq-4-clause-value g c =
    let is_read = as_text _ _ _ _ _ refl c.as_array.ensures.cases c.eq.ensures in
    let is_end = as_text _ _ _ _ _ refl c.as_array-else-eq.ensures.cases c.eq-else-eq.ensures in
    let is_endcalc = as_text _ _ _ _ _ refl c.as_array-else-eq-2.ensures.cases c.eq-else-eq-2.ensures in
    let is_limit = as_text _ _ _ _ _ refl c.as_array-else-eq-3.ensures.cases c.eq-else-eq-3.ensures in
    rw (first_field (g.F.RecordFields.fields c.args.fields.now) _ _ c.get.ensures c.in-Some.is) (grind (arith, common_steps))

pub returns-then-eq-5-clause-value : goal.returns-then-eq-5-clause-value
unfolding event_of
returns-then-eq-5-clause-value g c =
    let is_read = as_text _ _ _ _ _ refl c.as_array.ensures.cases c.eq.ensures in
    let is_end = as_text _ _ _ _ _ refl c.as_array-else-eq.ensures.cases c.eq-else-eq.ensures in
    let is_endcalc = as_text _ _ _ _ _ refl c.as_array-else-eq-2.ensures.cases c.eq-else-eq-2.ensures in
    let is_limit = as_text _ _ _ _ _ refl c.as_array-else-eq-3.ensures.cases c.eq-else-eq-3.ensures in
    let is_restrict = as_text _ _ _ _ _ refl c.as_array-else-eq-4.ensures.cases c.eq-else-eq-4.ensures in
    rw (first_field (g.F.RecordFields.fields c.args.fields.now) _ _ c.get.ensures c.in-Some.is) (grind (arith, common_steps))

pub returns-then-eq-6-clause-value : goal.returns-then-eq-6-clause-value
unfolding event_of
returns-then-eq-6-clause-value g c =
    let is_read = as_text _ _ _ _ _ refl c.as_array.ensures.cases c.eq.ensures in
    let is_end = as_text _ _ _ _ _ refl c.as_array-else-eq.ensures.cases c.eq-else-eq.ensures in
    let is_endcalc = as_text _ _ _ _ _ refl c.as_array-else-eq-2.ensures.cases c.eq-else-eq-2.ensures in
    let is_limit = as_text _ _ _ _ _ refl c.as_array-else-eq-3.ensures.cases c.eq-else-eq-3.ensures in
    let is_restrict = as_text _ _ _ _ _ refl c.as_array-else-eq-4.ensures.cases c.eq-else-eq-4.ensures in
    let is_revoke = as_text _ _ _ _ _ refl c.as_array-else-eq-5.ensures.cases c.eq-else-eq-5.ensures in
    rw (first_field (g.F.RecordFields.fields c.args.fields.now) _ _ c.get.ensures c.in-Some.is) (grind (arith, common_steps))

pub returns-else-eq-6-clause-value : goal.returns-else-eq-6-clause-value
unfolding event_of
returns-else-eq-6-clause-value g c =
    let is_read = as_text _ _ _ _ _ refl c.as_array.ensures.cases c.eq.ensures in
    let is_end = as_text _ _ _ _ _ refl c.as_array-else-eq.ensures.cases c.eq-else-eq.ensures in
    let is_endcalc = as_text _ _ _ _ _ refl c.as_array-else-eq-2.ensures.cases c.eq-else-eq-2.ensures in
    let is_limit = as_text _ _ _ _ _ refl c.as_array-else-eq-3.ensures.cases c.eq-else-eq-3.ensures in
    let is_restrict = as_text _ _ _ _ _ refl c.as_array-else-eq-4.ensures.cases c.eq-else-eq-4.ensures in
    let is_revoke = as_text _ _ _ _ _ refl c.as_array-else-eq-5.ensures.cases c.eq-else-eq-5.ensures in
    rw (first_field (g.F.RecordFields.fields c.args.fields.now) _ _ c.get.ensures c.in-Some.is) (grind (arith, common_steps))
