-- The number that was read lies between two of 32 bits.
use Rattle.std.proofs.Common.{◌≤ℤ◌, ◌≡◌, to_z, of_z, w32, w64, ◌∙◌, refl, sym, arith, rules}
use Rattle.std.proofs.lemmas.Int.{ints, to_z-of_z}
use Rattle.sdm_events.specs.Columns.{column_of}
use Rattle.sdm_text.proofs.Between.{between_fits}
use Rattle.sdm_events.proofs.Fields.{field_found, field_is}
use Rattle.sdm_events.proofs.events.number.Goals as goal
use Rattle.sdm_events.proofs.events.number.Given.{Over}

pub unwrap-field-requires : goal.unwrap-field-requires
unwrap-field-requires g c = field_found (g.F.RecordFields.fields c.args.fields.now) _ _ c.get.ensures (omega arith)

module _ (g : Over) (c : goal.In-Ok g) where
  -- the bounds are themselves in 64 bits: the least
  least : to_z w64 (of_z w64 c.from.result) ≡ c.args.least
  least = to_z-of_z w64 c.from.result (search (rules, ints))
      ∙ (c.from.ensures ∙ to_z-of_z w32 c.args.least c.ranges.least)

  -- and the greatest
  greatest : to_z w64 (of_z w64 c.from-2.result) ≡ c.args.greatest
  greatest = to_z-of_z w64 c.from-2.result (search (rules, ints))
      ∙ (c.from-2.ensures ∙ to_z-of_z w32 c.args.greatest c.ranges.greatest)

  -- so is the number that was read
  number : to_z w64 (of_z w64 c.in-Ok.number) ≡ c.in-Ok.number
  number = to_z-of_z w64 c.in-Ok.number (search (rules, ints))

  -- it lies between them
  bounds : (c.args.least ≤ℤ c.in-Ok.number) × (c.in-Ok.number ≤ℤ c.args.greatest)
  bounds = rw (← least, ← greatest) c.in-Ok.ensures.range

  -- so it is itself in 32 bits
  same : to_z w32 (of_z w32 (to_z w64 (of_z w64 c.in-Ok.number))) ≡ c.in-Ok.number
  same = rw number (to_z-of_z w32 _ (between_fits w32 _ _ _ c.ranges.least c.ranges.greatest bounds.0 bounds.1))

  -- the field is that of the column
  field : c.unwrap-field.result.now ≡ column_of (g.F.RecordFields.fields c.args.fields.now) c.args.column
  field = field_is (g.F.RecordFields.fields c.args.fields.now) _ _ _ c.get.ensures c.unwrap-field.ensures

pub overflow_cast-result : goal.overflow_cast-result
overflow_cast-result g c =
    rw (number g c) (between_fits w32 _ _ _ c.ranges.least c.ranges.greatest (bounds g c).0 (bounds g c).1)

pub returns-in-Ok-clause-value : goal.returns-in-Ok-clause-value
returns-in-Ok-clause-value g c =
    rw (same g c, ← least g c, ← greatest g c, ← field g c) (sym c.read_int.ensures.value ∙ c.in-Ok.is)

pub returns-in-Ok-clause-range : goal.returns-in-Ok-clause-range
returns-in-Ok-clause-range g c = rw (same g c) (bounds g c)

pub returns-in-Err-clause-fault : goal.returns-in-Err-clause-fault
returns-in-Err-clause-fault g c =
    let least : to_z w64 (of_z w64 c.from.result) ≡ c.args.least = to_z-of_z w64 c.from.result (search (rules, ints))
    ∙ (c.from.ensures ∙ to_z-of_z w32 c.args.least c.ranges.least) in
    let greatest : to_z w64 (of_z w64 c.from-2.result) ≡ c.args.greatest = to_z-of_z w64 c.from-2.result
    (search (rules, ints)) ∙ (c.from-2.ensures ∙ to_z-of_z w32 c.args.greatest c.ranges.greatest) in
    let field : c.unwrap-field.result.now ≡ column_of (g.F.RecordFields.fields c.args.fields.now) c.args.column = field_is
    (g.F.RecordFields.fields c.args.fields.now) _ _ _ c.get.ensures c.unwrap-field.ensures in
    (c.in-Err.fault, rw (← least, ← greatest, ← field) (sym c.read_int.ensures.value ∙ c.in-Err.is), refl)
