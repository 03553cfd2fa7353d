-- A field is what lies between its places.
use Rattle.std.proofs.Common.{◌≡◌, ◌<◌, ◌∙◌, length, sym, ap, arith, rules}
use Rattle.csv.proofs.RecordFacts.{cut-length, field-bounds, field-cut, field-none}
use Rattle.sdm_live_records.proofs.line_fields.LineFieldsRecordFields.get.Goals as goal

pub returns-then-index-len : goal.returns-then-index-len
returns-then-index-len c =
    let n = cut-length 0 c.self.inside.ends.items c.self.inside.bytes.items in
    let size = c.len.ensures.value in
    let past = c.if-index-len.true in
    rw (← c.self.view_is) (sym (field-none _ c.args.index (omega (arith, n, size, past))))

pub returns : goal.returns
returns c =
    let size = c.len.ensures.value in
    let lt : c.args.index < length c.self.inside.ends.items = omega (arith, size, c.if-index-len.false) in
    let b = c.bounds-start.ensures in
    rw (← c.self.view_is, c.as_slice-2.ensures.value, b.start, b.end, c.as_slice.ensures.value)
    (sym (field-cut 0 c.self.inside.ends.items c.self.inside.bytes.items c.args.index lt))

pub slice_bounds-result-count : goal.slice_bounds-result-count
slice_bounds-result-count c =
    let size = c.len.ensures.value in
    let lt : c.args.index < length c.self.inside.ends.items = omega (arith, size, c.if-index-len.false) in
    let b = c.bounds-start.ensures in
    let f = field-bounds 0 c.self.inside.ends.items (length c.self.inside.bytes.items) c.args.index c.self.invariant lt in
    rw (b.start, b.end, c.as_slice.ensures.value) f.0

pub slice_bounds-result-start : goal.slice_bounds-result-start
slice_bounds-result-start c =
    let size = c.len.ensures.value in
    let lt : c.args.index < length c.self.inside.ends.items = omega (arith, size, c.if-index-len.false) in
    let b = rw c.as_slice.ensures.value at c.bounds-start.ensures in
    let f = field-bounds 0 c.self.inside.ends.items (length c.self.inside.bytes.items) c.args.index c.self.invariant lt in
    omega (arith, b.start, b.end, f.0, f.1, ap length c.as_slice-2.ensures.value)

pub slice_bounds-result-end : goal.slice_bounds-result-end
slice_bounds-result-end c =
    let size = c.len.ensures.value in
    let lt : c.args.index < length c.self.inside.ends.items = omega (arith, size, c.if-index-len.false) in
    let b = rw c.as_slice.ensures.value at c.bounds-start.ensures in
    let f = field-bounds 0 c.self.inside.ends.items (length c.self.inside.bytes.items) c.args.index c.self.invariant lt in
    omega (arith, b.start, b.end, f.0, f.1, ap length c.as_slice-2.ensures.value)
