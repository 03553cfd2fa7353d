-- One byte more is divided, and takes one place at most.
use Rattle.std.proofs.Common.{◌∙◌, ◌+◌, sym, ap, drop, arith}
use Rattle.std.proofs.lemmas.List.{drop_more}
use Rattle.sdm_live_records.specs.Fields.{split_bytes, split_of}
use Rattle.sdm_live_records.proofs.line_fields.LineFields.split.Goals as goal

pub loop-byte-preserved : goal.loop-byte-preserved
loop-byte-preserved c =
    let line = c.args.bytes.now in
    let i = c.loop-byte.byte-index in
    let before = c.loop-byte.invariant in
    let taken = c.take-within.ensures in
    let few = before.bytes in
    let fewer = before.ends in
    let one = taken.bytes in
    let place = taken.ends in
    record {
      bytes = omega (arith, few, one);
      ends = omega (arith, fewer, place);
      leads = ap (λ s. split_bytes s (drop (i + 1) line)) taken.split
          ∙ (ap (λ bs. split_bytes (split_of c.loop-byte.self c.loop-byte.within) bs)
          (sym (drop_more line i 0 c.loop-byte-test.true)) ∙ before.leads);
    }
