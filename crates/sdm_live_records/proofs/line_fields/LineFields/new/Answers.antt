-- No place and no byte.
use Rattle.std.proofs.Common.{refl, arith}
use Rattle.csv.specs.Records.{Rising, cut_from}
use Rattle.sdm_live_records.proofs.line_fields.LineFields.new.Goals as goal

pub returns : goal.returns
unfolding cut_from
returns c = rw c.new-2.ensures refl

pub invariant_of-result : goal.invariant_of-result
unfolding Rising
invariant_of-result c = rw (c.new.ensures, c.new-2.ensures) (omega arith)
