-- No place and no byte are left.
use Rattle.std.proofs.Common.{refl, arith}
use Rattle.csv.specs.Records.{Rising, cut_from, last_end}
use Rattle.sdm_live_records.proofs.line_fields.LineFields.clear.Goals as goal

pub returns-clause-fields : goal.returns-clause-fields
unfolding cut_from last_end
returns-clause-fields c = rw (c.clear.ensures, c.clear-2.ensures) refl

pub invariant_of-self : goal.invariant_of-self
unfolding Rising
invariant_of-self c = rw (c.clear.ensures, c.clear-2.ensures) (omega arith)
