-- A field starts where the one before it ends, the first at 0.
use Rattle.std.proofs.Common.{◌≡◌, ◌<◌, ◌+◌, ◌-◌, ◌∙◌, sym, rules, length}
use Rattle.csv.proofs.RecordFacts.{prev-first, prev-next}
use Rattle.sdm_live_records.proofs.line_fields.bounds.Goals as goal
use Rattle.sdm_live_records.proofs.line_fields.bounds.Goals.{then-index-eq0, else-index-eq0}

pub returns-clause-start : goal.returns-clause-start
returns-clause-start c = elim c.if-index-eq0.branch [
  | then-index-eq0 w ↦ rw (w.start-is, w.if-index-eq0.true) (sym (prev-first _))
  | else-index-eq0 w ↦
      let one : (c.args.index - 1) + 1 ≡ c.args.index = search rules in
      let lt : (c.args.index - 1) + 1 < length c.args.ends.now = rw one c.requires in
      let e = rw one at (prev-next 0 c.args.ends.now (c.args.index - 1) 0 lt) in
      w.start-is ∙ sym e
]
