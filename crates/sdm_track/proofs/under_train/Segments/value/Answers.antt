-- A cell that lies in a segment has its value.
use Rattle.std.proofs.Common.{w16, rules, sym, ◌∙◌}
use Rattle.std.proofs.lemmas.Int.{to_z-of_z}
use Rattle.sdm_track.specs.Steps.{LiesIn}
use Rattle.sdm_track.proofs.SegmentLaws.{read_is}
use Rattle.sdm_track.proofs.under_train.Segments.value.Goals as goal

pub returns-clause-in_its_cells : goal.returns-clause-in_its_cells
returns-clause-in_its_cells c = λ cell lies.
    let list = c.self.inside.list.items in
    let here : LiesIn (λ s. s.start) list c.args.i cell = rw c.self.view_is lies in
    rw (← c.self.view_is) (sym (to_z-of_z w16 c.index.result.now.value (search rules)
    ∙ read_is list c.args.i cell c.index.result.now c.self.invariant.rise here c.index.ensures))
