-- One of the two ends of this restriction is the cell.
use Rattle.std.proofs.Common.{◌≡◌, pos, get_or, inl, inr, w32, to_z, of_z, sym, ap, ◌∙◌, rules}
use Rattle.std.proofs.lemmas.Int.{to_z-of_z}
use Rattle.sdm_speed.specs.ZoneEnds.{IsEnd, cells_of}
use Rattle.sdm_speed.specs.declared.ends.Cells.{Cells}
use Rattle.sdm_speed.proofs.ZoneEndLaws.{end_at}
use Rattle.sdm_speed.proofs.HeldLaws.{none}
use Rattle.sdm_speed.proofs.lifts.is_end_of_one.Goals as goal
use Rattle.sdm_speed.proofs.lifts.is_end_of_one.Goals.{then-cells-cell-via-then-cells-cell}
use Rattle.sdm_speed.proofs.lifts.is_end_of_one.Goals.{then-cells-cell-via-else-cells-cell+then-cells-cell-2}

pub returns-then-cells-cell-clause-yes : goal.returns-then-cells-cell-clause-yes
returns-then-cells-cell-clause-yes c found =
    let r = get_or c.args.held.now c.loop-r.r-index none in
    let length_cm = pos c.args.length_cm in
    let cell = c.args.cell in
    let cells = c.cells_of-cells.result in
    let cell_is : to_z w32 (of_z w32 cell) ≡ cell = to_z-of_z w32 cell c.ranges.cell in
    let cells_is : cells ≡ cells_of length_cm r = c.cells_of-cells.ensures in
    let end : IsEnd length_cm cell r = elim c.then-cells-cell.branch [
      | then-cells-cell-via-then-cells-cell w ↦
          (let first_is : to_z w32 (of_z w32 cells.first) ≡ cells.first = to_z-of_z w32 cells.first (search rules) in
          inl (sym (ap (λ (x : Cells). x.first) cells_is) ∙ sym first_is ∙ ap (to_z w32) w.if-cells-cell.true
          ∙ cell_is))
      | then-cells-cell-via-else-cells-cell+then-cells-cell-2 w ↦
          (let past_is : to_z w32 (of_z w32 cells.past) ≡ cells.past = to_z-of_z w32 cells.past (search rules) in
          inr (sym (ap (λ (x : Cells). x.past) cells_is) ∙ sym past_is ∙ ap (to_z w32) w.if-cells-cell-2.true
          ∙ cell_is))
    ] in
    end_at length_cm cell c.args.held.now c.loop-r.r-index none c.loop-r-test.true end
