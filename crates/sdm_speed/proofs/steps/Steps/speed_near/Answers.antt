-- It is the speed of the last step that starts at the cell or before it.
use Rattle.std.proofs.Common.{◌≡◌, w32, to_z, of_z, sym, ◌∙◌}
use Rattle.std.proofs.lemmas.Int.{to_z-of_z}
use Rattle.sdm_speed.proofs.StepLaws.{rest_first}
use Rattle.sdm_speed.proofs.steps.Steps.speed_near.Goals as goal

pub returns : goal.returns
returns c =
    let steps = c.args.self.now in
    let cell_is : to_z w32 (of_z w32 c.args.cell) ≡ c.args.cell = to_z-of_z w32 c.args.cell c.ranges.cell in
    c.speed_to.ensures
    ∙ sym (rest_first steps.before steps.list.items c.begun_near-begun.result c.args.cell
    (rw cell_is at c.begun_near-begun.ensures) steps.rises)
