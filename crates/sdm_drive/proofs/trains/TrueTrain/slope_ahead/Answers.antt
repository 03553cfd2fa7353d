use Rattle.std.proofs.Common.{rules, w32, w64, unsigned_abs, ap, ◌∙◌}
use Rattle.std.proofs.lemmas.Int.{to_z-of_z}
use Rattle.sdm_rules.specs.Cells.{cell_of}
use Rattle.sdm_rules.specs.Slopes.{meaning_of}
use Rattle.sdm_drive.specs.Drive.{TrueTrain}
use Rattle.sdm_drive.proofs.TrainLaws.{found_ahead}
use Rattle.sdm_drive.proofs.trains.TrueTrain.slope_ahead.Goals as goal

pub returns-clause-value : goal.returns-clause-value
returns-clause-value c =
    let from_is = to_z-of_z w32 c.cell.result (search rules) ∙ c.cell.ensures
    ∙ ap (λ (t : TrueTrain). cell_of t.place) c.self.view_is in
    let to_is = to_z-of_z w32 c.cell-2.result (search rules) ∙ c.cell-2.ensures
    ∙ ap (λ (t : TrueTrain). cell_of t.place) (c.end.view_is ∙ c.after_coasting.ensures) in
    c.unsigned_abs.ensures.value ∙ ap unsigned_abs (to_z-of_z w64 c.greatest.result (search rules))
    ∙ found_ahead (meaning_of c.args.map.now) c.args.self _ _ _ from_is to_is c.greatest.ensures.value
