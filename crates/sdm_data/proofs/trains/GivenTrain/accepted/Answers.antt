-- An accepted train has no band past those that are handed in.
use Rattle.std.proofs.Common.{◌≡◌, None, length, ap, sym, ◌∙◌}
use Rattle.sdm_rules.specs.Ranges.{train_fault}
use Rattle.sdm_data.specs.Given.{given_train}
use Rattle.sdm_data.proofs.AcceptedData.{same_train_fault, accepted_bands}
use Rattle.sdm_data.proofs.trains.GivenTrain.accepted.Goals as goal

pub returns-in-Ok-clause-kept : goal.returns-in-Ok-clause-kept
returns-in-Ok-clause-kept c =
    let same = same_train_fault (given_train c.args.self.now) c.fields.result.band_count c.fields.ensures.count in
    let none : train_fault (length c.args.self.now.bands.items) (given_train c.args.self.now) ≡ None =
    sym same ∙ ap (train_fault c.fields.result.band_count) (sym c.fields.ensures.train) ∙ sym c.in-Ok.ensures.fault in
    c.in-Ok.ensures.kept ∙ c.fields.ensures.train ∙ accepted_bands (given_train c.args.self.now) none
