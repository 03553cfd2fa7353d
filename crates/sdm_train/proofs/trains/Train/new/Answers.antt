-- No rule is broken, so as many bands are kept as were given, and every range holds.
use Rattle.std.proofs.Common.{◌≡◌, None, length, refl, rules}
use Rattle.sdm_rules.specs.Slopes.{most_bands}
use Rattle.sdm_rules.specs.Data.{train_of}
use Rattle.sdm_rules.specs.Ranges.{train_fault}
use Rattle.sdm_train.proofs.Accepted.{IsTrain_of, length-bands}
use Rattle.sdm_train.proofs.trains.Train.new.Goals as goal

pub invariant_of-result : goal.invariant_of-result
invariant_of-result c =
    let full : length c.args.fields.bands ≡ most_bands = search rules in
    let none : train_fault c.args.fields.band_count (train_of c.args.fields) ≡ None = search rules in
    let kept = length-bands c.args.fields.band_count (train_of c.args.fields) c.args.fields.bands refl full none in
    (IsTrain_of (train_of c.args.fields) (rw kept none), kept)
