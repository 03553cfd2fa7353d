-- The fixed data break no rule: each is computed.
use Rattle.std.proofs.Common.{◌≡◌, refl}
use Rattle.std.specs.Prelude.{None}
use Rattle.sdm_rules.specs.Ranges.{train_fault, national_fault, track_fault, gradients_fault, speeds_fault, areas_fault}
use Rattle.sdm_formats.specs.Trial.{trial_national, trial_track, trial_train}

pub train_accepted : train_fault 2 trial_train ≡ None
unfolding train_fault
train_accepted = refl

pub national_accepted : national_fault trial_national ≡ None
unfolding national_fault
national_accepted = refl

pub track_accepted : track_fault trial_track ≡ None
unfolding track_fault gradients_fault speeds_fault areas_fault
track_accepted = refl
