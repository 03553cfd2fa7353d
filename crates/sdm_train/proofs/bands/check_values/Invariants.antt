-- The bands that are left decide.
use Rattle.std.proofs.Common.{◌≡◌, ◌+◌, drop}
use Rattle.sdm_rules.specs.Ranges.{band_value_fault}
use Rattle.sdm_train.proofs.bands.check_values.Given as goal

abbrev pub invariant-loop-band : goal.invariant-loop-band
invariant-loop-band l =
    (band_value_fault l.index (drop l.band-index l.bands) ≡ band_value_fault 1 l.bands) × (l.index ≡ l.band-index + 1)
