-- The bands that are left decide, above the upper speed so far.
use Rattle.std.proofs.Common.{◌≡◌, ◌+◌, pos, drop}
use Rattle.sdm_rules.specs.Ranges.{band_order_fault}
use Rattle.sdm_train.proofs.bands.check_order.Given as goal

abbrev pub invariant-loop-band : goal.invariant-loop-band
invariant-loop-band l = (band_order_fault l.index l.above (drop l.band-index l.bands)
    ≡ band_order_fault 1 (pos 0) l.bands) × (l.index ≡ l.band-index + 1)
