-- So far the slopes of the bands before are put.
use Rattle.std.proofs.Common.{◌≡◌}
use Rattle.sdm_certify.specs.Lines.{slopes_by_band}
use Rattle.sdm_certify.proofs.map_text.by_band.Given as goal

abbrev pub invariant-loop-band : goal.invariant-loop-band
invariant-loop-band l = record { put : l.into.items ≡ slopes_by_band l.bands l.slopes l.segments l.band }
