-- So far the slopes of the segments before are put.
use Rattle.std.proofs.Common.{◌≡◌, ◌++◌}
use Rattle.sdm_certify.specs.Lines.{slopes_of_band}
use Rattle.sdm_certify.proofs.map_text.put_band.Given as goal

abbrev pub invariant-loop-i : goal.invariant-loop-i
invariant-loop-i l = record {
  put : l.into.items ≡ l.fn.into.items ++ slopes_of_band l.bands l.slopes l.band l.i;
}
