-- So far the slopes of the bands before are put.
use Rattle.std.proofs.Common.{◌+◌, ◌*◌, ◌∷◌, ◌≤◌, codes, length}
use Rattle.std.specs.Fmt.{signed_decimal}
use Rattle.sdm_rules.specs.Slopes.{meaning_of}
use Rattle.sdm_report.proofs.Pieces.{IsJoined}
use Rattle.sdm_certify.specs.WrittenLines.{first_cell, slopes_at}
use Rattle.sdm_certify.proofs.written_map.segment_line.Given as goal

abbrev pub invariant-loop-band : goal.invariant-loop-band
invariant-loop-band l = record {
  put : IsJoined l.into (codes "seg" ∷ signed_decimal (first_cell l.map l.i)
      ∷ slopes_at (meaning_of l.map) (first_cell l.map l.i) l.band);
  short : length l.into ≤ 14 + 17 * l.band;
}
