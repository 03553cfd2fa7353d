-- So far the upper speeds before are put.
use Rattle.std.proofs.Common.{◌+◌, ◌*◌, ◌∷◌, ◌≤◌, codes, decimal, map, take, length}
use Rattle.sdm_report.proofs.Pieces.{IsJoined}
use Rattle.sdm_certify.proofs.written_map.uppers_line.Given as goal

abbrev pub invariant-loop-i : goal.invariant-loop-i
invariant-loop-i l = record {
  put : IsJoined l.into (codes "uppers" ∷ map decimal (take l.i l.map.uppers));
  short : length l.into ≤ 6 + 11 * l.i;
}
