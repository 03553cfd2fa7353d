-- So far those before are passed, and the one that is looked for is among the others.
use Rattle.std.proofs.Common.{◌≡◌, ◌-◌, ◌<◌, length, get_or}
use Rattle.sdm_certify.specs.WrittenLines.{written, written_from}
use Rattle.sdm_certify.proofs.written_map.nth_written.Given as goal

abbrev pub invariant-loop-i : goal.invariant-loop-i
invariant-loop-i l = record {
  here : l.left < length (written_from l.map l.i (length l.map.starts - l.i));
  same : get_or (written l.map) l.n 0 ≡ get_or (written_from l.map l.i (length l.map.starts - l.i)) l.left 0;
}
