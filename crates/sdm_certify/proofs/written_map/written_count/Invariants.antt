-- So far those before are counted, and the others are left.
use Rattle.std.proofs.Common.{◌≡◌, ◌+◌, ◌-◌, ◌≤◌, length}
use Rattle.sdm_certify.specs.WrittenLines.{written, written_from}
use Rattle.sdm_certify.proofs.written_map.written_count.Given as goal

abbrev pub invariant-loop-i : goal.invariant-loop-i
invariant-loop-i l = record {
  left : length (written l.map) ≡ l.count + length (written_from l.map l.i (length l.map.starts - l.i));
  few : l.count ≤ l.i;
}
