-- So far the lines before are written.
use Rattle.std.proofs.Common.{◌≤◌, take}
use Rattle.std.specs.Io.KnownBytes.{Appends}
use Rattle.sdm_certify.specs.WrittenLines.{text_of_lines, written_lines}
use Rattle.sdm_run.proofs.certify_texts.write_map.Given as goal

abbrev pub invariant-loop-i : goal.invariant-loop-i
invariant-loop-i g l = record {
  written : Appends (g.O.Sink.taken l.fn.out) (g.O.Sink.taken l.out) (text_of_lines (take l.i (written_lines l.map)));
  later : g.O.Sink.faults l.fn.out ≤ g.O.Sink.faults l.out;
}
