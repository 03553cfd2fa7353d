-- So far the claim and the marks before are written.
use Rattle.std.proofs.Common.{◌≤◌, ◌++◌, length, map, take}
use Rattle.std.specs.Io.KnownBytes.{Appends}
use Rattle.sdm_certify.specs.WrittenLines.{claim_text, mark_text, text_of_lines}
use Rattle.sdm_run.proofs.certify_texts.write_certificate.Given as goal

abbrev pub invariant-loop-mark : goal.invariant-loop-mark
invariant-loop-mark g l = record {
  written : Appends (g.O.Sink.taken l.fn.out) (g.O.Sink.taken l.out)
      (claim_text l.certificate.claim (length l.certificate.marks)
      ++ text_of_lines (take l.mark-index (map mark_text l.certificate.marks)));
  later : g.O.Sink.faults l.fn.out ≤ g.O.Sink.faults l.out;
}
