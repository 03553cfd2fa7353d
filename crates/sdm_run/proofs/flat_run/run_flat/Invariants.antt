-- So far out took the rows of the lines before, and what is left gives the rest of the output.
use Rattle.std.proofs.Common.{◌≡◌, suc, ◌+◌, ◌≤◌, [], false, length}
use Rattle.sdm_formats.specs.Input.{most_bytes}
use Rattle.sdm_formats.specs.Lines.{lines_of}
use Rattle.sdm_formats.specs.Flat.{flat_output, flat_output_from}
use Rattle.sdm_run.proofs.OutputLeft.{IsLeftOf}
use Rattle.sdm_run.proofs.flat_run.run_flat.Given as goal

abbrev pub invariant-lines : goal.invariant-lines
invariant-lines g l = record {
  left : IsLeftOf (g.O.Sink.taken l.fn.out) (g.O.Sink.taken l.out)
      (flat_output l.decel l.end_cm l.bytes) (flat_output_from (suc l.number) l.flat (lines_of l.rest));
  few : l.number + length l.rest ≤ most_bytes;
  later : g.O.Sink.faults l.fn.out ≤ g.O.Sink.faults l.out;
  due : l.is_flush_due ≡ false → l.out ≡ l.fn.out;
  untouched : (flat_output l.decel l.end_cm l.bytes).text ≡ [] → (l.is_flush_due ≡ false) × (l.out ≡ l.fn.out);
}

-- each turn takes a byte
abbrev pub decreases-lines : goal.decreases-lines
decreases-lines g l = length l.rest
