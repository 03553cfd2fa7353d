-- So far out took the answers to the claims before, and those to the claims that are left are the rest.
use Rattle.std.proofs.Common.{◌≡◌, ◌≤◌, [], false, length}
use Rattle.sdm_formats.specs.Flat.{Output}
use Rattle.sdm_run.specs.Checks.{IsCheckOf}
use Rattle.sdm_run.proofs.CheckTexts.{IsAnsweredSoFar}
use Rattle.sdm_run.proofs.check_run.run_check.Given as goal

abbrev pub invariant-claims : goal.invariant-claims
invariant-claims g l = record {
  answered : (output : Output) → IsCheckOf l.fn.bytes output →
      IsAnsweredSoFar (g.O.Sink.taken l.fn.out) (g.O.Sink.taken l.out) l.checker output;
  counted : 1 ≤ l.checker.left.number;
  later : g.O.Sink.faults l.fn.out ≤ g.O.Sink.faults l.out;
  due : l.is_flush_due ≡ false → l.out ≡ l.fn.out;
  untouched : (output : Output) → IsCheckOf l.fn.bytes output → output.text ≡ [] →
      (l.is_flush_due ≡ false) × (l.out ≡ l.fn.out);
}

-- each turn takes a line
abbrev pub decreases-claims : goal.decreases-claims
decreases-claims g l = length l.checker.left.lines
