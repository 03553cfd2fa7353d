-- So far the marks of the lines before are read, and the rest of them is in the lines that are left.
use Rattle.std.proofs.Common.{◌≡◌, ◌-◌, ◌≤◌, [], length, All, vec_capacity}
use Rattle.sdm_rules.specs.Certificates.{IsMarkInRange}
use Rattle.sdm_certify.specs.Lines.{marks_after}
use Rattle.sdm_certify.proofs.checker.read_marks.Given as goal

abbrev pub invariant-loop-i : goal.invariant-loop-i
invariant-loop-i l = record {
  left : marks_after [] l.count l.fn.lines ≡ marks_after l.marks.items (l.count - l.i) l.lines;
  range : All IsMarkInRange l.marks.items;
  count : length l.marks.items ≡ l.i;
  room : 4_000 ≤ vec_capacity l.marks;
}
