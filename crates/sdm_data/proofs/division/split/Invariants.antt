-- No line was a dividing line so far.
use Rattle.std.proofs.Common.{length}
use Rattle.sdm_data.proofs.LinesOfInput.{IsLeft}
use Rattle.sdm_data.proofs.division.split.Given as goal

abbrev pub invariant-loop-line : goal.invariant-loop-line
invariant-loop-line l = IsLeft l.input l.rest

abbrev pub decreases-loop-line : goal.decreases-loop-line
decreases-loop-line l = length l.rest
