-- The starts of the segments so far were added.
use Rattle.std.proofs.Common.{◌≡◌, ◌++◌, take}
use Rattle.sdm_decel.specs.StretchCells.{gradient_starts}
use Rattle.sdm_decel.proofs.cells.push_gradients.Given as goal

abbrev pub invariant-loop-i : goal.invariant-loop-i
invariant-loop-i l = l.cells.items ≡ l.initial.cells.items ++ gradient_starts (take l.i l.segments)
