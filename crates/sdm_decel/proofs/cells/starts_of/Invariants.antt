-- The cells so far stand as starts.
use Rattle.std.proofs.Common.{◌≡◌, pos, map, take}
use Rattle.sdm_decel.proofs.cells.starts_of.Given as goal

abbrev pub invariant-loop-cell : goal.invariant-loop-cell
invariant-loop-cell l = l.starts.items ≡ map pos (take l.cell-index l.cells)
