-- The ends of the areas so far were added.
use Rattle.std.proofs.Common.{◌≡◌, ◌++◌, take}
use Rattle.sdm_decel.specs.StretchCells.{area_ends}
use Rattle.sdm_decel.proofs.cells.push_areas.Given as goal

abbrev pub invariant-loop-area : goal.invariant-loop-area
invariant-loop-area l = l.cells.items ≡ l.initial.cells.items ++ area_ends l.length_cm (take l.area-index l.areas)
