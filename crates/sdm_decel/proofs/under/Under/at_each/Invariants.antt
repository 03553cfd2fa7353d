-- What lies under the train in the cells so far.
use Rattle.std.proofs.Common.{◌≡◌, pos, map, take}
use Rattle.sdm_rules.specs.Decelerations.{under_train}
use Rattle.sdm_decel.proofs.under.Under.at_each.Given as goal

abbrev pub invariant-loop-cell : goal.invariant-loop-cell
invariant-loop-cell l = l.unders.items ≡ map (under_train l.track (pos l.length_cm)) (take l.cell-index l.cells)
