use Rattle.sdm_rules.specs.Slopes.{meaning_of}
use Rattle.sdm_drive.proofs.Moves.{IsMovedSoFar}
use Rattle.sdm_drive.proofs.trains.TrueTrain.moved.Given as goal

abbrev pub invariant-loop-k : goal.invariant-loop-k
invariant-loop-k l = IsMovedSoFar (meaning_of l.map) l.orders l.time l.fn.self l.k l.train l.stops
