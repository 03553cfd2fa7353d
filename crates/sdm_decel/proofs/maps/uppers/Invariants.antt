-- The upper speeds of the bands so far.
use Rattle.std.proofs.Common.{◌≡◌, take}
use Rattle.sdm_rules.specs.Decelerations.{uppers_of}
use Rattle.sdm_decel.proofs.maps.uppers.Given as goal

abbrev pub invariant-loop-i : goal.invariant-loop-i
invariant-loop-i l = l.uppers.items ≡ uppers_of (take l.i l.train.bands)
