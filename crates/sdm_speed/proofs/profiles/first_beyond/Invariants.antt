-- Of those so far.
use Rattle.std.proofs.Common.{◌≡◌, pos, take}
use Rattle.sdm_rules.specs.TakeOver.{first_beyond}
use Rattle.sdm_speed.proofs.profiles.first_beyond.Given as goal

abbrev pub invariant-loop-i : goal.invariant-loop-i
invariant-loop-i l = l.found ≡ first_beyond (pos l.length_cm) (take l.i l.held)
