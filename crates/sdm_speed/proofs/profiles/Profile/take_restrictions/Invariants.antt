-- Those so far are in force.
use Rattle.std.proofs.Common.{◌≡◌, take}
use Rattle.sdm_speed.specs.Held.{by_identity}
use Rattle.sdm_speed.proofs.profiles.Profile.take_restrictions.Given as goal

abbrev pub invariant-loop-i : goal.invariant-loop-i
invariant-loop-i l = l.self ≡ record l.fn.self { restrictions = by_identity (take l.i l.before-inside.held.items) }
