use Rattle.std.proofs.Common.{◌≡◌, take}
use Rattle.sdm_speed.proofs.profiles.speeds_of.Given as goal

abbrev pub invariant-loop-i : goal.invariant-loop-i
invariant-loop-i l = l.speeds.items ≡ take l.i l.track.speeds
