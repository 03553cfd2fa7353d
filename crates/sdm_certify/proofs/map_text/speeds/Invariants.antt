-- So far the speeds before are put.
use Rattle.std.proofs.Common.{◌≡◌, take}
use Rattle.sdm_certify.proofs.map_text.speeds.Given as goal

abbrev pub invariant-loop-speed : goal.invariant-loop-speed
invariant-loop-speed l = record { put : l.speeds.items ≡ take l.speed-index l.notches }
