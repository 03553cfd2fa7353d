-- What was found so far is found of the falls so far.
use Rattle.std.proofs.Common.{take, map}
use Rattle.sdm_braking.specs.KeptFalls.{target_of}
use Rattle.sdm_supervisor.proofs.sight.Sight.walk.Given as goal

abbrev pub invariant-loop-i : goal.invariant-loop-i
invariant-loop-i g l =
    g.W.Walk.is_found l.walk l.self l.asked.estimate (map target_of (take l.i l.self-inside.falls)) l.found
