-- Behind whatever was asked before, what was found is found of the faster ones of the falls so far.
use Rattle.std.proofs.Common.{List, map}
use Rattle.sdm_rules.specs.declared.targets.Target.{Target}
use Rattle.sdm_braking.specs.KeptFalls.{target_of}
use Rattle.sdm_supervisor.proofs.FewWalks.{AreFasterFound}
use Rattle.sdm_supervisor.proofs.sight.Sight.walk_faster.Given as goal

abbrev pub invariant-loop-i : goal.invariant-loop-i
invariant-loop-i g l =
    (before : List Target) → g.W.Walk.is_found l.walk l.self l.asked.estimate before l.initial.found →
    AreFasterFound l.asked.estimate (map target_of l.falls) before l.i
    (λ ts. g.W.Walk.is_found l.walk l.self l.asked.estimate ts l.found)
