-- Behind whatever was asked before, the walk has come so far over the row, and what was found is found of what it named.
use Rattle.std.proofs.Common.{◌-◌, ◌≤◌, ℕ, List, length, map}
use Rattle.sdm_rules.specs.declared.targets.Target.{Target}
use Rattle.sdm_hiding.specs.Asking.{AreFeet}
use Rattle.sdm_braking.specs.KeptFalls.{target_of}
use Rattle.sdm_supervisor.proofs.FewWalks.{IsRowWalkedTo}
use Rattle.sdm_supervisor.proofs.sight.Sight.walk_row.Given as goal

abbrev pub invariant-curves : goal.invariant-curves
invariant-curves g l =
    (margin bec : ℕ) (before : List Target) → AreFeet margin (g.F.Feet.feet l.row) → l.v_est ≤ bec →
    g.W.Walk.is_found l.walk l.self l.asked.estimate before l.initial.found →
    IsRowWalkedTo (g.F.Feet.on l.row) (g.F.Feet.feet l.row) margin l.v_est bec (map target_of l.falls) before l.asking
    (λ ts. g.W.Walk.is_found l.walk l.self l.asked.estimate ts l.found)

-- each that is named lies further on
abbrev pub decreases-curves : goal.decreases-curves
decreases-curves g l = length (g.F.Feet.feet l.row) - l.asking.at
