-- What counts of the falls so far.
use Rattle.std.proofs.Common.{◌-◌, ◌≤◌, length, map, take}
use Rattle.sdm_rules.specs.Limits.{computed, limits_of}
use Rattle.sdm_braking.specs.KeptFalls.{target_of}
use Rattle.sdm_supervisor.specs.Sights.{IsCounting}
use Rattle.sdm_supervisor.proofs.sight.Sight.counting.Given as goal

abbrev pub invariant-falls : goal.invariant-falls
invariant-falls l =
    (l.at ≤ length l.self-inside.falls)
    × IsCounting (λ t. (limits_of computed l.self.train_and_track l.asked.estimate t).permitted) l.asked.estimate.speed
    (take l.at (map target_of l.self-inside.falls)) l.counting

-- each step goes further on
abbrev pub decreases-falls : goal.decreases-falls
decreases-falls l = l.count - l.at
