-- The lowest of the speed so far and of the steps that are left is that of them all.
use Rattle.std.proofs.Common.{◌≡◌, drop}
use Rattle.sdm_speed.proofs.LowestLaws.{lowest_to}
use Rattle.sdm_speed.proofs.profiles.Profile.lowest.Given as goal

abbrev pub invariant-loop-step : goal.invariant-loop-step
invariant-loop-step l =
    lowest_to l.lowest (drop l.step-index l.step-items) l.to ≡ lowest_to l.initial.lowest l.step-items l.to
