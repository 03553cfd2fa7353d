-- The number is that of the cycle that was gone through last.
use Rattle.std.proofs.Common.{◌≡◌}
use Rattle.sdm_formats.specs.Trial.{number_at}
use Rattle.sdm_trial.proofs.readings.trial_reading.Given as goal

abbrev pub invariant-loop : goal.invariant-loop
invariant-loop l = l.number ≡ number_at l.fn.seed l.counter
