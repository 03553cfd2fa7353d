-- The summary counts the rows of the cycles that were made.
use Rattle.sdm_run.proofs.TrialRuns.{IsCycleOf}
use Rattle.sdm_run.proofs.trial_run.summary_of.Given as goal

abbrev pub invariant-cycles : goal.invariant-cycles
invariant-cycles l = IsCycleOf l.fn.seed l.fn.cycles l.readings l.supervisor l.summary

-- each turn makes a cycle
abbrev pub decreases-cycles : goal.decreases-cycles
decreases-cycles l = l.readings.left
