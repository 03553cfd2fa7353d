-- Each turn makes the next cycle, whose reading is not too early, and counts its row.
use Rattle.sdm_run.proofs.TrialRuns.{first_cycle, cycle_made, all_made}
use Rattle.sdm_run.proofs.trial_run.summary_of.Goals as goal

pub cycles-init : goal.cycles-init
cycles-init c = rw (c.begin-readings.ensures, c.new-summary.ensures, c.requires.opening)
    (first_cycle c.args.seed c.args.cycles c.requires.cycles)

pub cycles-preserved : goal.cycles-preserved
cycles-preserved c =
    cycle_made _ _ _ _ _ c.cycles.invariant _ _ _ c.in-Some.reading c.in-Ok.row
    c.in-Some.ensures.reading c.in-Some.ensures.taken c.in-Ok.ensures.taken c.in-Ok.ensures.row c.add.ensures.counted
    c.add.ensures.counts

pub returns : goal.returns
returns c = all_made _ _ _ _ _ c.cycles.invariant c.in_default.ensures.end
