use Rattle.sdm_live_run.proofs.LiveRows.{rows_along}
use Rattle.sdm_live_run.proofs.SameRun.{run_along}
use Rattle.sdm_live_run.proofs.live_run.sdm_live_main.Goals as goal

pub returns-clause-rows : goal.returns-clause-rows
returns-clause-rows g c = rows_along _ _ c.answered.result c.answered.ensures.answer

pub returns-clause-run : goal.returns-clause-run
returns-clause-run g c =
    run_along _ _ c.answered.result c.told.result c.told.ensures.same c.answered.ensures.answer
