-- Each turn takes one of the records that are left.
use Rattle.std.proofs.Common.{length}
use Rattle.sdm_run_tests.proofs.tests.events.shown_records.Given as goal

abbrev pub decreases-records : goal.decreases-records
decreases-records l = length l.records.left
