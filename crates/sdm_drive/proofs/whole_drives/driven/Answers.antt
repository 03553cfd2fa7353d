-- Each turn makes a step, whose row is one of a drive to the SvL; at the end the rows of all steps were counted.
use Rattle.std.proofs.Common.{ℕ, ap, arith, sym, ◌∙◌}
use Rattle.sdm_drive.specs.Drive.{Drive, drive_rows, drive_start}
use Rattle.sdm_drive.specs.Summaries.{counts_of}
use Rattle.sdm_drive.proofs.Journeys.{may_promise}
use Rattle.sdm_drive.proofs.MadeSteps.{all_made, few_counted, next_row, same_svl, step_counted, step_made}
use Rattle.sdm_drive.proofs.whole_drives.driven.Goals as goal

pub add-requires-clause-few : goal.add-requires-clause-few
add-requires-clause-few c = few_counted _ _ _ _ _ c.steps.invariant (omega (arith, c.steps-test.true)) c.requires

pub add-requires-clause-row : goal.add-requires-clause-row
add-requires-clause-row c =
    next_row _ _ _ _ _ c.steps.invariant _ c.step.ensures.from_start c.step.ensures.stops c.step.ensures.by_svl

pub steps-smaller : goal.steps-smaller
steps-smaller c =
    let next = ap (λ (d : Drive). d.steps) c.step.ensures.stepped in
    let counted = step_counted c.steps.drive in
    omega (arith, next, counted, c.steps-test.true)

pub steps-preserved : goal.steps-preserved
steps-preserved c =
    step_made _ _ _ _ _ c.steps.invariant _ _ _ (omega (arith, c.steps-test.true)) c.step.ensures.row
    c.step.ensures.stepped c.add.ensures

pub returns-clause-summary : goal.returns-clause-summary
returns-clause-summary c eoa svl is =
    let start = drive_start c.args.train_and_track c.args.authority c.args.seed in
    let done = all_made _ _ _ _ _ c.steps.invariant (omega (arith, c.steps-test.false)) in
    done ∙ ap (λ (to : ℕ). counts_of to (drive_rows c.args.cycles start))
    (same_svl _ _ _ _ _ _ (sym c.in-Stop.is ∙ is))

pub returns-clause-promised : goal.returns-clause-promised
returns-clause-promised c =
    may_promise c.args.train_and_track c.args.authority c.args.seed c.args.cycles c.in_ok-drive.ensures.accepted
