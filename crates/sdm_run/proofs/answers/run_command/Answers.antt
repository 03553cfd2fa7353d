-- The outputs of `flat`, `upgrade`, `drive` and `check`, within the limit of an input.
use Rattle.sdm_run.proofs.CommandFacts.{within_answer, within_empty}
use Rattle.sdm_run.proofs.CheckTexts.{check_short}
use Rattle.sdm_run.proofs.DriveTexts.{of_short}
use Rattle.sdm_run.proofs.RunAnswers.{flat_not_before}
use Rattle.sdm_run.proofs.answers.run_command.Goals as goal

pub returns-in-Flat-clause-answer : goal.returns-in-Flat-clause-answer
returns-in-Flat-clause-answer g c = rw c.in-Flat.is (within_answer _ _ _ _ _ c.requires.short c.run_flat.ensures.answer)

pub returns-in-Flat-clause-not_before : goal.returns-in-Flat-clause-not_before
returns-in-Flat-clause-not_before g c = flat_not_before c.run_flat.result.outcome c.run_flat.ensures.not_first

pub returns-in-Upgrade-clause-answer : goal.returns-in-Upgrade-clause-answer
returns-in-Upgrade-clause-answer g c =
    rw c.in-Upgrade.is (within_answer _ _ _ _ _ c.requires.short c.run_upgrade.ensures.answer)

pub returns-in-Drive-clause-answer : goal.returns-in-Drive-clause-answer
returns-in-Drive-clause-answer g c =
    rw c.in-Drive.is (λ output is. c.run_drive.ensures.answer output (of_short _ _ _ output c.requires.short is))

pub returns-in-Check-clause-answer : goal.returns-in-Check-clause-answer
returns-in-Check-clause-answer g c =
    rw c.in-Check.is (λ output is. c.run_check.ensures.answer output (check_short _ output c.requires.short is))

pub returns-in-Check-clause-not_before : goal.returns-in-Check-clause-not_before
returns-in-Check-clause-not_before g c = flat_not_before c.run_check.result.outcome c.run_check.ensures.not_first

pub returns-in-Flat-clause-untouched : goal.returns-in-Flat-clause-untouched
returns-in-Flat-clause-untouched g c = rw c.in-Flat.is (λ output is none.
    c.run_flat.ensures.untouched (within_empty _ _ c.requires.short output is none))

pub returns-in-Upgrade-clause-untouched : goal.returns-in-Upgrade-clause-untouched
returns-in-Upgrade-clause-untouched g c = rw c.in-Upgrade.is (λ output is none.
    c.run_upgrade.ensures.untouched (within_empty _ _ c.requires.short output is none))

pub returns-in-Drive-clause-untouched : goal.returns-in-Drive-clause-untouched
returns-in-Drive-clause-untouched g c = rw c.in-Drive.is (λ output is.
    c.run_drive.ensures.untouched output (of_short _ _ _ output c.requires.short is))

pub returns-in-Check-clause-untouched : goal.returns-in-Check-clause-untouched
returns-in-Check-clause-untouched g c = rw c.in-Check.is (λ output is.
    c.run_check.ensures.untouched output (check_short _ output c.requires.short is))
