-- Each turn makes a step of the drive, and counts its row.
use Rattle.std.proofs.Common.{◌-◌}
use Rattle.sdm_drive.specs.Drive.{drive_start}
use Rattle.sdm_drive.proofs.MadeSteps.{IsDrivenSoFar}
use Rattle.sdm_drive.proofs.whole_drives.driven.Given as goal

abbrev pub invariant-steps : goal.invariant-steps
invariant-steps l =
    IsDrivenSoFar (drive_start l.fn.train_and_track l.fn.authority l.fn.seed)
    l.svl l.fn.cycles l.drive l.summary

abbrev pub decreases-steps : goal.decreases-steps
decreases-steps l = l.fn.cycles - l.drive.steps
