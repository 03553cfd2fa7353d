-- What is refused before the opening is refused whatever the slopes, and an opening is refused as the supervisor says.
use Rattle.std.proofs.Common.{None, ap, sym, subst}
use Rattle.std.proofs.lemmas.Result.{err_from_is_err_and}
use Rattle.sdm_rules.specs.Data.{HasBands, TrainAndTrack}
use Rattle.sdm_track.specs.Ranges.{IsTrack}
use Rattle.sdm_drive.specs.Faults.{IsDriveRefusal}
use Rattle.sdm_drive.specs.Kept.{IsKeptDrive}
use Rattle.sdm_drive.proofs.StartLaws.{kept_start, may_be_driven}
use Rattle.sdm_drive.proofs.StepLaws.{drive_of}
use Rattle.sdm_drive.proofs.drives.Drive.open.Goals as goal

pub returns-in_err-check-clause-refused : goal.returns-in_err-check-clause-refused
returns-in_err-check-clause-refused c =
    let left = err_from_is_err_and c.from_residual.result c.from_residual.ensures.1 in
    rw left.1 (subst (IsDriveRefusal c.args.train_and_track c.args.authority) (sym left.2) c.in_err-check.ensures.refused)

pub returns-in-Err-clause-refused : goal.returns-in-Err-clause-refused
returns-in-Err-clause-refused c =
    c.of_opening.ensures _ c.args.authority c.in_ok-check.ensures.stop c.in_ok-check.ensures.build_up
    c.in-Err.ensures.refused

pub returns-clause-accepted : goal.returns-clause-accepted
returns-clause-accepted c =
    let bands = subst (λ (d : TrainAndTrack). HasBands d.train.bands) c.train_and_track.view_is
    c.band_count.ensures.accepted.bands in
    may_be_driven _ c.args.authority c.in_ok-check.ensures.stop c.in_ok-check.ensures.build_up
    c.in-Ok.ensures.accepted bands

pub invariant_of-result-2 : goal.invariant_of-result-2
invariant_of-result-2 c =
    let d = c.args.train_and_track in
    let bands = subst (λ (d : TrainAndTrack). HasBands d.train.bands) c.train_and_track.view_is
    c.band_count.ensures.accepted.bands in
    let may = may_be_driven d c.args.authority c.in_ok-check.ensures.stop c.in_ok-check.ensures.build_up
    c.in-Ok.ensures.accepted bands in
    let track = subst IsTrack (ap (λ (d : TrainAndTrack). d.track) c.train_and_track.view_is) c.length_cm.ensures.in_range in
    let start = kept_start d c.args.authority c.args.seed may track.longest in
    subst IsKeptDrive (sym (λ k. drive_of (c.in-Ok.ensures.opening k)
    (record { place = c.new.ensures k; speed = c.new-2.ensures k }) c.args.seed 0 None None)) start
