-- The data of the bytes are those that are driven.
use Rattle.std.proofs.Common.{subst, sym}
use Rattle.sdm_rules.specs.declared.authorities.Authority.{Authority}
use Rattle.sdm_rules.specs.Data.{TrainAndTrack}
use Rattle.sdm_opening.specs.Openings.{IsDataOf}
use Rattle.sdm_run.proofs.DriveTexts.{summary_of_data}
use Rattle.sdm_run.proofs.drive_run.summed_up.Goals as goal

pub returns-in-Ok-clause-summary : goal.returns-in-Ok-clause-summary
returns-in-Ok-clause-summary c =
    let given = subst (λ (j : TrainAndTrack × Authority). IsDataOf c.args.bytes.now j.0 j.1) (sym c.journey.view_is)
    c.in_ok-journey.ensures.data in
    summary_of_data c.args.seed c.args.cycles _ _ _ _ given c.in-Ok.ensures.accepted c.in-Ok.ensures.summary

pub returns-in-Err-clause-refused : goal.returns-in-Err-clause-refused
returns-in-Err-clause-refused c =
    let given = subst (λ (j : TrainAndTrack × Authority). IsDataOf c.args.bytes.now j.0 j.1) (sym c.journey.view_is)
    c.in_ok-journey.ensures.data in
    c.undriven.ensures _ _ _ given c.in-Err.ensures.refused
