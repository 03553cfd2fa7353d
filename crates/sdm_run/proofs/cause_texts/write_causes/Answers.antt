-- The three parts of a line, one after the other, or a part of it.
use Rattle.std.proofs.Common.{◌∙◌, subst}
use Rattle.std.specs.Io.KnownBytes.{Appends}
use Rattle.sdm_causes.specs.Text.{brake_part, causes_text, command_part, driver_part}
use Rattle.sdm_causes.proofs.Parts.{line_in_parts}
use Rattle.sdm_io.specs.Told.{AppendsPart}
use Rattle.sdm_run.proofs.CauseTexts.{err_to, of_all, of_first, of_second, of_third, ok_to}
use Rattle.sdm_run.proofs.CertifyLines.{on_err}
use Rattle.sdm_run.proofs.cause_texts.write_causes.Goals as goal

pub returns-in_err-write_piece-clause-err : goal.returns-in_err-write_piece-clause-err
returns-in_err-write_piece-clause-err g c =
    let causes = c.args.causes.now in
    on_err c.from_residual.result _
    (of_first (driver_part causes) (brake_part causes) (command_part causes) (causes_text causes) (line_in_parts causes)
    _ _ (subst (AppendsPart _ _) (c.bytes.ensures.value ∙ c.put_driver_part.ensures) c.in_err-write_piece.ensures.err))

pub returns-in_err-write_piece-2-clause-err : goal.returns-in_err-write_piece-2-clause-err
returns-in_err-write_piece-2-clause-err g c =
    let causes = c.args.causes.now in
    on_err c.from_residual-in_err-write_piece-2.result _
    (of_second (driver_part causes) (brake_part causes) (command_part causes) (causes_text causes) (line_in_parts causes)
    _ _ _ (subst (Appends _ _) (c.bytes.ensures.value ∙ c.put_driver_part.ensures) c.in_ok-write_piece.ensures.ok)
    (subst (AppendsPart _ _) (c.bytes-2.ensures.value ∙ c.put_brake_part.ensures) c.in_err-write_piece-2.ensures.err))

pub returns-clause-ok : goal.returns-clause-ok
returns-clause-ok g c =
    let causes = c.args.causes.now in
    ok_to c.write_piece-3.result _ _
    (λ third. of_all (driver_part causes) (brake_part causes) (command_part causes) (causes_text causes)
    (line_in_parts causes) _ _ _ _
    (subst (Appends _ _) (c.bytes.ensures.value ∙ c.put_driver_part.ensures) c.in_ok-write_piece.ensures.ok)
    (subst (Appends _ _) (c.bytes-2.ensures.value ∙ c.put_brake_part.ensures) c.in_ok-write_piece-2.ensures.ok)
    (subst (Appends _ _) (c.bytes-3.ensures.value ∙ c.put_command_part.ensures) third))
    c.write_piece-3.ensures.ok

pub returns-clause-err : goal.returns-clause-err
returns-clause-err g c =
    let causes = c.args.causes.now in
    err_to c.write_piece-3.result _ _
    (λ third. of_third (driver_part causes) (brake_part causes) (command_part causes) (causes_text causes)
    (line_in_parts causes) _ _ _ _
    (subst (Appends _ _) (c.bytes.ensures.value ∙ c.put_driver_part.ensures) c.in_ok-write_piece.ensures.ok)
    (subst (Appends _ _) (c.bytes-2.ensures.value ∙ c.put_brake_part.ensures) c.in_ok-write_piece-2.ensures.ok)
    (subst (AppendsPart _ _) (c.bytes-3.ensures.value ∙ c.put_command_part.ensures) third))
    c.write_piece-3.ensures.err
