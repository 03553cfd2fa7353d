-- What is written is the summary, in its text; a refusal is answered with nothing written.
use Rattle.std.proofs.Common.{◌≡◌, ◌∙◌, [], false, sym}
use Rattle.sdm_formats.specs.Flat.{Output}
use Rattle.sdm_run.specs.Answers.{IsAnswer}
use Rattle.sdm_run.specs.Shapes.{drive_shape}
use Rattle.sdm_run.proofs.DriveTexts.{drive_written, refusal}
use Rattle.sdm_run.proofs.drive_run.run_drive.Goals as goal

pub returns-in-Ok-clause-answer : goal.returns-in-Ok-clause-answer
returns-in-Ok-clause-answer g c output of =
    drive_written c.args.seed c.args.cycles _ output of (λ (o : Output).
    IsAnswer o (g.O.Sink.taken c.args.out.now) (g.O.Sink.taken c.written.new.out) c.written.result.outcome) _ _
    c.in-Ok.ensures.summary
    (λ rows counted. c.bytes.ensures.value ∙ c.put.ensures rows counted) c.written.ensures.answer

pub returns-in-Ok-clause-possible : goal.returns-in-Ok-clause-possible
returns-in-Ok-clause-possible g c = c.written.ensures.possible drive_shape

pub returns-in-Err-clause-answer : goal.returns-in-Err-clause-answer
returns-in-Err-clause-answer g c =
    rw c.new.ensures (refusal c.args.seed c.args.cycles _ _ _ c.in-Err.ensures.refused).answer

pub returns-in-Ok-clause-untouched : goal.returns-in-Ok-clause-untouched
returns-in-Ok-clause-untouched g c output of =
    drive_written c.args.seed c.args.cycles _ output of (λ (o : Output). o.text ≡ [] →
    (c.written.result.is_flush_due ≡ false) × (c.written.new.out ≡ c.args.out.now)) _ _ c.in-Ok.ensures.summary
    (λ rows counted. c.bytes.ensures.value ∙ c.put.ensures rows counted)
    (λ o text_is end_is none. c.written.ensures.untouched (sym text_is ∙ none))
