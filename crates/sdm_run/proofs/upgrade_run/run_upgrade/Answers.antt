-- What is written is the text of the upgrade.
use Rattle.std.proofs.Common.{◌≡◌, ◌∙◌, ℕ, List, ap, subst, sym}
use Rattle.sdm_formats.specs.Flat.{Output}
use Rattle.sdm_formats.specs.Input as ends
use Rattle.sdm_run.specs.Answers.{IsAnswer}
use Rattle.sdm_run.specs.Shapes.{upgrade_shape}
use Rattle.sdm_run.proofs.UpgradeTexts.{text_written}
use Rattle.sdm_run.proofs.upgrade_run.run_upgrade.Goals as goal

pub returns-in-Ok-clause-answer : goal.returns-in-Ok-clause-answer
returns-in-Ok-clause-answer g c =
    text_written _ _ _ _ _ c.in-Ok.ensures.text
    (subst (λ (text : List ℕ). (output : Output) → output.text ≡ text → output.end ≡ ends.Done →
    IsAnswer output (g.O.Sink.taken c.args.out.now) (g.O.Sink.taken c.written.new.out) c.written.result.outcome)
    (c.as_bytes.ensures.value ∙ c.as_str.ensures.value) c.written.ensures.answer)

pub returns-in-Ok-clause-possible : goal.returns-in-Ok-clause-possible
returns-in-Ok-clause-possible g c = c.written.ensures.possible upgrade_shape

pub returns-in-Ok-clause-untouched : goal.returns-in-Ok-clause-untouched
returns-in-Ok-clause-untouched g c none =
    let text_is = ap (λ (o : Output). o.text) c.in-Ok.ensures.text.output_is in
    c.written.ensures.untouched (c.as_bytes.ensures.value ∙ c.as_str.ensures.value ∙ sym text_is ∙ none)
