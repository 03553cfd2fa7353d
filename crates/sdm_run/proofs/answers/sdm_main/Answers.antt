-- The promises of a command's rows and of an input that is too long, at the command that the words ask for; and what
-- the bytes that were read are to the input.
use Rattle.std.proofs.Common.{◌≡◌, ◌∙◌, [], Err, ap, refl, sym, subst}
use Rattle.sdm_formats.specs.Flat.{Output}
use Rattle.sdm_report.specs.declared.outcome.Outcome.TheVariants.{Memory, ReadFault}
use Rattle.sdm_run.specs.Answers.{IsAnswer, IsEndOfRecords, NeedsTheWholeInput}
use Rattle.sdm_run.proofs.CommandFacts.{answer_told, of_each_output, of_one_output, rows_told, too_long_told}
use Rattle.sdm_run.proofs.Flushes.{complete_told, told_of_all}
use Rattle.sdm_run.proofs.HeldOutputs.{held_told}
use Rattle.sdm_run.proofs.RunAnswers.{memory_first, unread}
use Rattle.sdm_run.proofs.UpgradeTexts.{read_back_told}
use Rattle.sdm_run.proofs.answers.sdm_main.Goals as goal

pub returns-in-Ok-clause-answer : goal.returns-in-Ok-clause-answer
returns-in-Ok-clause-answer g c =
    rw c.told-in-Ok.ensures.same (of_one_output _ _ _ (answer_told _ _ _ _ _ _
    (sym c.in-Some.ensures.value) c.in-Ok.ensures.whole c.deref.ensures.value c.outcome_to.ensures.answer))

pub returns-in-Ok-clause-read_back : goal.returns-in-Ok-clause-read_back
returns-in-Ok-clause-read_back g c asked whole =
    read_back_told _ _ _ _ _ (sym c.in-Some.ensures.value) c.in-Ok.ensures.whole c.deref.ensures.value
    (λ upgrade. c.outcome_to.ensures.read_back upgrade (subst NeedsTheWholeInput c.told-in-Ok.ensures.same whole)) asked

pub returns-in-Ok-clause-held : goal.returns-in-Ok-clause-held
returns-in-Ok-clause-held g c count asked end =
    held_told _ _ _ _ _ count (sym c.in-Some.ensures.value) c.in-Ok.ensures.whole c.deref.ensures.value
    (λ certify. c.outcome_to.ensures.held count certify (subst IsEndOfRecords c.told-in-Ok.ensures.same end)) asked

pub returns-in-Ok-clause-complete : goal.returns-in-Ok-clause-complete
returns-in-Ok-clause-complete g c =
    let same = c.told-in-Ok.ensures.same in
    complete_told _ _ _ _ _ _ _
    (λ is. absurd (c.outcome_to.ensures.not_before (rw (sym same ∙ is) tt)))
    (λ is. c.outcome_to.ensures.write (sym same ∙ is))
    (of_each_output _ _ _ (returns-in-Ok-clause-answer g c))

pub returns-in-Err-Memory-clause-answer : goal.returns-in-Err-Memory-clause-answer
returns-in-Err-Memory-clause-answer g c =
    rw c.told-in-Err-Memory.ensures.same (of_one_output _ _ _ (told_of_all (λ output.
    IsAnswer output (g.O.Sink.taken c.args.out.now) (g.O.Sink.taken c.args.out.now) Memory) (memory_first _) _ _))

pub returns-in-Err-Fault-clause-answer : goal.returns-in-Err-Fault-clause-answer
returns-in-Err-Fault-clause-answer g c =
    rw c.told-in-Err-Fault.ensures.same (of_one_output _ _ _ (told_of_all (λ output.
    IsAnswer output (g.O.Sink.taken c.args.out.now) (g.O.Sink.taken c.args.out.now) ReadFault) (unread _) _ _))

pub returns-in-Err-TooLong-clause-answer : goal.returns-in-Err-TooLong-clause-answer
returns-in-Err-TooLong-clause-answer g c =
    rw c.told-in-Err-TooLong.ensures.same (of_one_output _ _ _ (too_long_told _ _ _ _
    (sym c.in-Some.ensures.value) c.in-Err-TooLong.ensures.reads
    (c.in-Err-TooLong.ensures.too_long (ap Err c.in-Err-TooLong.field-0-is))))

pub returns-in-Ok-clause-rows : goal.returns-in-Ok-clause-rows
returns-in-Ok-clause-rows g c = rows_told _ _ _ (sym c.in-Some.ensures.value) c.in-Some.ensures.range

pub returns-in-Err-Fault-clause-rows : goal.returns-in-Err-Fault-clause-rows
returns-in-Err-Fault-clause-rows g c = rows_told _ _ _ (sym c.in-Some.ensures.value) c.in-Some.ensures.range

pub returns-in-Err-TooLong-clause-rows : goal.returns-in-Err-TooLong-clause-rows
returns-in-Err-TooLong-clause-rows g c = rows_told _ _ _ (sym c.in-Some.ensures.value) c.in-Some.ensures.range

pub returns-in-Err-Memory-clause-rows : goal.returns-in-Err-Memory-clause-rows
returns-in-Err-Memory-clause-rows g c = rows_told _ _ _ (sym c.in-Some.ensures.value) c.in-Some.ensures.range

pub returns-in-Ok-clause-untouched : goal.returns-in-Ok-clause-untouched
returns-in-Ok-clause-untouched g c =
    answer_told _ _ _ _ _ (λ (output : Output). output.text ≡ [] → c.outcome_to.new.out ≡ c.args.out.now)
    (sym c.in-Some.ensures.value) c.in-Ok.ensures.whole c.deref.ensures.value c.outcome_to.ensures.untouched

pub returns-in-Err-Fault-clause-untouched : goal.returns-in-Err-Fault-clause-untouched
returns-in-Err-Fault-clause-untouched g c =
    told_of_all (λ (output : Output). output.text ≡ [] → c.args.out.now ≡ c.args.out.now) (λ output none. refl) _ _

pub returns-in-Err-TooLong-clause-untouched : goal.returns-in-Err-TooLong-clause-untouched
returns-in-Err-TooLong-clause-untouched g c =
    told_of_all (λ (output : Output). output.text ≡ [] → c.args.out.now ≡ c.args.out.now) (λ output none. refl) _ _

pub returns-in-Err-Memory-clause-untouched : goal.returns-in-Err-Memory-clause-untouched
returns-in-Err-Memory-clause-untouched g c =
    told_of_all (λ (output : Output). output.text ≡ [] → c.args.out.now ≡ c.args.out.now) (λ output none. refl) _ _
