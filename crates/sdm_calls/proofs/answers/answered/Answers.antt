-- Where memory is wanting nothing was written; a command answers the bytes of the input.
use Rattle.std.proofs.Common.{◌∙◌, sym, ap, map, string_bytes}
use Rattle.sdm_calls.proofs.CallAnswers.{command_call, no_memory}
use Rattle.sdm_calls.proofs.answers.answered.Goals as goal

pub returns-in_default-clause-answer : goal.returns-in_default-clause-answer
returns-in_default-clause-answer g c = no_memory _ _ _ _

pub returns-clause-answer : goal.returns-clause-answer
returns-clause-answer g c =
    command_call _ _ _ _ _ (ap (map string_bytes) c.deref-in-Command.ensures.value ∙ c.in-Ok.ensures) c.new-source.ensures
    (rw (c.deref-in-Command.ensures.value, sym c.deref.ensures.value) (sym c.asked_of.ensures ∙ c.in-Command.is))
    c.sdm_main.ensures.answer
