-- What was gathered is what came of the text.
use Rattle.std.proofs.Common.{rules}
use Rattle.sdm_calls.proofs.CallAnswers.{of_asked}
use Rattle.sdm_calls.proofs.CallTexts.{begins, whole}
use Rattle.sdm_calls.proofs.sdm_calls_into.Goals as goal

pub returns : goal.returns
returns c = record {
  told = record {
    outcome = c.gathered_answer-outcome.result.0;
    text = c.gathered_answer-outcome.result.1.taken;
    answer = c.gathered_answer-outcome.ensures.answer;
    begins = of_asked _ _ _ _ _ (λ output h. begins output _ _ h.taken) c.gathered_answer-outcome.ensures.answer;
    whole = λ write memory. of_asked _ _ _ _ _
        (λ output h. whole output _ _ c.gathered_answer-outcome.ensures.no_reading write memory h)
        c.gathered_answer-outcome.ensures.answer;
    usage = c.gathered_answer-outcome.ensures.usage;
    nothing = c.gathered_answer-outcome.ensures.nothing;
    no_reading = c.gathered_answer-outcome.ensures.no_reading;
    code_is = search rules;
    line = search rules;
    count = search rules;
    front = search rules;
    rest = search rules;
  };
}
