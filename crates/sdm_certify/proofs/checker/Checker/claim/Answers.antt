-- The claim was read from the lines that the checker holds.
use Rattle.std.proofs.Common.{refl}
use Rattle.sdm_certify.proofs.checker.Checker.claim.Goals as goal

pub returns-in-Ok-Some-clause-answer : goal.returns-in-Ok-Some-clause-answer
returns-in-Ok-Some-clause-answer c = rw (← c.self.view_is) (record {
  certified = record { claim = c.in-Ok-Some.claim; marks = c.read_claim.new.marks.items };
  read = rw (c.in-Ok-Some.field-0-is, c.again-lines.ensures) at c.in-Ok-Some.ensures.claim;
  made = refl;
  answer = record { time = refl; yes = rw c.deref.ensures.value at c.is_shown-yes.ensures.exact };
  stops = c.is_shown-yes.ensures.stops;
})
