-- The laws.
use Rattle.sdm_live.proofs.DueLines.{due_end, due_later, due_lines}
use Rattle.sdm_live.proofs.laws.law_of_due.Goals as goal

pub returns-clause-lines : goal.returns-clause-lines
returns-clause-lines g c state bytes = due_lines g.S.Step.rules state bytes

pub returns-clause-later : goal.returns-clause-later
returns-clause-later g c state bytes more = due_later g.S.Step.rules state bytes more

pub returns-clause-end : goal.returns-clause-end
returns-clause-end g c state bytes more = due_end g.S.Step.rules state bytes more
