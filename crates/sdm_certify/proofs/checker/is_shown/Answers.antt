-- There is a map, so what `holds` says of it is what is asked.
use Rattle.sdm_certify.proofs.checker.is_shown.Goals as goal

pub returns-in-Some-clause-stops : goal.returns-in-Some-clause-stops
returns-in-Some-clause-stops c = λ yes. rw c.in-Some.is (c.holds.ensures.stops yes)
