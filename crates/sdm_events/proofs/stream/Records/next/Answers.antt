-- The reader was asked, so the last answer was a record and the reader stands before those that are left.
use Rattle.std.proofs.Common.{◌≡◌, Ok, true, ap}
use Rattle.sdm_events.specs.Left.{Rest}
use Rattle.sdm_events.proofs.Taken.{found_none, found_one}
use Rattle.sdm_events.proofs.stream.Records.next.Goals as goal

pub invariant_of-self-2 : goal.invariant_of-self-2
invariant_of-self-2 c is =
    let was : c.self.inside.last ≡ Ok true = cc in
    (found_one _ _ _ _ _ (c.self.invariant was)
    (ap (λ (r : Rest). r.left) (rw was at c.self.view_is)) c.in-Ok.ensures.reads c.in-Ok.ensures.ready is).0

pub returns-clause-found : goal.returns-clause-found
returns-clause-found c is =
    let was : c.self.inside.last ≡ Ok true = cc in
    (found_one _ _ _ _ _ (c.self.invariant was)
    (ap (λ (r : Rest). r.left) (rw was at c.self.view_is)) c.in-Ok.ensures.reads c.in-Ok.ensures.ready is).1

pub returns-clause-end : goal.returns-clause-end
returns-clause-end c is =
    let was : c.self.inside.last ≡ Ok true = cc in
    found_none _ _ _ _ _ (c.self.invariant was)
    (ap (λ (r : Rest). r.left) (rw was at c.self.view_is)) c.in-Ok.ensures.reads is
