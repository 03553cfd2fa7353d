-- The gradient stays up to the next change; for good where there is none.
use Rattle.sdm_track.proofs.SweepLaws.{same_from, same_until}
use Rattle.sdm_track.proofs.sweep.Sweep.next.Goals as goal

pub returns-then-self-clause-last : goal.returns-then-self-clause-last
returns-then-self-clause-last c = λ _. rw (← c.self.view_is) (same_from _ _ _ _ _ _ _ c.self.invariant c.if-self.true)

pub returns-clause-same : goal.returns-clause-same
returns-clause-same c = λ _. rw (← c.self.view_is)
    (same_until _ _ _ _ _ _ _ c.self.invariant _ c.if-self.false c.first_change-change.ensures)
