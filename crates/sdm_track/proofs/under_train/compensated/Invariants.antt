-- The segments made so far are those of the sweep so far.
use Rattle.sdm_track.proofs.SegmentLaws.{IsSoFar}
use Rattle.sdm_track.proofs.under_train.compensated.Given as goal

abbrev pub invariant-loop-list : goal.invariant-loop-list
invariant-loop-list l = IsSoFar l.entries l.length_cm l.sweep l.list.items

abbrev pub decreases-loop-list : goal.decreases-loop-list
decreases-loop-list l = l.sweep.left
