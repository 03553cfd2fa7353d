-- Each change of the sweep keeps the segments right up to its cell.
use Rattle.std.proofs.Common.{arith, refl, ap}
use Rattle.std.proofs.lemmas.Int.{ints}
use Rattle.sdm_track.specs.declared.under_train.Segment.{Segment}
use Rattle.sdm_track.proofs.SegmentLaws.{so_far_on}
use Rattle.sdm_track.proofs.under_train.compensated.Goals as goal

pub add-requires-clause-later : goal.add-requires-clause-later
add-requires-clause-later c = λ k d l.
    let begun = c.loop-list.invariant.begun k d l in
    let later = c.loop-list-test.ensures.later refl in
    rw (ap (λ (s : Segment). s.start) c.of_sweep-in-loop-list.ensures.value) (omega (arith, ints))

pub loop-list-preserved : goal.loop-list-preserved
loop-list-preserved c =
    let next = c.loop-list-test.ensures in
    so_far_on c.args.entries.now c.args.length_cm _ _ c.loop-list.invariant _ _ _ next.entries next.train
    (next.later refl) (next.fewer refl) (next.same refl) c.of_sweep-in-loop-list.ensures.value c.in_ok-add.ensures.value
    c.in_ok-add.ensures.in_range
