-- The cell lies in the last segment that starts at most there, and has its value.
use Rattle.std.proofs.Common.{◌<◌, length, int_le, w16, ◌∙◌, arith, rules}
use Rattle.std.proofs.lemmas.Int.{to_z-of_z}
use Rattle.std.proofs.lemmas.List.Sorted.{IsPartitionPoint-from_clause}
use Rattle.sdm_track.specs.declared.under_train.Segment.{Segment}
use Rattle.sdm_track.specs.Steps.{IsRising, LiesIn}
use Rattle.sdm_track.proofs.StepLaws.{starts_parted, lies_in_last}
use Rattle.sdm_track.proofs.SegmentLaws.{read_is}
use Rattle.sdm_track.proofs.under_train.Segments.at.Goals as goal

pub returns-clause-value : goal.returns-clause-value
returns-clause-value c =
    let slice = c.deref.result.now in
    let start = λ (s : Segment). s.start in
    let begun = c.partition_point-begun.result in
    let rise : IsRising start slice = rw c.deref.ensures.value c.self.invariant.rise in
    let some : 0 < length slice = rw c.deref.ensures.value c.self.invariant.some in
    let parts = IsPartitionPoint-from_clause (λ (s : Segment).
    int_le s.start c.args.cell) slice begun c.partition_point-begun.ensures.partitioned
    (starts_parted start slice c.args.cell rise) (λ a r f called. search rules) in
    let lies : LiesIn start c.self.inside.list.items c.saturating_sub.result c.args.cell =
    rw c.deref.ensures.value at (lies_in_last start slice c.args.cell begun c.saturating_sub.result some
    c.partition_point-begun.ensures.bound (omega arith) parts) in
    to_z-of_z w16 c.index.result.now.value (search rules) ∙ rw c.self.view_is at
    (read_is c.self.inside.list.items c.saturating_sub.result c.args.cell c.index.result.now c.self.invariant.rise
    lies c.index.ensures)
