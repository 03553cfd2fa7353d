-- Where the last segment has the gradient it goes on, otherwise there is one more.
use Rattle.std.proofs.Common.{w16, ap, sym, rules, ◌∙◌, of_z, to_z}
use Rattle.std.proofs.lemmas.Int.{to_z-of_z}
use Rattle.sdm_track.proofs.SegmentLaws.{goes_on_same, segments_more}
use Rattle.sdm_track.proofs.under_train.add.Goals as goal

pub returns-in_ok-push-clause-in_range : goal.returns-in_ok-push-clause-in_range
returns-in_ok-push-clause-in_range c = rw c.in_ok-push.ensures.items
    (segments_more c.args.list.now.items c.args.segment c.index.result.now c.requires.before c.requires.later
    c.requires.segment c.requires.room (search rules) (λ e. c.if-index-segment.true (ap (of_z w16) e)))

pub returns-else-index-segment-clause-value : goal.returns-else-index-segment-clause-value
returns-else-index-segment-clause-value c =
    goes_on_same c.args.list.now.items c.args.segment c.index.result.now c.requires.before c.requires.later
    (search rules) (sym (to_z-of_z w16 c.index.result.now.value (search rules)) ∙ ap (to_z w16) c.if-index-segment.false
    ∙ to_z-of_z w16 c.args.segment.value (search rules))
