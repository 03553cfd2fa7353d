-- Both guidance curves stand on the slopes of the row, with the feet of their falls.
use Rattle.std.proofs.Common.{◌∙◌, ap, sym}
use Rattle.sdm_rules.specs.Slopes.{meaning_of}
use Rattle.sdm_rules.specs.Targets.{target_speed}
use Rattle.sdm_hiding.specs.declared.rows.Foot.{Foot}
use Rattle.sdm_braking.specs.declared.kept_targets.KeptTarget.{KeptTarget}
use Rattle.sdm_braking.specs.FallFeet.{IsGuidedOn, guide_foot}
use Rattle.sdm_braking.proofs.FootLaws.{hides_by, in_row, kept_foot_at, no_fall, row_at}
use Rattle.sdm_braking.proofs.fall_feet.GuideFeetFeet.hides.Goals as goal

pub is_hidden-requires-clause-made : goal.is_hidden-requires-clause-made
is_hidden-requires-clause-made c = let curve = rw (← c.self.view_is) at c.guide.ensures no_fall in curve.made

pub is_hidden-requires-clause-by_made : goal.is_hidden-requires-clause-by_made
is_hidden-requires-clause-by_made c = let curve = rw (← c.self.view_is) at c.guide-2.ensures no_fall in curve.made

pub is_hidden-requires-clause-speed : goal.is_hidden-requires-clause-speed
is_hidden-requires-clause-speed c =
    let curve = rw (← c.self.view_is) at c.guide.ensures no_fall in
    let one = row_at (IsGuidedOn (meaning_of c.self.inside.map.now)) c.self.inside.falls c.args.i c.target-2.result.now
    c.self.invariant c.target-2.ensures
    (in_row guide_foot c.self.inside.falls c.args.i (rw (← c.self.view_is) at c.requires.hidden)) in
    curve.speed ∙ ap (λ (k : KeptTarget). target_speed k.target) (sym (c.target-2.ensures no_fall))
    ∙ sym one.speeds.permitted

pub is_hidden-requires-clause-by_speed : goal.is_hidden-requires-clause-by_speed
is_hidden-requires-clause-by_speed c =
    let curve = rw (← c.self.view_is) at c.guide-2.ensures no_fall in
    let further = row_at (IsGuidedOn (meaning_of c.self.inside.map.now)) c.self.inside.falls c.args.k c.target.result.now
    c.self.invariant c.target.ensures
    (in_row guide_foot c.self.inside.falls c.args.k (rw (← c.self.view_is) at c.requires.further)) in
    curve.speed ∙ ap (λ (k : KeptTarget). target_speed k.target) (sym (c.target.ensures no_fall))
    ∙ sym further.speeds.permitted

pub returns : goal.returns
returns c h f at_k at_i =
    let ks = c.self.inside.falls in
    let curve = rw (← c.self.view_is) at c.guide.ensures no_fall in
    let by_curve = rw (← c.self.view_is) at c.guide-2.ensures no_fall in
    let one = row_at (IsGuidedOn (meaning_of c.self.inside.map.now)) c.self.inside.falls c.args.i c.target-2.result.now
    c.self.invariant c.target-2.ensures
    (in_row guide_foot c.self.inside.falls c.args.i (rw (← c.self.view_is) at c.requires.hidden)) in
    let further = row_at (IsGuidedOn (meaning_of c.self.inside.map.now)) c.self.inside.falls c.args.k c.target.result.now
    c.self.invariant c.target.ensures
    (in_row guide_foot c.self.inside.falls c.args.k (rw (← c.self.view_is) at c.requires.further)) in
    let by = kept_foot_at guide_foot ks c.args.k h c.target.result.now c.target.ensures
    (rw (← c.self.view_is) at at_k) in
    let is = kept_foot_at guide_foot ks c.args.i f c.target-2.result.now c.target-2.ensures
    (rw (← c.self.view_is) at at_i) in
    rw (← c.self.view_is) (c.is_hidden.ensures ∙ hides_by (meaning_of c.self.inside.map.now) h f _ _ _ _
    (by_curve.place ∙ ap (λ (k : KeptTarget). k.target.place) (sym (c.target.ensures no_fall))
    ∙ ap (λ (x : Foot). x.place) by)
    (further.speeds.permitted ∙ ap (λ (x : Foot). x.speed) by)
    (curve.place ∙ ap (λ (k : KeptTarget). k.target.place) (sym (c.target-2.ensures no_fall))
    ∙ ap (λ (x : Foot). x.place) is)
    (one.speeds.permitted ∙ ap (λ (x : Foot). x.speed) is))
