-- Both EBDs stand on the slopes of the row, with the feet of their falls.
use Rattle.std.proofs.Common.{◌∙◌, ap, sym}
use Rattle.sdm_rules.specs.Slopes.{meaning_of}
use Rattle.sdm_hiding.specs.declared.rows.Foot.{Foot}
use Rattle.sdm_braking.specs.FallFeet.{IsBrakedOn, brake_foot}
use Rattle.sdm_braking.proofs.FootLaws.{hides_by, in_row, kept_foot_at, row_at}
use Rattle.sdm_braking.proofs.fall_feet.BrakeFeetFeet.hides.Goals as goal

pub is_hidden-requires-clause-made : goal.is_hidden-requires-clause-made
is_hidden-requires-clause-made c =
    (row_at (IsBrakedOn (meaning_of c.self.inside.map.now)) c.self.inside.falls c.args.i c.target-one.result.now
    c.self.invariant c.target-one.ensures
    (in_row brake_foot c.self.inside.falls c.args.i (rw (← c.self.view_is) at c.requires.hidden))).curve.made

pub is_hidden-requires-clause-by_made : goal.is_hidden-requires-clause-by_made
is_hidden-requires-clause-by_made c =
    (row_at (IsBrakedOn (meaning_of c.self.inside.map.now)) c.self.inside.falls c.args.k c.target-further.result.now
    c.self.invariant c.target-further.ensures
    (in_row brake_foot c.self.inside.falls c.args.k (rw (← c.self.view_is) at c.requires.further))).curve.made

pub is_hidden-requires-clause-speed : goal.is_hidden-requires-clause-speed
is_hidden-requires-clause-speed c =
    let one = row_at (IsBrakedOn (meaning_of c.self.inside.map.now)) c.self.inside.falls c.args.i c.target-one.result.now
    c.self.invariant c.target-one.ensures
    (in_row brake_foot c.self.inside.falls c.args.i (rw (← c.self.view_is) at c.requires.hidden)) in
    one.curve.speed ∙ sym one.speeds.ebi

pub is_hidden-requires-clause-by_speed : goal.is_hidden-requires-clause-by_speed
is_hidden-requires-clause-by_speed c =
    let further = row_at (IsBrakedOn (meaning_of c.self.inside.map.now)) c.self.inside.falls c.args.k c.target-further.result.now
    c.self.invariant c.target-further.ensures
    (in_row brake_foot c.self.inside.falls c.args.k (rw (← c.self.view_is) at c.requires.further)) in
    further.curve.speed ∙ sym further.speeds.ebi

pub returns : goal.returns
returns c h f at_k at_i =
    let ks = c.self.inside.falls in
    let one = row_at (IsBrakedOn (meaning_of c.self.inside.map.now)) c.self.inside.falls c.args.i c.target-one.result.now
    c.self.invariant c.target-one.ensures
    (in_row brake_foot c.self.inside.falls c.args.i (rw (← c.self.view_is) at c.requires.hidden)) in
    let further = row_at (IsBrakedOn (meaning_of c.self.inside.map.now)) c.self.inside.falls c.args.k c.target-further.result.now
    c.self.invariant c.target-further.ensures
    (in_row brake_foot c.self.inside.falls c.args.k (rw (← c.self.view_is) at c.requires.further)) in
    let by = kept_foot_at brake_foot ks c.args.k h c.target-further.result.now c.target-further.ensures
    (rw (← c.self.view_is) at at_k) in
    let is = kept_foot_at brake_foot ks c.args.i f c.target-one.result.now c.target-one.ensures
    (rw (← c.self.view_is) at at_i) in
    rw (← c.self.view_is) (c.is_hidden.ensures ∙ hides_by (meaning_of c.self.inside.map.now) h f _ _ _ _
    (further.curve.place ∙ ap (λ (x : Foot). x.place) by) (further.speeds.ebi ∙ ap (λ (x : Foot). x.speed) by)
    (one.curve.place ∙ ap (λ (x : Foot). x.place) is) (one.speeds.ebi ∙ ap (λ (x : Foot). x.speed) is))
