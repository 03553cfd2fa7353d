-- The foot is that of the fall, by its speeds.
use Rattle.sdm_rules.specs.Slopes.{meaning_of}
use Rattle.sdm_braking.specs.FallFeet.{IsBrakedOn, brake_foot}
use Rattle.sdm_braking.proofs.FootLaws.{in_row, kept_foot_there, row_at}
use Rattle.sdm_braking.proofs.fall_feet.BrakeFeetFeet.foot.Goals as goal

pub returns : goal.returns
returns c =
    let ks = c.self.inside.falls in
    let kept = c.target-kept.result.now in
    let known = in_row brake_foot ks c.args.i (rw (← c.self.view_is) at c.requires) in
    let row = row_at (IsBrakedOn (meaning_of c.self.inside.map.now)) ks c.args.i kept c.self.invariant c.target-kept.ensures
    known in
    rw (← c.self.view_is) (kept_foot_there brake_foot ks c.args.i _ kept c.target-kept.ensures known
    (λ j. record { place = kept.target.place; permitted = row.speeds.permitted j; speed = row.speeds.ebi j }))
