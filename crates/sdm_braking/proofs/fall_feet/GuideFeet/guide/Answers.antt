-- Where guidance is permitted each fall has a guidance curve.
use Rattle.std.proofs.Common.{subst}
use Rattle.sdm_rules.specs.Slopes.{meaning_of}
use Rattle.sdm_braking.specs.FallFeet.{IsGuideOn, IsGuidedOn}
use Rattle.sdm_braking.proofs.FootLaws.{row_at}
use Rattle.sdm_braking.proofs.fall_feet.GuideFeet.guide.Goals as goal

pub unreachable-requires : goal.unreachable-requires
unreachable-requires c =
    let on = meaning_of c.self.inside.map.now in
    let kept = c.target.result.now in
    subst (IsGuideOn on kept.target) c.in_default.is
    (row_at (IsGuidedOn on) c.self.inside.falls c.args.i kept c.self.invariant c.target.ensures
    (rw (← c.self.view_is) at c.requires)).curve
