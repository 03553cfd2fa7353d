-- An EBD stands on the safe slopes, and a guidance curve's place lies near the origin.
use Rattle.std.proofs.Common.{◌≡◌, Option, subst, rules}
use Rattle.std.specs.Prelude.{IfSome}
use Rattle.sdm_num.specs.Bounds.{Bound}
use Rattle.sdm_rules.specs.declared.data.SlopeKind.TheVariants.{Safe}
use Rattle.sdm_limits.specs.Ranges.{IsNearZero, reach}
use Rattle.sdm_braking.specs.KeptCurves.{brake_kind}
use Rattle.sdm_braking.proofs.EbdLaws.{ebd_of}
use Rattle.sdm_braking.proofs.braking.Braking.limits.Goals as goal
use Rattle.sdm_braking.proofs.braking.Braking.limits.Goals.{in-Some-Some, in_default}

pub place_asked-place-requires-clause-made : goal.place_asked-place-requires-clause-made
place_asked-place-requires-clause-made c =
    let safe : brake_kind c.args.kept.now.target.kind ≡ Safe = search rules in
    rw c.safe.ensures.slopes (ebd_of c.args.self.now c.args.kept.now safe c.requires.kept).made

pub limits_at-requires-clause-guide : goal.limits_at-requires-clause-guide
limits_at-requires-clause-guide c =
    let near : IfSome c.match-kept.guide (λ g. IsNearZero reach g.at) = elim c.match-kept.branch [
      | in-Some-Some w ↦ rw w.guide-is w.place_asked.ensures.range
      | in_default w ↦ rw w.guide-is tt
    ] in
    λ g is. subst (λ (o : Option Bound). IfSome o (λ b. IsNearZero reach b.at)) is near
