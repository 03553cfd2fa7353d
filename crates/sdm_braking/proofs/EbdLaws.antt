-- A target that the emergency brake supervises has an EBD, and its EBI does not depend on its guidance curve.
use Rattle.std.proofs.Common.{◌≡◌, Option, None, subst}
use Rattle.std.specs.Bool.{⊤}
use Rattle.sdm_num.specs.Fractions.{Fraction}
use Rattle.sdm_num.specs.Readings.{Estimate}
use Rattle.sdm_rules.specs.declared.data.SlopeKind.{SlopeKind}
use Rattle.sdm_rules.specs.declared.data.SlopeKind.TheVariants.{Expected, Normal, Safe}
use Rattle.sdm_rules.specs.declared.targets.TargetKind.{TargetKind}
use Rattle.sdm_rules.specs.declared.targets.TargetKind.TheVariants.{Mrsp, Loa, Eoa, Svl}
use Rattle.sdm_rules.specs.declared.targets.Target.{Target}
use Rattle.sdm_rules.specs.Data.{TrainAndTrack}
use Rattle.sdm_rules.specs.Decelerations.{slopes_of}
use Rattle.sdm_rules.specs.Limits.{CurvePlaces, ebd_limits_of, guidance_place, limits_of, limits_of_kind}
use Rattle.sdm_rules.specs.Targets.{foot_speed_of}
use Rattle.sdm_braking.specs.declared.kept_targets.KeptTarget.{KeptTarget}
use Rattle.sdm_braking.specs.KeptCurves.{IsCurveOn, IsKeptTarget, brake_kind}

-- the curve that is kept is an EBD
pub ebd_of : (d : TrainAndTrack) (k : KeptTarget) → brake_kind k.target.kind ≡ Safe → IsKeptTarget d k →
    IsCurveOn (slopes_of Safe d) k.target.place (foot_speed_of k.target) k.brake
ebd_of d k safe kept = subst (λ (kind : SlopeKind).
    IsCurveOn (slopes_of kind d) k.target.place (foot_speed_of k.target) k.brake) safe kept.brake

-- no other slopes are the safe ones
abbrev IsOther : SlopeKind → Type 0
IsOther Safe = ⊥
IsOther Expected = ⊤
IsOther Normal = ⊤

-- an EBI that is that of the EBD, whatever the guide, is that of the target
ebi_of_kind : (P : CurvePlaces) (d : TrainAndTrack) (e : Estimate) (t : Target) (ebi : Option Fraction)
    (kind : TargetKind) → brake_kind kind ≡ Safe →
    ((guide : Option Fraction) → ebi ≡ (ebd_limits_of P d e t guide).ebi) → ebi ≡ (limits_of_kind P d e t kind).ebi
ebi_of_kind P d e t ebi Mrsp safe is = is (guidance_place P d e t)
ebi_of_kind P d e t ebi Loa safe is = is (guidance_place P d e t)
ebi_of_kind P d e t ebi Eoa safe is = absurd (subst IsOther safe tt)
ebi_of_kind P d e t ebi Svl safe is = is None

-- so it is of the target's own kind
pub ebi_of : (P : CurvePlaces) (d : TrainAndTrack) (e : Estimate) (t : Target) (ebi : Option Fraction) →
    brake_kind t.kind ≡ Safe →
    ((guide : Option Fraction) → ebi ≡ (ebd_limits_of P d e t guide).ebi) → ebi ≡ (limits_of P d e t).ebi
unfolding limits_of
ebi_of P d e t ebi safe is = ebi_of_kind P d e t ebi t.kind safe is
