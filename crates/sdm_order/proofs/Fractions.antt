-- Computed limits are fractions: each is a whole place less so many grains, or the lesser of two such.
use Rattle.std.proofs.Common.{◌≡◌, ℕ, ℤ, ◌<◌, true, false, Option, Some, None, arith, subst, if◌then◌else◌}
use Rattle.std.specs.Prelude.{option_map}
use Rattle.sdm_num.specs.Fractions.{Fraction, less, whole}
use Rattle.sdm_num.specs.Readings.{Estimate}
use Rattle.sdm_num.specs.Units.{distance_at}
use Rattle.sdm_num.proofs.Order.{lesser_cases}
use Rattle.sdm_rules.specs.declared.data.SlopeKind.TheVariants.{Expected, Normal, Safe}
use Rattle.sdm_rules.specs.declared.data.Times.{Times}
use Rattle.sdm_rules.specs.declared.limits.LimitKind.{LimitKind}
use Rattle.sdm_rules.specs.declared.limits.LimitKind.TheVariants.{Ebi, Sbi, Warning, Permitted, Indication}
use Rattle.sdm_rules.specs.declared.targets.Target.{Target}
use Rattle.sdm_rules.specs.declared.targets.TargetKind.{TargetKind}
use Rattle.sdm_rules.specs.declared.targets.TargetKind.TheVariants.{Eoa, Loa, Mrsp, Svl}
use Rattle.sdm_rules.specs.Curves.{stepped}
use Rattle.sdm_rules.specs.Data.{TrainAndTrack}
use Rattle.sdm_rules.specs.Decelerations.{slopes_of}
use Rattle.sdm_rules.specs.Limits.{SupervisionLimits, computed, d_bec_for, ebd_limits_of, guidance_place, limit_in}
use Rattle.sdm_rules.specs.Limits.{limits_from_sbi, limits_of, limits_of_kind, sbd_limits_of, v_bec_for}
use Rattle.sdm_rules.specs.Reaction.{driver_time, reaction_times}
use Rattle.sdm_rules.specs.Targets.{foot_speed_of, target_speed}
use Rattle.sdm_order.specs.AskedTargets.{AreFractions}

-- the limits that there are of these are fractions
record HasFractions (l : SupervisionLimits) : Type 0 where
  each : (kind : LimitKind) (x : Fraction) → limit_in kind l ≡ Some x → 0 < x.m

-- where the EBI and the SBI are, and the permitted limit is
with_permitted : (times : Times) (v : ℕ) (guide ebi : Option Fraction) (sbi : Fraction) →
    ((x : Fraction) → ebi ≡ Some x → 0 < x.m) → 0 < sbi.m →
    0 < (limits_from_sbi times v guide ebi sbi).permitted.m → HasFractions (limits_from_sbi times v guide ebi sbi)
with_permitted times v guide ebi sbi ebi_is sbi_is permitted_is = record {
  each = λ kind. elim kind as (λ (k : LimitKind). (x : Fraction) →
      limit_in k (limits_from_sbi times v guide ebi sbi) ≡ Some x → 0 < x.m) [
        | Ebi ↦ ebi_is
        | Sbi ↦ one_of sbi sbi_is
        | Warning ↦ one_of (limits_from_sbi times v guide ebi sbi).warning sbi_is
        | Permitted ↦ one_of (limits_from_sbi times v guide ebi sbi).permitted permitted_is
        | Indication ↦ one_of (limits_from_sbi times v guide ebi sbi).indication permitted_is
      ];
}
  where
    one_of : (y : Fraction) → 0 < y.m → (x : Fraction) → Some y ≡ Some x → 0 < x.m
    one_of y is x same = let e : y ≡ x = cc in rw e at is

-- from a whole SBI and a whole place of a guidance curve, where there is one
from_whole : (times : Times) (v : ℕ) (guide : Option ℤ) (ebi : Option Fraction) (z : ℤ) →
    ((x : Fraction) → ebi ≡ Some x → 0 < x.m) →
    HasFractions (limits_from_sbi times v (option_map whole guide) ebi (whole z))
from_whole times v None ebi z ebi_is = with_permitted times v None ebi (whole z) ebi_is (omega arith) (omega arith)
from_whole times v (Some g) ebi z ebi_is =
    with_permitted times v (Some (whole g)) ebi (whole z) ebi_is (omega arith)
    (lesser_cases (λ (x : Fraction). 0 < x.m) (whole g) (less (whole z) (distance_at v driver_time))
    (λ le. omega arith) (λ le. omega arith))

-- ---- the limits of a target

module _ (d : TrainAndTrack) (e : Estimate) (t : Target) where
  of_ebd : (guide : Option ℤ) → HasFractions (ebd_limits_of computed d e t (option_map whole guide))
  of_ebd guide =
      let ebi = less (whole (stepped (slopes_of Safe d) t.place (foot_speed_of t) (v_bec_for d e t))) (d_bec_for d e t)
      in
      let above_0 : 0 < ebi.m = omega arith in
      from_whole (reaction_times d) e.speed guide (Some ebi)
      (less ebi (distance_at e.speed (reaction_times d).bs)).n
      (λ x is. (let same : ebi ≡ x = cc in subst (λ (y : Fraction). 0 < y.m) same above_0))

  of_sbd : (guide : Option ℤ) → HasFractions (sbd_limits_of computed d e t (option_map whole guide))
  of_sbd guide =
      from_whole (reaction_times d) e.speed guide None
      (less (whole (stepped (slopes_of Expected d) t.place 0 e.speed)) (distance_at e.speed (reaction_times d).bs)).n
      (λ x is. cc)

  -- a guide is at a whole place, where there is one
  guided : (P : Option Fraction → Type 0) → ((guide : Option ℤ) → P (option_map whole guide)) →
      P (guidance_place computed d e t)
  guided P h =
      let place = stepped (slopes_of Normal d) t.place (target_speed t) e.speed in
      elim d.national.guidance as (λ b. P (if b then Some (whole place) else None)) [
        | true ↦ h (Some place)
        | false ↦ h None
      ]

  of_kind : (kind : TargetKind) → HasFractions (limits_of_kind computed d e t kind)
  of_kind Mrsp = guided (λ g. HasFractions (ebd_limits_of computed d e t g)) of_ebd
  of_kind Loa = guided (λ g. HasFractions (ebd_limits_of computed d e t g)) of_ebd
  of_kind Eoa = guided (λ g. HasFractions (sbd_limits_of computed d e t g)) of_sbd
  of_kind Svl = of_ebd None

  of_target : HasFractions (limits_of computed d e t)
  unfolding limits_of
  of_target = of_kind t.kind

pub limits_are_fractions : (d : TrainAndTrack) (e : Estimate) (kind : LimitKind) →
    AreFractions (λ t. limit_in kind (limits_of computed d e t))
limits_are_fractions d e kind t = (of_target d e t).each kind
