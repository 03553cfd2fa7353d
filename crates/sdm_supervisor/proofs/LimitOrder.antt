-- The indication limit of a target is the first of its computed limits: each lies so many grains before another one,
-- or is the lesser of two places. So a front end that is not past it is past none.
use Rattle.std.proofs.Common.{◌≡◌, ℕ, ℤ, pos, neg_ℤ, true, false, ◌*◌, ◌+ℤ◌, ◌*ℤ◌, ◌≤ℤ◌, int_lt, Option, Some, None}
use Rattle.std.proofs.Common.{refl, arith, if◌then◌else◌}
use Rattle.std.specs.Prelude.{option_map}
use Rattle.std.specs.Option.{option_map_or}
use Rattle.std.proofs.lemmas.Int.{ints}
use Rattle.sdm_num.specs.Units.{distance_at}
use Rattle.sdm_num.specs.Fractions.{Fraction, less, lesser, whole}
use Rattle.sdm_num.specs.Readings.{Estimate}
use Rattle.sdm_num.proofs.Comparisons.{not_lt_is, not_lt_of}
use Rattle.sdm_num.proofs.Order.{lesser_cases}
use Rattle.sdm_rules.specs.declared.data.SlopeKind.TheVariants.{Safe, Expected, Normal}
use Rattle.sdm_rules.specs.declared.data.Times.{Times}
use Rattle.sdm_rules.specs.declared.limits.LimitKind.{LimitKind}
use Rattle.sdm_rules.specs.declared.limits.LimitKind.TheVariants.{Ebi, Sbi, Warning, Permitted, Indication}
use Rattle.sdm_rules.specs.declared.targets.Target.{Target}
use Rattle.sdm_rules.specs.declared.targets.TargetKind.{TargetKind}
use Rattle.sdm_rules.specs.declared.targets.TargetKind.TheVariants.{Mrsp, Loa, Eoa, Svl}
use Rattle.sdm_rules.specs.Curves.{stepped}
use Rattle.sdm_rules.specs.Data.{TrainAndTrack}
use Rattle.sdm_rules.specs.Decelerations.{slopes_of}
use Rattle.sdm_rules.specs.Limits.{SupervisionLimits, computed, d_bec_for, ebd_limits_of, guidance_place}
use Rattle.sdm_rules.specs.Limits.{limit_in, limits_from_sbi, limits_of, limits_of_kind, sbd_limits_of, v_bec_for}
use Rattle.sdm_rules.specs.Reaction.{driver_time, reaction_times, warning_time}
use Rattle.sdm_rules.specs.Targets.{foot_speed_of, target_speed}
use Rattle.sdm_rules.specs.Triggers.{is_past}

-- a front end is past none of these limits
pub record IsPastNone (front : ℤ) (l : SupervisionLimits) : Type 0 where
  pub each : (kind : LimitKind) → option_map_or (is_past 0 front) (limit_in kind l) false ≡ false

-- what is not past a place is not past a later one
later : (a b front : ℤ) → a ≤ℤ b → int_lt a front ≡ false → int_lt b front ≡ false
later a b front le ahead = not_lt_is b front (omega (arith, ints, not_lt_of a front ahead))

-- a place lies past itself less some grains
of_less : (front : ℤ) (x : Fraction) (k : ℕ) → is_past 0 front (less x k) ≡ false → is_past 0 front x ≡ false
of_less front x k ahead =
    later (x.n +ℤ neg_ℤ (pos (k * x.m))) x.n (pos x.m *ℤ (front +ℤ pos 0)) (omega (arith, ints)) ahead

-- the second of two places lies at or past the lesser of both
of_lesser : (front x y : ℤ) → is_past 0 front (lesser (whole x) (whole y)) ≡ false → is_past 0 front (whole y) ≡ false
of_lesser front x y =
    lesser_cases (λ z. is_past 0 front z ≡ false → is_past 0 front (whole y) ≡ false) (whole x) (whole y)
    (λ le. later x y (pos 1 *ℤ (front +ℤ pos 0)) (omega (arith, ints, le.crossed)))
    (λ le ahead. ahead)

-- where a front end is not past what the driver's time asks for, it is past none of these
module _ (front z : ℤ) (times : Times) (v : ℕ) (ebi : Option Fraction)
    (of_ebi : is_past 0 front (whole z) ≡ false → option_map_or (is_past 0 front) ebi false ≡ false) where
  -- where it is past neither what the driver's time asks for nor the permitted and the indication limit
  of_driver : (guide : Option Fraction) → is_past 0 front (less (whole z) (distance_at v driver_time)) ≡ false →
      is_past 0 front (limits_from_sbi times v guide ebi (whole z)).permitted ≡ false →
      is_past 0 front (limits_from_sbi times v guide ebi (whole z)).indication ≡ false →
      IsPastNone front (limits_from_sbi times v guide ebi (whole z))
  of_driver guide driver permitted indication =
      let sbi = of_less front (whole z) (distance_at v driver_time) driver in
      record {
        each = λ kind.
            elim kind as (λ k. option_map_or (is_past 0 front)
            (limit_in k (limits_from_sbi times v guide ebi (whole z))) false ≡ false) [
              | Ebi ↦ of_ebi sbi
              | Sbi ↦ sbi
              | Warning ↦
                  later (z +ℤ neg_ℤ (pos (distance_at v driver_time * 1)))
                  (z +ℤ neg_ℤ (pos (distance_at v warning_time * 1))) (pos 1 *ℤ (front +ℤ pos 0))
                  (omega (arith, ints)) driver
              | Permitted ↦ permitted
              | Indication ↦ indication
            ];
      }

  -- where it isn't past the indication limit
  of_indication : (guide : Option ℤ) →
      is_past 0 front (limits_from_sbi times v (option_map whole guide) ebi (whole z)).indication ≡ false →
      IsPastNone front (limits_from_sbi times v (option_map whole guide) ebi (whole z))
  of_indication None ahead =
      let driver = of_less front (less (whole z) (distance_at v driver_time)) (distance_at v times.indication) ahead in
      of_driver None driver driver ahead
  of_indication (Some g) ahead =
      let permitted = of_less front (lesser (whole g) (less (whole z) (distance_at v driver_time)))
      (distance_at v times.indication) ahead in
      of_driver (Some (whole g))
      (of_lesser front g (z +ℤ neg_ℤ (pos (distance_at v driver_time * 1))) permitted) permitted ahead

-- ---- the limits of a target

module _ (d : TrainAndTrack) (e : Estimate) (t : Target) (front : ℤ) where
  -- so of the limits by the EBD
  ebd : (guide : Option ℤ) → is_past 0 front (ebd_limits_of computed d e t (option_map whole guide)).indication
      ≡ false → IsPastNone front (ebd_limits_of computed d e t (option_map whole guide))
  ebd guide =
      let bs = distance_at e.speed (reaction_times d).bs in
      let ebi = stepped (slopes_of Safe d) t.place (foot_speed_of t) (v_bec_for d e t)
      +ℤ neg_ℤ (pos (d_bec_for d e t * 1)) in
      of_indication front (ebi +ℤ neg_ℤ (pos (bs * 1))) (reaction_times d) e.speed (Some (whole ebi))
      (of_less front (whole ebi) bs) guide

  -- so of those by the SBD
  sbd : (guide : Option ℤ) → is_past 0 front (sbd_limits_of computed d e t (option_map whole guide)).indication
      ≡ false → IsPastNone front (sbd_limits_of computed d e t (option_map whole guide))
  sbd guide =
      let sbi = stepped (slopes_of Expected d) t.place 0 e.speed
      +ℤ neg_ℤ (pos (distance_at e.speed (reaction_times d).bs * 1)) in
      of_indication front sbi (reaction_times d) e.speed None (λ _. refl) guide

  -- a guide is at a whole place, where there is one
  guided : (P : Option Fraction → Type 0) → ((guide : Option ℤ) → P (option_map whole guide)) →
      P (guidance_place computed d e t)
  guided P h =
      let place = stepped (slopes_of Normal d) t.place (target_speed t) e.speed in
      elim d.national.guidance as (λ b. P (if b then Some (whole place) else None)) [
        | true ↦ h (Some place)
        | false ↦ h None
      ]

  -- so of the limits of each kind of target
  of_kind : (kind : TargetKind) → is_past 0 front (limits_of_kind computed d e t kind).indication ≡ false →
      IsPastNone front (limits_of_kind computed d e t kind)
  of_kind Mrsp = guided (λ g. is_past 0 front (ebd_limits_of computed d e t g).indication ≡ false →
      IsPastNone front (ebd_limits_of computed d e t g)) ebd
  of_kind Loa = guided (λ g. is_past 0 front (ebd_limits_of computed d e t g).indication ≡ false →
      IsPastNone front (ebd_limits_of computed d e t g)) ebd
  of_kind Eoa = guided (λ g. is_past 0 front (sbd_limits_of computed d e t g).indication ≡ false →
      IsPastNone front (sbd_limits_of computed d e t g)) sbd
  of_kind Svl = ebd None

  -- up to the indication limit no limit of a target is passed
  pub past_none : is_past 0 front (limits_of computed d e t).indication ≡ false →
      IsPastNone front (limits_of computed d e t)
  unfolding limits_of
  past_none = of_kind t.kind
