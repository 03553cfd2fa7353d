-- Each computed limit is within the slack of the bands of the exact one: the place of the curve is, and the operations of
-- limits keep it.
use Rattle.std.proofs.Common.{◌≡◌, ℕ, ℤ, pos, ◌*◌, ◌<◌, ◌≤◌, ◌+ℤ◌, ◌*ℤ◌, ◌≤ℤ◌, true, false, Option, Some, None, length}
use Rattle.std.proofs.Common.{arith, subst, sym}
use Rattle.std.specs.Prelude.{if◌then◌else◌}
use Rattle.std.specs.Option.{option_map_or}
use Rattle.std.proofs.lemmas.Int.{ints}
use Rattle.sdm_num.specs.Units.{distance_at, notches}
use Rattle.sdm_num.specs.Fractions.{Fraction, IsAtMost, less, lesser, more, whole}
use Rattle.sdm_num.specs.Readings.{OdometerReading, estimate_of}
use Rattle.sdm_num.proofs.Ints.{scales}
use Rattle.sdm_num.proofs.Order.{at_most_refl, at_most_trans, lesser_cases}
use Rattle.sdm_rules.specs.declared.data.SlopeKind.{SlopeKind}
use Rattle.sdm_rules.specs.declared.data.SlopeKind.TheVariants.{Safe, Expected, Normal}
use Rattle.sdm_rules.specs.declared.data.Times.{Times}
use Rattle.sdm_rules.specs.declared.limits.LimitKind.{LimitKind}
use Rattle.sdm_rules.specs.declared.limits.LimitKind.TheVariants.{Ebi, Sbi, Warning, Permitted, Indication}
use Rattle.sdm_rules.specs.declared.targets.Target.{Target}
use Rattle.sdm_rules.specs.declared.targets.TargetKind.{TargetKind}
use Rattle.sdm_rules.specs.declared.targets.TargetKind.TheVariants.{Mrsp, Loa, Eoa, Svl}
use Rattle.sdm_rules.specs.Cells.{place_of_cell}
use Rattle.sdm_rules.specs.Curves.{exact, stepped}
use Rattle.sdm_rules.specs.Data.{TrainAndTrack, HasBands}
use Rattle.sdm_rules.specs.Decelerations.{slopes_of, uppers_of}
use Rattle.sdm_rules.specs.Limits.{computed, d_bec_for, ebd_limits_of, exact_places, guidance_place, limit_in}
use Rattle.sdm_rules.specs.Limits.{limits_from_sbi, limits_of, limits_of_kind, release_start, sbd_limits_of, v_bec_for}
use Rattle.sdm_rules.specs.Opening.{IsOpen}
use Rattle.sdm_rules.specs.Reaction.{driver_time, reaction_times}
use Rattle.sdm_rules.specs.Slopes.{IsUsable, Slopes, bands_of}
use Rattle.sdm_rules.specs.Supervision.{Supervision}
use Rattle.sdm_rules.specs.Targets.{foot_speed_of, target_speed}
use Rattle.sdm_laws.specs.CurveLaws.{slack_of}
use Rattle.sdm_laws.proofs.BrakeCurves.Slack.{rounding}
use Rattle.sdm_laws.proofs.Openings.AcceptedSlopes.{bands_counted}
use Rattle.sdm_laws.proofs.Rows.Headline.{limits, open_usable}
use Rattle.sdm_laws.proofs.Rows.MachineOrder.{AreUsable}
use Rattle.sdm_row_laws.specs.NearLimits.{AreNear, AreWithin, AreWithinIfAny, IsWithin}

lesser_left : (x y : Fraction) → IsAtMost (lesser x y) x
lesser_left x y = lesser_cases (λ z. IsAtMost z x) x y (λ _. at_most_refl x) (λ le. le)

lesser_right : (x y : Fraction) → IsAtMost (lesser x y) y
lesser_right x y = lesser_cases (λ z. IsAtMost z y) x y (λ le. le) (λ _. at_most_refl y)

-- what lies at most so many grains past a whole place
past_whole : (g : ℕ) (z : ℤ) (x : Fraction) → IsAtMost x (whole (z +ℤ pos g)) → IsAtMost x (more (whole z) g)
past_whole g z x h = let one : g * 1 ≡ g = omega arith in rw one h

-- a computed place is within the slack of as many bands as there are
within_on : (on : Slopes) → IsUsable on → (f : ℤ) (w v : ℕ) →
    IsWithin (slack_of (bands_of on.uppers)) (computed on f w v) (exact_places on f w v)
within_on on usable f w v =
    let e = (rounding on f w v usable).early in
    record { positive = e.positive; near = past_whole _ (stepped on f w v) (exact on f w v) e.near }

module _ (g : ℕ) where
  -- some grains less, of both
  within_less : (low x : Fraction) (k : ℕ) → IsWithin g low x → IsWithin g (less low k) (less x k)
  within_less low x k h = record {
    positive = h.positive;
    near = record { crossed = simp scales (let p = simp scales at h.near.crossed in omega (arith, ints)) };
  }

  -- the lesser of two
  within_lesser : (low x low' x' : Fraction) → IsWithin g low x → IsWithin g low' x' →
      IsWithin g (lesser low low') (lesser x x')
  within_lesser low x low' x' h h' = record {
    positive = lesser_cases (λ z. 0 < z.m) x x' (λ _. h.positive) (λ _. h'.positive);
    near = lesser_cases (λ z. IsAtMost (lesser x x') (more z g)) low low'
        (λ _. at_most_trans (lesser x x') x (more low g) h.positive (lesser_left x x') h.near)
        (λ _. at_most_trans (lesser x x') x' (more low' g) h'.positive (lesser_right x x') h'.near);
  }

  -- the lesser of two, where there is a first one
  within_guided : (guide guide' : Option Fraction) (low x : Fraction) → AreWithinIfAny g guide guide' →
      IsWithin g low x → IsWithin g (option_map_or (λ y. lesser y low) guide low)
      (option_map_or (λ y. lesser y x) guide' x)
  within_guided None None low x n h = h
  within_guided None (Some y) low x n h = absurd n
  within_guided (Some y) None low x n h = absurd n
  within_guided (Some y) (Some z) low x n h = within_lesser y z low x n h

  -- limits that are taken from an SBI
  within_before : (times : Times) (v : ℕ) (guide guide' ebi ebi' : Option Fraction) (sbi sbi' : Fraction) →
      AreWithinIfAny g guide guide' → AreWithinIfAny g ebi ebi' → IsWithin g sbi sbi' → (kind : LimitKind) →
      AreWithinIfAny g (limit_in kind (limits_from_sbi times v guide ebi sbi))
      (limit_in kind (limits_from_sbi times v guide' ebi' sbi'))
  within_before times v guide guide' ebi ebi' sbi sbi' n e h kind =
      let permitted = within_guided guide guide' _ _ n (within_less sbi sbi' (distance_at v driver_time) h) in
      elim kind as (λ k. AreWithinIfAny g (limit_in k (limits_from_sbi times v guide ebi sbi))
      (limit_in k (limits_from_sbi times v guide' ebi' sbi'))) [
        | Ebi ↦ e
        | Sbi ↦ h
        | Warning ↦ within_less sbi sbi' _ h
        | Permitted ↦ permitted
        | Indication ↦ within_less _ _ _ permitted
      ]

  module _ (d : TrainAndTrack)
      (near : (kind : SlopeKind) (f : ℤ) (w v : ℕ) → IsWithin g (computed (slopes_of kind d) f w v)
      (exact_places (slopes_of kind d) f w v))
      (r : OdometerReading) (t : Target) where
    -- the place of guidance, where there is one
    within_guide : AreWithinIfAny g (guidance_place computed d (estimate_of r) t)
        (guidance_place exact_places d (estimate_of r) t)
    within_guide =
        elim d.national.guidance as (λ b. AreWithinIfAny g (if b
        then Some (computed (slopes_of Normal d) t.place (target_speed t) r.speed) else None)
        (if b then Some (exact_places (slopes_of Normal d) t.place (target_speed t) r.speed) else None)) [
          | true ↦ near Normal t.place (target_speed t) r.speed
          | false ↦ tt
        ]

    -- the limits by the EBD
    within_ebd : (guide guide' : Option Fraction) → AreWithinIfAny g guide guide' → (kind : LimitKind) →
        AreWithinIfAny g (limit_in kind (ebd_limits_of computed d (estimate_of r) t guide))
        (limit_in kind (ebd_limits_of exact_places d (estimate_of r) t guide'))
    within_ebd guide guide' n =
        let e = within_less _ _ (d_bec_for d (estimate_of r) t)
        (near Safe t.place (foot_speed_of t) (v_bec_for d (estimate_of r) t)) in
        within_before (reaction_times d) r.speed guide guide' _ _ _ _ n e
        (within_less _ _ (distance_at r.speed (reaction_times d).bs) e)

    -- those by the SBD
    within_sbd : (guide guide' : Option Fraction) → AreWithinIfAny g guide guide' → (kind : LimitKind) →
        AreWithinIfAny g (limit_in kind (sbd_limits_of computed d (estimate_of r) t guide))
        (limit_in kind (sbd_limits_of exact_places d (estimate_of r) t guide'))
    within_sbd guide guide' n =
        within_before (reaction_times d) r.speed guide guide' None None _ _ n tt
        (within_less _ _ (distance_at r.speed (reaction_times d).bs) (near Expected t.place 0 r.speed))

    -- those of each kind of target
    within_kind : (k : TargetKind) (kind : LimitKind) →
        AreWithinIfAny g (limit_in kind (limits_of_kind computed d (estimate_of r) t k))
        (limit_in kind (limits_of_kind exact_places d (estimate_of r) t k))
    within_kind Mrsp = within_ebd _ _ within_guide
    within_kind Loa = within_ebd _ _ within_guide
    within_kind Eoa = within_sbd _ _ within_guide
    within_kind Svl = within_ebd None None tt

  -- all limits of a reading
  within_all : (d : TrainAndTrack) → ((kind : SlopeKind) (f : ℤ) (w v : ℕ) →
      IsWithin g (computed (slopes_of kind d) f w v) (exact_places (slopes_of kind d) f w v)) → (r : OdometerReading) →
      AreWithin g d r
  unfolding limits_of release_start
  within_all d near r = record {
    limits = λ t kind. within_kind d near r t t.kind kind;
    release_start = λ eoa svl release.
        within_lesser _ _ _ _ (within_less _ _ _ (near Expected (place_of_cell (pos eoa)) 0 (notches release)))
        (within_less _ _ _ (near Safe (place_of_cell (pos svl)) 0 (notches release)));
  }

-- the slopes of each kind have as many bands as the train
bands_are : (kind : SlopeKind) (d : TrainAndTrack) → HasBands d.train.bands →
    bands_of (slopes_of kind d).uppers ≡ length d.train.bands
unfolding slopes_of
bands_are kind d h = bands_counted (pos 0) d.train.bands h.in_order

-- the limits of a reading in an open state are near the exact ones
pub near : (s : Supervision) (r : OdometerReading) → IsOpen s → AreNear s.train_and_track r
near s r o =
    let d = s.train_and_track in
    record {
      early = limits s r o;
      within = within_all (slack_of (length d.train.bands)) d
          (λ kind f w v. subst (λ (n : ℕ). IsWithin (slack_of n) (computed (slopes_of kind d) f w v)
          (exact_places (slopes_of kind d) f w v)) (bands_are kind d o.bands)
          (within_on (slopes_of kind d) (open_usable s o kind) f w v)) r;
    }
