-- The limits of falls in order: each lies so many grains before the place of the EBD, or before the lesser of that and
-- the place of the guidance curve.
use Rattle.std.proofs.Common.{◌≡◌, ◌⊎◌, ℕ, ℤ, pos, neg_ℤ, Bool, true, false, ◌+◌, ◌*◌, ◌≤◌, ◌+ℤ◌, ◌≤ℤ◌, max}
use Rattle.std.proofs.Common.{if◌then◌else◌, Some, None, ap, arith, inl, inr, refl, ◌∙◌}
use Rattle.std.proofs.lemmas.Int.{ints}
use Rattle.sdm_num.specs.Fractions.{Fraction, IsAtMost, less, lesser, whole}
use Rattle.sdm_num.specs.Readings.{Estimate}
use Rattle.sdm_num.specs.Units.{distance_at}
use Rattle.sdm_num.proofs.Order.{lesser_cases, whole_at_most}
use Rattle.sdm_rules.specs.declared.data.Times.{Times}
use Rattle.sdm_rules.specs.declared.limits.LimitKind.{LimitKind}
use Rattle.sdm_rules.specs.declared.limits.LimitKind.TheVariants.{Ebi, Sbi, Warning, Permitted, Indication}
use Rattle.sdm_rules.specs.declared.targets.Target.{Target}
use Rattle.sdm_rules.specs.declared.targets.TargetKind.{TargetKind}
use Rattle.sdm_rules.specs.declared.targets.TargetKind.TheVariants.{Mrsp}
use Rattle.sdm_rules.specs.Data.{TrainAndTrack}
use Rattle.sdm_rules.specs.Limits.{SupervisionLimits, computed, ebd_limits_at, limit_in, limits_of}
use Rattle.sdm_rules.specs.Limits.{limits_of_kind}
use Rattle.sdm_rules.specs.Margins.{margin_of, no_margin}
use Rattle.sdm_rules.specs.Reaction.{BuildUp, build_up_from, d_bec, driver_time, reaction_times, v_bec, warning_time}
use Rattle.sdm_rules.specs.Targets.{target_speed}
use Rattle.sdm_order.specs.AskedTargets.{IsNoLater}
use Rattle.sdm_order.specs.LimitsInOrder.{IsSlowFall, brake_place, guide_place}

-- ---- places so many grains earlier

-- a place so many grains before another one, as a fraction has it
abbrev before : ℤ → ℕ → ℤ
before z k = z +ℤ neg_ℤ (pos (k * 1))

before_order : (a b : ℤ) (k : ℕ) → a ≤ℤ b → before a k ≤ℤ before b k
before_order a b k le = omega (arith, ints, le)

-- ---- the lesser of two places

-- `F` keeps the order of whole places
module _ (F : Fraction → Fraction) (rises : (a b : ℤ) → a ≤ℤ b → IsAtMost (F (whole a)) (F (whole b))) where
  -- the lesser of two is at or before what the first is at or before
  by_first : (a b c : ℤ) → a ≤ℤ c → IsAtMost (F (lesser (whole a) (whole b))) (F (whole c))
  by_first a b c le =
      lesser_cases (λ z. IsAtMost (F z) (F (whole c))) (whole a) (whole b) (λ less. rises a c le)
      (λ less. rises b c (omega (arith, ints, less.crossed, le)))

  -- and what the second is
  by_second : (a b c : ℤ) → b ≤ℤ c → IsAtMost (F (lesser (whole a) (whole b))) (F (whole c))
  by_second a b c le =
      lesser_cases (λ z. IsAtMost (F z) (F (whole c))) (whole a) (whole b)
      (λ less. rises a c (omega (arith, ints, less.crossed, le)))
      (λ less. rises b c le)

  -- one of two pairs has its lesser place at or before that of a third
  by_either : (a1 b1 a2 b2 a b : ℤ) → b1 ≤ℤ b → a2 ≤ℤ a →
      IsAtMost (F (lesser (whole a1) (whole b1))) (F (lesser (whole a) (whole b)))
      ⊎ IsAtMost (F (lesser (whole a2) (whole b2))) (F (lesser (whole a) (whole b)))
  by_either a1 b1 a2 b2 a b second first =
      lesser_cases
      (λ z. IsAtMost (F (lesser (whole a1) (whole b1))) (F z) ⊎ IsAtMost (F (lesser (whole a2) (whole b2))) (F z))
      (whole a) (whole b) (λ less. inr (by_first a2 b2 a first)) (λ less. inl (by_second a1 b1 b second))

-- ---- the limits by the places of both curves

module _ (times : Times) (v bec : ℕ) where
  -- the limits with the place `p` of the EBD and `g` of the guidance curve, where there is one
  abbrev limits_at : Bool → ℤ → ℤ → SupervisionLimits
  limits_at guided g p = ebd_limits_at times v (if guided then Some (whole g) else None) bec (whole p)

  -- the SBI, and what the driver's time asks for
  abbrev sbi_at : ℤ → ℤ
  sbi_at p = before (before p bec) (distance_at v times.bs)

  abbrev driver_at : ℤ → ℤ
  driver_at p = before (sbi_at p) (distance_at v driver_time)

  sbi_order : (a b : ℤ) → a ≤ℤ b → sbi_at a ≤ℤ sbi_at b
  sbi_order a b le = before_order _ _ (distance_at v times.bs) (before_order a b bec le)

  driver_order : (a b : ℤ) → a ≤ℤ b → driver_at a ≤ℤ driver_at b
  driver_order a b le = before_order _ _ (distance_at v driver_time) (sbi_order a b le)

  -- a place earlier by the time of the indication
  indicated : (a b : ℤ) → a ≤ℤ b →
      IsAtMost (less (whole a) (distance_at v times.indication)) (less (whole b) (distance_at v times.indication))
  indicated a b le = whole_at_most _ _ (before_order a b (distance_at v times.indication) le)

  -- the limits of a kind in order
  in_order : (guided : Bool) (kind : LimitKind) (g1 p1 g2 p2 g p : ℤ) → p1 ≤ℤ p → (guided ≡ true → g2 ≤ℤ g) →
      IsNoLater (limit_in kind (limits_at guided g1 p1)) (limit_in kind (limits_at guided g p))
      ⊎ ((margin_of kind ≡ no_margin)
      × IsNoLater (limit_in kind (limits_at guided g2 p2)) (limit_in kind (limits_at guided g p)))
  in_order guided Ebi g1 p1 g2 p2 g p le guide = inl (whole_at_most _ _ (before_order p1 p bec le))
  in_order guided Sbi g1 p1 g2 p2 g p le guide = inl (whole_at_most _ _ (sbi_order p1 p le))
  in_order guided Warning g1 p1 g2 p2 g p le guide =
      inl (whole_at_most _ _ (before_order _ _ (distance_at v warning_time) (sbi_order p1 p le)))
  in_order false Permitted g1 p1 g2 p2 g p le guide = inl (whole_at_most _ _ (driver_order p1 p le))
  in_order false Indication g1 p1 g2 p2 g p le guide = inl (indicated _ _ (driver_order p1 p le))
  in_order true Permitted g1 p1 g2 p2 g p le guide =
      elim (by_either (λ z. z) whole_at_most g1 (driver_at p1) g2 (driver_at p2) g (driver_at p) (driver_order p1 p le)
      (guide refl)) [ inl x ↦ inl x | inr y ↦ inr (refl, y) ]
  in_order true Indication g1 p1 g2 p2 g p le guide =
      elim (by_either (λ z. less z (distance_at v times.indication)) indicated g1 (driver_at p1) g2 (driver_at p2) g
      (driver_at p) (driver_order p1 p le) (guide refl)) [ inl x ↦ inl x | inr y ↦ inr (refl, y) ]

-- ---- of a fall

-- what the greater of a speed and another one is, where that one is no greater
same_max : (x w : ℕ) → w ≤ x → max x w ≡ max x 0
same_max x w le = grind (arith, le)

-- V_bec and D_bec for each target that is no faster than the train are those for one of speed 0
pub same_v_bec : (b : BuildUp) (w : ℕ) → w ≤ b.speed → v_bec b w ≡ v_bec b 0
same_v_bec b w le = rw (same_max (b.speed + 54 * b.accel1 * b.traction) w (omega (arith, le))) refl

same_d_bec : (b : BuildUp) (w : ℕ) → w ≤ b.speed → d_bec b w ≡ d_bec b 0
same_d_bec b w le =
    rw (
      same_max (b.speed + 54 * b.accel1 * b.traction) w (omega (arith, le)),
      same_max (b.speed + 27 * b.accel1 * b.traction) w (omega (arith, le)),
    ) refl

module _ (d : TrainAndTrack) (e : Estimate) where
  -- the limits of a fall that is no faster than the train, by the places of its curves
  limits_are : (t : Target) → IsSlowFall e t →
      limits_of computed d e t
      ≡ limits_at (reaction_times d) e.speed (d_bec (build_up_from d e) 0) d.national.guidance (guide_place d e t)
      (brake_place d e t)
  unfolding limits_of
  limits_are t h =
      let b = build_up_from d e in
      let within : target_speed t ≤ b.speed = omega (arith, h.slow) in
      let of_fall : limits_of_kind computed d e t Mrsp
      ≡ limits_at (reaction_times d) e.speed (d_bec b 0) d.national.guidance (guide_place d e t) (brake_place d e t) =
      rw (same_v_bec b (target_speed t) within, same_d_bec b (target_speed t) within) refl in
      ap (λ (kind : TargetKind). limits_of_kind computed d e t kind) h.kind ∙ of_fall

  pub limits_in_order : (kind : LimitKind) (t r q : Target) → IsSlowFall e t → IsSlowFall e r → IsSlowFall e q →
      brake_place d e r ≤ℤ brake_place d e t →
      (d.national.guidance ≡ true → guide_place d e q ≤ℤ guide_place d e t) →
      IsNoLater (limit_in kind (limits_of computed d e r)) (limit_in kind (limits_of computed d e t))
      ⊎ ((margin_of kind ≡ no_margin)
      × IsNoLater (limit_in kind (limits_of computed d e q)) (limit_in kind (limits_of computed d e t)))
  limits_in_order kind t r q t_is r_is q_is brake guide =
      rw (limits_are t t_is, limits_are r r_is, limits_are q q_is)
      (in_order (reaction_times d) e.speed (d_bec (build_up_from d e) 0) d.national.guidance kind
      (guide_place d e r) (brake_place d e r) (guide_place d e q) (brake_place d e q) (guide_place d e t)
      (brake_place d e t) brake guide)

pub limit_order : (kind : LimitKind) (d : TrainAndTrack) (e : Estimate) (t r q : Target) → IsSlowFall e t →
    IsSlowFall e r → IsSlowFall e q → brake_place d e r ≤ℤ brake_place d e t →
    (d.national.guidance ≡ true → guide_place d e q ≤ℤ guide_place d e t) →
    IsNoLater (limit_in kind (limits_of computed d e r)) (limit_in kind (limits_of computed d e t))
    ⊎ ((margin_of kind ≡ no_margin)
    × IsNoLater (limit_in kind (limits_of computed d e q)) (limit_in kind (limits_of computed d e t)))
limit_order kind d e = limits_in_order d e kind
