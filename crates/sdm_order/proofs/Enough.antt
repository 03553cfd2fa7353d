-- Targets that are enough say what all say: one that is among them stands for itself, a slow fall is stood for, and one
-- that is met by speed passes nothing, is not printed and is covered.
use Rattle.std.proofs.Common.{◌≡◌, inl, inr, ℕ, ℤ, Bool, true, false, not, ◌||◌, ◌+◌, ◌<◌, ◌≤◌, nat_le, List}
use Rattle.std.proofs.Common.{Option, Some, None, refl, sym, ap, ◌∙◌, arith}
use Rattle.std.specs.Prelude.{Any, Contains}
use Rattle.std.specs.Option.{option_map_or}
use Rattle.std.proofs.lemmas.Bool.{cases_lt, false≢true, le-leb, lt-leb}
use Rattle.std.proofs.Math.Bool.{or-true}
use Rattle.sdm_num.specs.Fractions.{Fraction}
use Rattle.sdm_num.specs.Readings.{Estimate}
use Rattle.sdm_num.specs.Units.{notches}
use Rattle.sdm_num.proofs.Order.{at_most_refl}
use Rattle.sdm_rules.specs.declared.limits.LimitKind.{LimitKind}
use Rattle.sdm_rules.specs.declared.limits.LimitKind.TheVariants.{Ebi}
use Rattle.sdm_rules.specs.declared.targets.Target.{Target}
use Rattle.sdm_rules.specs.declared.targets.TargetKind.{TargetKind}
use Rattle.sdm_rules.specs.Data.{TrainAndTrack}
use Rattle.sdm_rules.specs.Limits.{SupervisionLimits, computed, limit_in, limits_of, v_bec_for}
use Rattle.sdm_rules.specs.Margins.{margin_of}
use Rattle.sdm_rules.specs.Reaction.{BuildUp, build_up_from, v_bec}
use Rattle.sdm_rules.specs.Supervision.{is_covered_for, is_met_by_speed}
use Rattle.sdm_rules.specs.Targets.{foot_speed_of, target_speed, with_margin}
use Rattle.sdm_rules.specs.Triggers.{Situation, is_past}
use Rattle.sdm_order.specs.AskedTargets.{IsNoLater, IsShownFor, StandsIn}
use Rattle.sdm_order.specs.EnoughTargets.{AreEnough, IsBrakedBefore, IsMetFall, IsSlowStoodFor, SayTheSame}
use Rattle.sdm_order.proofs.Asked.{past_earlier, same_all, same_passed, same_shown}
use Rattle.sdm_order.proofs.Fractions.{limits_are_fractions}
use Rattle.sdm_order.proofs.Limits.{same_v_bec}
use Rattle.sdm_order.proofs.Stand.{at_fall, no_faster_with, slow_is_shown, slow_stands_in, stood_for_ebi}

-- a limit is at or before itself, if it is there
no_later_itself : (x : Option Fraction) → IsNoLater x x
no_later_itself None = tt
no_later_itself (Some x) = at_most_refl x

-- what stands among targets has there what it has
among : (P : Target → Type 0) (ts : List Target) (t : Target) → Contains ts t → P t → Any P ts
among P ts t there is = (there.0, t, there.1, there.2, is)

-- ---- covered

-- whether a target with this EBI is covered, where it is met by speed or not
abbrev covers : ℤ → Bool → Option Fraction → Bool
covers front met ebi = option_map_or (λ x. not (is_past 0 front x) || met) ebi true

-- one that is met by speed is covered
pub covered_where_met : (front : ℤ) (met : Bool) (ebi : Option Fraction) → met ≡ true → covers front met ebi ≡ true
covered_where_met front met None is = refl
covered_where_met front met (Some x) is = rw is (or-true (not (is_past 0 front x)))

-- where one isn't covered, nor is one whose EBI is no later and that isn't met by speed either
uncovered_too : (front : ℤ) (met other : Bool) (ebi earlier : Option Fraction) →
    ((a : Fraction) → ebi ≡ Some a → 0 < a.m) → ((a : Fraction) → earlier ≡ Some a → 0 < a.m) →
    IsNoLater earlier ebi → (met ≡ false → other ≡ false) → covers front met ebi ≡ false →
    covers front other earlier ≡ false
uncovered_too front met other None earlier pos_x pos_y le unmet e = absurd (false≢true (sym e))
uncovered_too front met other (Some x) None pos_x pos_y le unmet e = absurd le
uncovered_too front met other (Some x) (Some y) pos_x pos_y le unmet e =
    let past : is_past 0 front x ≡ true = first_past (is_past 0 front x) met e in
    let earlier_past : is_past 0 front y ≡ true = past_earlier 0 front y x (pos_y y refl) (pos_x x refl) le past in
    rw (earlier_past, unmet (second_unmet (is_past 0 front x) met e)) refl
  where
    first_past : (a b : Bool) → (not a || b) ≡ false → a ≡ true
    first_past true b is = refl
    first_past false b is = absurd (false≢true (sym is))

    second_unmet : (a b : Bool) → (not a || b) ≡ false → b ≡ false
    second_unmet true b is = is
    second_unmet false b is = absurd (false≢true (sym is))

-- ---- of each target

-- V_bec is at least the speed
pub at_least_speed : (b : BuildUp) → b.speed ≤ v_bec b 0
at_least_speed b = grind (arith)

-- what is not at most a number is above it
above_of : (a b : ℕ) → nat_le a b ≡ false → b < a
above_of a b is = elim (cases_lt b a) [
  | inl less ↦ less
  | inr le ↦ absurd (false≢true (sym is ∙ le-leb a b le))
]

module _ (d : TrainAndTrack) (e : Estimate) (all asked : List Target) (h : AreEnough d e all asked) where
  abbrev limits : Target → SupervisionLimits
  limits = limits_of computed d e

  -- each target whose speed with the margin is passed is stood in for
  passed_by : (kind : LimitKind) (s : Situation) → s.speed ≡ e.speed → (t : Target) → Contains all t →
      with_margin (margin_of kind) t < s.speed → Any (StandsIn kind limits s t) asked
  passed_by kind s same t there above = elim (h.each t there) [
    | inl itself ↦ among (StandsIn kind limits s t) asked t itself
        (record { front = refl; above = λ x. x; no_later = no_later_itself (limit_in kind (limits t)) })
    | inr (inl slow) ↦ slow_stands_in d e asked t slow kind s same
    | inr (inr met) ↦ absurd (not_above met (rw same at above))
  ]
    where
      not_above : IsMetFall d e t → with_margin (margin_of kind) t < e.speed → ⊥
      not_above met above =
          let bare = at_fall t (notches t.speed) met.kind in
          let more = at_fall t (notches t.speed + margin_of kind t.speed) met.kind in
          let faster = met.faster in
          omega (arith, above, bare, more, faster)

  -- and each that is no faster than the train, for a printed limit
  shown_by : (kind : LimitKind) (t : Target) → Contains all t → target_speed t ≤ e.speed →
      Any (IsShownFor e.speed (λ u. limit_in kind (limits u)) t) asked
  shown_by kind t there slow = elim (h.each t there) [
    | inl itself ↦ among (IsShownFor e.speed (λ u. limit_in kind (limits u)) t) asked t itself
        (record { slow = slow; no_later = no_later_itself (limit_in kind (limits t)) })
    | inr (inl stood) ↦ slow_is_shown d e asked t stood kind
    | inr (inr met) ↦ (let faster = met.faster in absurd (omega (arith, slow, faster)))
  ]

  -- for one that isn't covered there is one among them
  uncovered_by : (front : ℤ) (t : Target) → Contains all t → is_covered_for d front e t ≡ false →
      Any (λ r. is_covered_for d front e r ≡ false) asked
  uncovered_by front t there bare = elim (h.each t there) [
    | inl itself ↦ among (λ r. is_covered_for d front e r ≡ false) asked t itself bare
    | inr (inl stood) ↦ (let r = stood_for_ebi d e asked t stood in (
      r.0,
      r.1,
      r.2,
      r.3,
      uncovered_too front (is_met_by_speed t.kind (v_bec_for d e t) (foot_speed_of t))
          (is_met_by_speed r.1.kind (v_bec_for d e r.1) (foot_speed_of r.1)) (limits t).ebi (limits r.1).ebi
          (limits_are_fractions d e Ebi t) (limits_are_fractions d e Ebi r.1) r.4.1 (unmet r.1 stood r.4.0) bare,
    ))
    | inr (inr met) ↦ absurd (false≢true (sym bare ∙ covered_where_met front _ (limits t).ebi (is_met met)))
  ]
    where
      is_met : IsMetFall d e t → is_met_by_speed t.kind (v_bec_for d e t) (foot_speed_of t) ≡ true
      is_met met =
          ap (λ (kind : TargetKind). is_met_by_speed kind (v_bec_for d e t) (foot_speed_of t)) met.kind
          ∙ le-leb _ _ met.met

      unmet : (r : Target) → IsSlowStoodFor d e asked t → IsBrakedBefore d e t r →
          is_met_by_speed t.kind (v_bec_for d e t) (foot_speed_of t) ≡ false →
          is_met_by_speed r.kind (v_bec_for d e r) (foot_speed_of r) ≡ false
      unmet r stood before is =
          let b = build_up_from d e in
          let slow = stood.slow.slow in
          let same = same_v_bec b (target_speed t) (omega (arith, slow)) in
          let slow_r = before.slow.slow in
          let same_r = same_v_bec b (target_speed r) (omega (arith, slow_r)) in
          let least = at_least_speed b in
          let foot : foot_speed_of t < v_bec_for d e t = above_of _ _ (sym (ap (λ (kind : TargetKind).
          is_met_by_speed kind (v_bec_for d e t) (foot_speed_of t)) stood.slow.kind) ∙ is) in
          let foot_r : foot_speed_of r < v_bec_for d e r = elim before.counts [
            | inl slower ↦ omega (arith, slower, same_r, least)
            | inr lower ↦ (let rises = no_faster_with t r stood.slow.kind before.slow.kind Ebi lower in
                omega (arith, rises, foot, same, same_r))
          ] in
          ap (λ (kind : TargetKind). is_met_by_speed kind (v_bec_for d e r) (foot_speed_of r)) before.slow.kind
          ∙ lt-leb _ _ foot_r

-- they say the same
pub enough : (d : TrainAndTrack) (e : Estimate) (s : Situation) (asked : List Target) → s.speed ≡ e.speed →
    AreEnough d e s.targets asked → SayTheSame d e s asked
enough d e s asked same h = record {
  passed = λ kind. same_passed kind (limits_of computed d e) 0 s asked (limits_are_fractions d e kind) h.of
      (passed_by d e s.targets asked h kind s same);
  shown = λ kind. same_shown e.speed (λ t. limit_in kind (limits_of computed d e t)) s.targets asked
      (limits_are_fractions d e kind) h.of (shown_by d e s.targets asked h kind);
  covered = λ front. same_all (is_covered_for d front e) s.targets asked h.of
      (uncovered_by d e s.targets asked h front);
}
