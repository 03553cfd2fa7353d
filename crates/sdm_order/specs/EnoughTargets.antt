-- Which targets are enough of a reading's: each other one is a fall that some of them stand for, or one that is met by
-- speed (own).
use Rattle.std.specs.Prelude.{◌≡◌, ◌⊎◌, ℤ, true, ◌<◌, ◌≤◌, ◌≤ℤ◌, List, Any, Contains}
use Rattle.std.specs.List.{list_all}
use Rattle.sdm_num.specs.Readings.{Estimate}
use Rattle.sdm_rules.specs.declared.limits.LimitKind.{LimitKind}
use Rattle.sdm_rules.specs.declared.targets.Target.{Target}
use Rattle.sdm_rules.specs.declared.targets.TargetKind.TheVariants.{Mrsp}
use Rattle.sdm_rules.specs.Data.{TrainAndTrack}
use Rattle.sdm_rules.specs.Limits.{computed, limit_in, limits_of, v_bec_for}
use Rattle.sdm_rules.specs.Supervision.{is_covered_for, shown_limit}
use Rattle.sdm_rules.specs.Targets.{foot_speed_of, target_speed}
use Rattle.sdm_rules.specs.Triggers.{Situation, some_passed}
use Rattle.sdm_order.specs.AskedTargets.{AreOf}
use Rattle.sdm_order.specs.LimitsInOrder.{IsSlowFall, brake_place, guide_place}

-- by its EBD one slow fall stands for another: it counts at every margin, or wherever that one does, and at V_bec its
-- EBD is at or before that one's
pub record IsBrakedBefore (d : TrainAndTrack) (e : Estimate) (t r : Target) : Type 0 where
  pub slow : IsSlowFall e r
  pub counts : (foot_speed_of r < e.speed) ⊎ (target_speed r ≤ target_speed t)
  pub no_later : brake_place d e r ≤ℤ brake_place d e t

-- by its guidance curve: it counts with no margin wherever that one does, and at V_est its curve is at or before that
-- one's
pub record IsGuidedBefore (d : TrainAndTrack) (e : Estimate) (t q : Target) : Type 0 where
  pub slow : IsSlowFall e q
  pub counts : (target_speed q < e.speed) ⊎ (target_speed q ≤ target_speed t)
  pub no_later : guide_place d e q ≤ℤ guide_place d e t

-- a slow fall is stood for by its EBD and, where guidance is permitted, by its guidance curve
pub record IsSlowStoodFor (d : TrainAndTrack) (e : Estimate) (asked : List Target) (t : Target) : Type 0 where
  pub slow : IsSlowFall e t
  pub brakes : Any (IsBrakedBefore d e t) asked
  pub guides : d.national.guidance ≡ true → Any (IsGuidedBefore d e t) asked

-- a fall is faster than the train, and met by speed: V_bec is at most its foot speed
pub record IsMetFall (d : TrainAndTrack) (e : Estimate) (t : Target) : Type 0 where
  pub kind : t.kind ≡ Mrsp
  pub faster : e.speed < target_speed t
  pub met : v_bec_for d e t ≤ foot_speed_of t

-- of all targets these are enough: each other one is a slow fall that some stand for, or met by speed
pub record AreEnough (d : TrainAndTrack) (e : Estimate) (all asked : List Target) : Type 0 where
  pub of : AreOf all asked
  pub each : (t : Target) → Contains all t → Contains asked t ⊎ (IsSlowStoodFor d e asked t ⊎ IsMetFall d e t)

-- targets say of a situation what others say: which limits are passed, each printed limit, and whether all are covered
pub record SayTheSame (d : TrainAndTrack) (e : Estimate) (s : Situation) (asked : List Target) : Type 0 where
  pub passed : (kind : LimitKind) → some_passed kind (limits_of computed d e) 0 s
      ≡ some_passed kind (limits_of computed d e) 0 (record s { targets = asked })
  pub shown : (kind : LimitKind) → shown_limit e.speed s.targets (λ t. limit_in kind (limits_of computed d e t))
      ≡ shown_limit e.speed asked (λ t. limit_in kind (limits_of computed d e t))
  pub covered : (front : ℤ) → list_all (is_covered_for d front e) s.targets ≡ list_all (is_covered_for d front e) asked

-- Targets that are enough of a situation's say what all say.
abbrev pub LawOfEnoughTargets : Type 0
LawOfEnoughTargets =
    (d : TrainAndTrack) (e : Estimate) (s : Situation) (asked : List Target) → s.speed ≡ e.speed →
    AreEnough d e s.targets asked → SayTheSame d e s asked
