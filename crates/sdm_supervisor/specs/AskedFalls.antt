-- Which targets of a sight a walk asks, how few of them are falls that are no faster than the train, and that they are
-- enough (own).
use Rattle.std.specs.Prelude.{◌≡◌, ◌⊎◌, ℕ, pos, Bool, ◌<◌, ◌≤◌, ◌+◌, ◌++◌, List, length, All, Contains, if◌then◌else◌, true}
use Rattle.std.specs.Prelude.{◌≤ℤ◌, slice_index_or}
use Rattle.sdm_num.specs.Readings.{Estimate}
use Rattle.sdm_rules.specs.declared.targets.Target.{Target}
use Rattle.sdm_rules.specs.declared.targets.TargetKind.TheVariants.{Svl}
use Rattle.sdm_rules.specs.Data.{TrainAndTrack}
use Rattle.sdm_rules.specs.Slopes.{Slopes}
use Rattle.sdm_rules.specs.Targets.{target_speed}
use Rattle.sdm_order.specs.AskedTargets.{AreOf}
use Rattle.sdm_order.specs.EnoughTargets.{AreEnough, IsMetFall}
use Rattle.sdm_order.specs.LimitsInOrder.{brake_place, guide_place}
use Rattle.sdm_hiding.specs.declared.rows.Foot.{Foot}
use Rattle.sdm_hiding.specs.Asking.{IsEnough, at_indexes}
use Rattle.sdm_supervisor.specs.Sights.{Seen}

-- at most 17 targets are asked for their EBDs and, where guidance is permitted, at most 2 for their guidance curves; the
-- others are faster than the train, or the targets at the end of the authority
pub record AreFewAsked (guided : Bool) (e : Estimate) (asked : List Target) : Type 0 where
  pub brakes : List Target
  pub guides : List Target
  pub faster : List Target
  pub ends : List Target
  pub are : asked ≡ ((brakes ++ guides) ++ faster) ++ ends
  pub few_brakes : length brakes ≤ 17
  pub few_guides : length guides ≤ (if guided then 2 else 0)
  pub are_faster : All (λ t. e.speed < target_speed t) faster
  pub few_ends : length ends ≤ 2

-- something was found of enough of the targets that are seen, which are few
pub record IsFoundOfFew (seen : Seen) (e : Estimate) (is_found : List Target → Type 0) : Type 0 where
  pub asked : List Target
  pub enough : AreEnough seen.train_and_track e seen.situation.targets asked
  pub few : AreFewAsked seen.train_and_track.national.guidance e asked
  pub found : is_found asked

-- ---- on the way

-- stands for a fall past the last
abbrev pub no_target : Target
no_target = record { kind = Svl; place = pos 0; speed = 0 }

-- behind other targets something was found of falls, by their indexes: few were asked, and they are enough of these
-- curves at a speed
pub record IsFoundInRow (on : Slopes) (feet : List Foot) (margin v bec : ℕ) (falls before : List Target)
    (is_found : List Target → Type 0) : Type 0 where
  pub asked : List ℕ
  pub inside : All (λ i. i < length falls) asked
  pub few : length asked ≤ margin + 2
  pub enough : IsEnough on feet v bec asked
  pub found : is_found (before ++ at_indexes falls no_target asked)

-- behind other targets something was found of the falls that are faster than the train, where not each of them is met
-- by speed
pub record IsFoundOfFaster (d : TrainAndTrack) (e : Estimate) (falls before : List Target) (is_found : List Target → Type 0)
    : Type 0 where
  pub asked : List Target
  pub of : AreOf falls asked
  pub faster : All (λ t. e.speed < target_speed t) asked
  pub enough : (t : Target) → Contains falls t → e.speed < target_speed t → Contains asked t ⊎ IsMetFall d e t
  pub found : is_found (before ++ asked)

-- ---- falls that are passed over

-- one fall is no later than another one by its EBD at V_bec and, where guidance is permitted, by its guidance curve at
-- V_est
pub record IsNoLaterFall (d : TrainAndTrack) (e : Estimate) (t r : Target) : Type 0 where
  pub brake : brake_place d e t ≤ℤ brake_place d e r
  pub guide : d.national.guidance ≡ true → guide_place d e t ≤ℤ guide_place d e r

-- the fall at an index is no later than each one from there up to another index, by any estimate
abbrev pub AreNoneEarlier : TrainAndTrack → List Target → ℕ → ℕ → Type 0
AreNoneEarlier d falls from to =
    (k : ℕ) (e : Estimate) → from < k → k < to →
    IsNoLaterFall d e (slice_index_or falls from no_target) (slice_index_or falls k no_target)
