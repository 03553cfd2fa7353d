-- What the limits of targets ask of an estimate (own).
use Rattle.std.specs.Prelude.{◌≡◌, ℕ, Option, Some, None, true, false, ◌<◌, ◌≤◌, ◌^◌}
use Rattle.sdm_num.specs.Readings.{IsEstimate}
use Rattle.sdm_rules.specs.declared.data.SlopeKind.TheVariants.{Normal, Safe}
use Rattle.sdm_rules.specs.declared.targets.Target.{Target}
use Rattle.sdm_rules.specs.Data.{TrainAndTrack}
use Rattle.sdm_rules.specs.Decelerations.{slopes_of}
use Rattle.sdm_rules.specs.Limits.{d_bec_for, v_bec_for}
use Rattle.sdm_rules.specs.Reaction.{build_up_from, v_delta0}
use Rattle.sdm_rules.specs.Targets.{target_speed}
use Rattle.sdm_curve.specs.Asked.{Asked, IsAskedOf}
use Rattle.sdm_braking.specs.declared.asked.AskedEstimate.{AskedEstimate}

-- guidance curves are asked for the speed in notches, where they are permitted (SUBSET-026-3 3.13.8.5)
abbrev pub IsGuidanceAsked : TrainAndTrack → ℕ → Option Asked → Type 0
IsGuidanceAsked d v None = d.national.guidance ≡ false
IsGuidanceAsked d v (Some asked) =
    (d.national.guidance ≡ true) × (asked.speed ≡ v) × IsAskedOf (slopes_of Normal d) asked

-- what was worked out of an estimate is what the definitions say of it: V_delta0, and what the train may do until its
-- brake works; V_bec with its band on the safe slopes and D_bec in grains, of every target that is no faster than the
-- train; and V_est on the normal slopes, where guidance is permitted (SUBSET-026-3 3.13.8.5, 3.13.9.3.2; own)
pub record IsAsked (d : TrainAndTrack) (a : AskedEstimate) : Type 0 where
  pub estimate : IsEstimate a.estimate
  pub v_delta0 : a.v_delta0 ≡ v_delta0 d a.estimate.under
  pub build_up : a.build_up ≡ build_up_from d a.estimate
  pub v_bec : (t : Target) → target_speed t ≤ a.estimate.speed → a.v_bec.speed ≡ v_bec_for d a.estimate t
  pub v_bec_asked : IsAskedOf (slopes_of Safe d) a.v_bec
  pub d_bec : (t : Target) → target_speed t ≤ a.estimate.speed → a.d_bec ≡ d_bec_for d a.estimate t
  pub small : a.d_bec < 10 ^ 16
  pub guided : IsGuidanceAsked d a.estimate.speed a.guided_v_est
