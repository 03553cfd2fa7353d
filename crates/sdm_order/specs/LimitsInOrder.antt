-- The order of the limits of falls, from that of the places of their curves (own).
use Rattle.std.specs.Prelude.{◌≡◌, ◌⊎◌, ℤ, true, ◌≤◌, ◌≤ℤ◌}
use Rattle.sdm_num.specs.Readings.{Estimate}
use Rattle.sdm_rules.specs.declared.data.SlopeKind.TheVariants.{Normal, Safe}
use Rattle.sdm_rules.specs.declared.limits.LimitKind.{LimitKind}
use Rattle.sdm_rules.specs.declared.targets.Target.{Target}
use Rattle.sdm_rules.specs.declared.targets.TargetKind.TheVariants.{Mrsp}
use Rattle.sdm_rules.specs.Curves.{stepped}
use Rattle.sdm_rules.specs.Data.{TrainAndTrack}
use Rattle.sdm_rules.specs.Decelerations.{slopes_of}
use Rattle.sdm_rules.specs.Limits.{computed, limit_in, limits_of}
use Rattle.sdm_rules.specs.Margins.{margin_of, no_margin}
use Rattle.sdm_rules.specs.Reaction.{build_up_from, v_bec}
use Rattle.sdm_rules.specs.Targets.{foot_speed_of, target_speed}
use Rattle.sdm_order.specs.AskedTargets.{IsNoLater}

-- the target is a fall that is no faster than the train
pub record IsSlowFall (e : Estimate) (t : Target) : Type 0 where
  pub kind : t.kind ≡ Mrsp
  pub slow : target_speed t ≤ e.speed

-- the place of a fall's EBD at V_bec, which is that of a target of speed 0 for each fall that is no faster than the
-- train
abbrev pub brake_place : TrainAndTrack → Estimate → Target → ℤ
brake_place d e t = stepped (slopes_of Safe d) t.place (foot_speed_of t) (v_bec (build_up_from d e) 0)

-- the place of its guidance curve at V_est
abbrev pub guide_place : TrainAndTrack → Estimate → Target → ℤ
guide_place d e t = stepped (slopes_of Normal d) t.place (target_speed t) e.speed

-- Of falls that are no faster than the train: where the EBD of one is no later than that of a fall, and with guidance
-- the guidance curve of a second one no later than the fall's, each limit of the fall has one of the same kind that is
-- no later: of the first, or, of a kind with no margin, of the second.
abbrev pub LawOfLimitOrder : Type 0
LawOfLimitOrder =
    (kind : LimitKind) (d : TrainAndTrack) (e : Estimate) (t r q : Target) → IsSlowFall e t → IsSlowFall e r →
    IsSlowFall e q → brake_place d e r ≤ℤ brake_place d e t →
    (d.national.guidance ≡ true → guide_place d e q ≤ℤ guide_place d e t) →
    IsNoLater (limit_in kind (limits_of computed d e r)) (limit_in kind (limits_of computed d e t))
    ⊎ ((margin_of kind ≡ no_margin)
    × IsNoLater (limit_in kind (limits_of computed d e q)) (limit_in kind (limits_of computed d e t)))
