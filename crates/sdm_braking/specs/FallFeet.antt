-- Falls as feet of their curves, and which of these curves others further on hide (own).
use Rattle.std.specs.Prelude.{◌≡◌, ℕ, List, Option, Some, None, true, map}
use Rattle.sdm_rules.specs.declared.data.SlopeKind.TheVariants.{Normal, Safe}
use Rattle.sdm_rules.specs.declared.targets.Target.{Target}
use Rattle.sdm_rules.specs.Data.{TrainAndTrack}
use Rattle.sdm_rules.specs.Decelerations.{slopes_of}
use Rattle.sdm_rules.specs.Slopes.{Slopes}
use Rattle.sdm_rules.specs.Targets.{foot_speed_of, target_speed}
use Rattle.sdm_curve.specs.Made.{BrakeCurve}
use Rattle.sdm_hiding.specs.declared.rows.Foot.{Foot}
use Rattle.sdm_hiding.specs.Hiding.{AreHiddenFrom}
use Rattle.sdm_braking.specs.declared.kept_targets.KeptTarget.{KeptTarget}
use Rattle.sdm_braking.specs.KeptCurves.{AreSpeedsOf, IsCurveOn}

-- the foot of the EBD of a fall: its foot speed is the target speed with its EBI margin (SUBSET-026-3 3.13.8.3)
abbrev pub brake_foot : Target → Foot
brake_foot t = record { place = t.place; permitted = target_speed t; speed = foot_speed_of t }

-- the foot of the guidance curve of a fall, whose foot speed is the target speed (SUBSET-026-3 3.13.8.5; own feet)
abbrev pub guide_foot : Target → Foot
guide_foot t = record { place = t.place; permitted = target_speed t; speed = target_speed t }

-- of falls in order it is known how many falls further on the first one stands whose EBD hides that of each and, where
-- guidance is permitted, the first one whose guidance curve hides that of each (own)
pub record AreHidden (d : TrainAndTrack) (falls : List Target) (brake_steps guide_steps : List ℕ) : Type 0 where
  pub brakes : AreHiddenFrom (slopes_of Safe d) (map brake_foot falls) brake_steps 0
  pub guides : d.national.guidance ≡ true → AreHiddenFrom (slopes_of Normal d) (map guide_foot falls) guide_steps 0

-- ---- the curves that stand in a row

-- a fall stands beside its speeds and its EBD on these slopes (SUBSET-026-3 3.13.8.3)
pub record IsBrakedOn (on : Slopes) (k : KeptTarget) : Type 0 where
  pub speeds : AreSpeedsOf k.target k.speeds
  pub curve : IsCurveOn on k.target.place (foot_speed_of k.target) k.brake

-- there is a guidance curve, on these slopes with this foot (SUBSET-026-3 3.13.8.5; own feet)
abbrev pub IsGuideOn : Slopes → Target → Option BrakeCurve → Type 0
IsGuideOn on t None = ⊥
IsGuideOn on t (Some guide) = IsCurveOn on t.place (target_speed t) guide

-- a fall stands beside its speeds and its guidance curve on these slopes (SUBSET-026-3 3.13.8.5)
pub record IsGuidedOn (on : Slopes) (k : KeptTarget) : Type 0 where
  pub speeds : AreSpeedsOf k.target k.speeds
  pub curve : IsGuideOn on k.target k.guide
