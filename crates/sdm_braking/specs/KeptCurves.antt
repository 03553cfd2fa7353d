-- The curves of targets that are kept between records (own).
use Rattle.std.specs.Prelude.{◌≡◌, ℕ, ℤ, pos, Bool, true, false, if◌then◌else◌, List, [], ◌∷◌, Option, Some, None}
use Rattle.sdm_rules.specs.declared.authorities.Authority.{Authority}
use Rattle.sdm_rules.specs.declared.authorities.Authority.TheVariants.{Stop, Limit}
use Rattle.sdm_rules.specs.declared.data.SlopeKind.{SlopeKind}
use Rattle.sdm_rules.specs.declared.data.SlopeKind.TheVariants.{Safe, Expected, Normal}
use Rattle.sdm_rules.specs.declared.limits.LimitKind.{LimitKind}
use Rattle.sdm_rules.specs.declared.limits.LimitKind.TheVariants.{Ebi, Sbi, Warning, Permitted, Indication}
use Rattle.sdm_rules.specs.declared.targets.TargetKind.{TargetKind}
use Rattle.sdm_rules.specs.declared.targets.TargetKind.TheVariants.{Mrsp, Loa, Eoa, Svl}
use Rattle.sdm_rules.specs.declared.targets.Target.{Target}
use Rattle.sdm_rules.specs.Cells.{place_of_cell}
use Rattle.sdm_rules.specs.Slopes.{Slopes}
use Rattle.sdm_rules.specs.Data.{TrainAndTrack}
use Rattle.sdm_rules.specs.Decelerations.{slopes_of}
use Rattle.sdm_rules.specs.Margins.{sbi_margin, warning_margin}
use Rattle.sdm_rules.specs.Targets.{foot_speed_of, target_speed, with_margin}
use Rattle.sdm_curve.specs.Made.{BrakeCurve, IsMadeFrom}
use Rattle.sdm_targets.specs.Lists.{IsTarget}
use Rattle.sdm_braking.specs.declared.kept_targets.KeptTarget.{KeptTarget}
use Rattle.sdm_braking.specs.declared.kept_ends.KeptEnd.{KeptEnd}
use Rattle.sdm_braking.specs.declared.kept_ends.KeptEnd.TheVariants.{Stop as KeptStop, Limit as KeptLimit}
use Rattle.sdm_braking.specs.declared.speeds.SpeedLimits.{SpeedLimits}

-- a curve that was made from a map of these slopes, with its foot at a place in grains and a foot speed in notches
pub record IsCurveOn (on : Slopes) (foot : ℤ) (foot_speed : ℕ) (curve : BrakeCurve) : Type 0 where
  pub place : curve.place ≡ foot
  pub speed : curve.speed ≡ foot_speed
  pub made : IsMadeFrom on curve

-- the slopes of the curve by which the brake supervises a target: an SBD for the EOA, else an EBD (SUBSET-026-3
-- 3.13.8)
abbrev pub brake_kind : TargetKind → SlopeKind
brake_kind Mrsp = Safe
brake_kind Loa = Safe
brake_kind Eoa = Expected
brake_kind Svl = Safe

-- whether a target has a guidance curve; the SvL has none of its own (SUBSET-026-3 3.13.8.5; own)
abbrev pub is_guided : TrainAndTrack → TargetKind → Bool
is_guided d Mrsp = d.national.guidance
is_guided d Loa = d.national.guidance
is_guided d Eoa = d.national.guidance
is_guided d Svl = false

-- the guidance curve of a target, where it has one (SUBSET-026-3 3.13.8.5; own)
abbrev pub IsGuideOf : TrainAndTrack → Target → Option BrakeCurve → Type 0
IsGuideOf d t None = is_guided d t.kind ≡ false
IsGuideOf d t (Some guide) = (is_guided d t.kind ≡ true) × IsCurveOn (slopes_of Normal d) t.place (target_speed t) guide

-- the speeds above which a target is passed: the target speed, with its warning and its SBI margin, and the foot speed
-- of its EBD, which is that with its EBI margin (SUBSET-026-3 3.13.8.2, 3.13.8.3, 3.13.9.2)
pub record AreSpeedsOf (t : Target) (s : SpeedLimits) : Type 0 where
  pub permitted : s.permitted ≡ target_speed t
  pub warning : s.warning ≡ with_margin warning_margin t
  pub sbi : s.sbi ≡ with_margin sbi_margin t
  pub ebi : s.ebi ≡ foot_speed_of t

-- the speed above which a limit of a kind is passed (SUBSET-026-3 3.13.10; own table)
abbrev pub speed_in : LimitKind → SpeedLimits → ℕ
speed_in Ebi speeds = speeds.ebi
speed_in Sbi speeds = speeds.sbi
speed_in Warning speeds = speeds.warning
speed_in Permitted speeds = speeds.permitted
speed_in Indication speeds = speeds.permitted

-- a target that is kept stands beside its speeds and its curves: its EBD or, for an EOA, its SBD, and its guidance
-- curve if it has one (SUBSET-026-3 3.13.8.3 to 3.13.8.5)
pub record IsKeptTarget (d : TrainAndTrack) (k : KeptTarget) : Type 0 where
  pub target : IsTarget k.target
  pub speeds : AreSpeedsOf k.target k.speeds
  pub brake : IsCurveOn (slopes_of (brake_kind k.target.kind) d) k.target.place (foot_speed_of k.target) k.brake
  pub guide : IsGuideOf d k.target k.guide

-- a kept target is this one, with its curves
pub record IsKeptAt (d : TrainAndTrack) (t : Target) (k : KeptTarget) : Type 0 where
  pub at : k.target ≡ t
  pub kept : IsKeptTarget d k

-- whether an EOA and an SvL are kept, and no LOA
abbrev pub is_stop : KeptEnd → Bool
is_stop (KeptStop e s) = true
is_stop (KeptLimit l) = false

-- what is kept of the end of an authority: its targets with their curves
abbrev pub IsKeptEnd : TrainAndTrack → Authority → KeptEnd → Type 0
IsKeptEnd d (Stop eoa svl release) (KeptStop e s) =
    IsKeptAt d (record { kind = Eoa; place = place_of_cell (pos eoa); speed = 0 }) e
    × IsKeptAt d (record { kind = Svl; place = place_of_cell (pos svl); speed = 0 }) s
IsKeptEnd d (Stop eoa svl release) (KeptLimit l) = ⊥
IsKeptEnd d (Limit loa speed) (KeptStop e s) = ⊥
IsKeptEnd d (Limit loa speed) (KeptLimit l) =
    IsKeptAt d (record { kind = Loa; place = place_of_cell (pos loa); speed = speed }) l

-- the EBD of the SvL or of the LOA
abbrev pub brake_curve_of : KeptEnd → BrakeCurve
brake_curve_of (KeptStop e s) = s.brake
brake_curve_of (KeptLimit l) = l.brake

-- the targets at the end of an authority; in release speed monitoring the EOA and the SvL are none (SUBSET-026-3
-- 3.13.8.2; own)
abbrev pub targets_in : KeptEnd → Bool → List Target
targets_in (KeptStop e s) in_release_monitoring = if in_release_monitoring then [] else e.target ∷ s.target ∷ []
targets_in (KeptLimit l) in_release_monitoring = l.target ∷ []

-- the targets at the end of an authority stand beside their curves
abbrev pub AreKept : TrainAndTrack → KeptEnd → Type 0
AreKept d (KeptStop e s) = IsKeptTarget d e × IsKeptTarget d s
AreKept d (KeptLimit l) = IsKeptTarget d l
