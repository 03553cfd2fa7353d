-- The supervision limits of a target (SUBSET-026-3 3.13.9.3), stated once for any way to find the places of a brake
-- curve: the exact places, or those that the supervisor computes.
use Rattle.std.specs.Prelude.{ℕ, ℤ, pos, Option, Some, None, ◌+◌, if◌then◌else◌}
use Rattle.std.specs.Option.{option_map_or}
use Rattle.sdm_num.specs.Units.{notches, distance_at}
use Rattle.sdm_num.specs.Fractions.{Fraction, less, lesser, whole}
use Rattle.sdm_num.specs.Readings.{Estimate}
use Rattle.sdm_rules.specs.declared.data.Times.{Times}
use Rattle.sdm_rules.specs.declared.data.SlopeKind.TheVariants.{Safe, Expected, Normal}
use Rattle.sdm_rules.specs.declared.limits.LimitKind.{LimitKind}
use Rattle.sdm_rules.specs.declared.limits.LimitKind.TheVariants.{Ebi, Sbi, Warning, Permitted, Indication}
use Rattle.sdm_rules.specs.declared.targets.TargetKind.{TargetKind}
use Rattle.sdm_rules.specs.declared.targets.TargetKind.TheVariants.{Mrsp, Loa, Eoa, Svl}
use Rattle.sdm_rules.specs.declared.targets.Target.{Target}
use Rattle.sdm_rules.specs.Cells.{place_of_cell}
use Rattle.sdm_rules.specs.Slopes.{Slopes}
use Rattle.sdm_rules.specs.Curves.{exact, stepped}
use Rattle.sdm_rules.specs.Data.{TrainAndTrack}
use Rattle.sdm_rules.specs.Decelerations.{slopes_of}
use Rattle.sdm_rules.specs.Targets.{target_speed, foot_speed_of}
use Rattle.sdm_rules.specs.Reaction.{reaction_times, build_up_from, v_bec, d_bec, warning_time, driver_time}

-- where a brake curve on slopes, from a foot (grains) with a foot speed (notches), has a speed (notches) (own)
abbrev pub CurvePlaces : Type 0
CurvePlaces = Slopes → ℤ → ℕ → ℕ → Fraction

-- the exact places of brake curves (own)
abbrev pub exact_places : CurvePlaces
exact_places on f w v = exact on f w v

-- the places of brake curves that the supervisor computes (own)
abbrev pub computed : CurvePlaces
computed on f w v = whole (stepped on f w v)

-- the limits of a target in grains: EBI, SBI, W, P and I. An EOA has no EBI (SUBSET-026-3 3.13.9.3)
pub record SupervisionLimits : Type 0 where
  pub ebi : Option Fraction
  pub sbi : Fraction
  pub warning : Fraction
  pub permitted : Fraction
  pub indication : Fraction

-- the limit of a kind, where there is one (SUBSET-026-3 3.13.9.3)
abbrev pub limit_in : LimitKind → SupervisionLimits → Option Fraction
limit_in Ebi limits = limits.ebi
limit_in Sbi limits = Some limits.sbi
limit_in Warning limits = Some limits.warning
limit_in Permitted limits = Some limits.permitted
limit_in Indication limits = Some limits.indication

-- d_W = d_SBI - V_est * T_warning; d_P = d_SBI - V_est * T_driver, or the guidance curve's place where that is
-- earlier; d_I = d_P - V_est * T_indication (SUBSET-026-3 3.13.9.3.4 to 3.13.9.3.6; own form)
abbrev pub limits_from_sbi : Times → ℕ → Option Fraction → Option Fraction → Fraction → SupervisionLimits
limits_from_sbi times v guide ebi sbi =
    let driver = less sbi (distance_at v driver_time) in
    let permitted = option_map_or (λ g. lesser g driver) guide driver in
    record {
      ebi = ebi;
      sbi = sbi;
      warning = less sbi (distance_at v warning_time);
      permitted = permitted;
      indication =
          less permitted (distance_at v times.indication);
    }

-- the limits on an EBD: d_EBI = d_EBD(V_bec) - D_bec and d_SBI = d_EBI - V_est * T_bs, with the curve's place at V_bec
-- (SUBSET-026-3 3.13.9.3.2, 3.13.9.3.3)
abbrev pub ebd_limits_at : Times → ℕ → Option Fraction → ℕ → Fraction → SupervisionLimits
ebd_limits_at times v guide bec_distance place =
    let ebi = less place bec_distance in
    limits_from_sbi times v guide (Some ebi) (less ebi (distance_at v times.bs))

-- the limits on an SBD: d_SBI = d_SBD(V_est) - V_est * T_bs, with the curve's place at V_est (SUBSET-026-3 3.13.9.3.3)
abbrev pub sbd_limits_at : Times → ℕ → Option Fraction → Fraction → SupervisionLimits
sbd_limits_at times v guide place = limits_from_sbi times v guide None (less place (distance_at v times.bs))

-- V_bec for a target (SUBSET-026-3 3.13.9.3.2)
abbrev pub v_bec_for : TrainAndTrack → Estimate → Target → ℕ
v_bec_for d e t = v_bec (build_up_from d e) (target_speed t)

-- D_bec for a target, in grains (SUBSET-026-3 3.13.9.3.2)
abbrev pub d_bec_for : TrainAndTrack → Estimate → Target → ℕ
d_bec_for d e t = d_bec (build_up_from d e) (target_speed t)

-- the limits of a target with an EBD: its foot is at the target place with the foot speed (SUBSET-026-3 3.13.8.3,
-- 3.13.9.3)
abbrev pub ebd_limits_of : CurvePlaces → TrainAndTrack → Estimate → Target → Option Fraction → SupervisionLimits
ebd_limits_of P d e t guide =
    ebd_limits_at (reaction_times d) e.speed guide (d_bec_for d e t)
    (P (slopes_of Safe d) t.place (foot_speed_of t) (v_bec_for d e t))

-- the limits of the EOA, on the SBD: its foot is speed 0 at the EOA (SUBSET-026-3 3.13.8.4, 3.13.9.3)
abbrev pub sbd_limits_of : CurvePlaces → TrainAndTrack → Estimate → Target → Option Fraction → SupervisionLimits
sbd_limits_of P d e t guide =
    sbd_limits_at (reaction_times d) e.speed guide (P (slopes_of Expected d) t.place 0 e.speed)

-- the guidance curve's place at V_est, where Q_NVGUIPERM permits guidance: its foot is at the target place with the
-- target speed (SUBSET-026-3 3.13.8.5; own feet)
abbrev pub guidance_place : CurvePlaces → TrainAndTrack → Estimate → Target → Option Fraction
guidance_place P d e t =
    if d.national.guidance then Some (P (slopes_of Normal d) t.place (target_speed t) e.speed) else None

-- the limits of a target by its kind; the SvL has no guidance curve of its own (own)
abbrev pub limits_of_kind : CurvePlaces → TrainAndTrack → Estimate → Target → TargetKind → SupervisionLimits
limits_of_kind P d e t Mrsp = ebd_limits_of P d e t (guidance_place P d e t)
limits_of_kind P d e t Loa = ebd_limits_of P d e t (guidance_place P d e t)
limits_of_kind P d e t Eoa = sbd_limits_of P d e t (guidance_place P d e t)
limits_of_kind P d e t Svl = ebd_limits_of P d e t None

-- the limits of a target by an estimate (SUBSET-026-3 3.13.9.3)
unfoldable pub limits_of : CurvePlaces → TrainAndTrack → Estimate → Target → SupervisionLimits
limits_of P d e t = limits_of_kind P d e t t.kind

-- where release speed monitoring starts, with the places of the EBD and the SBD at the release speed V_rel (notches):
-- the earlier of d_SBD(V_rel) - V_rel * T_bs and d_EBD(V_rel) - V_rel * (T_traction + T_berem + T_bs) (SUBSET-026-3
-- 3.13.9.4; own form)
abbrev pub release_start_at : Times → ℕ → Fraction → Fraction → Fraction
release_start_at times v ebd sbd =
    lesser (less sbd (distance_at v times.bs)) (less ebd (distance_at v (times.traction + times.berem + times.bs)))

-- where release speed monitoring starts, with EOA and SvL in cm and the release speed in km/h: both curves have speed
-- 0 at their foot (SUBSET-026-3 3.13.9.4; own form)
unfoldable pub release_start : CurvePlaces → TrainAndTrack → ℕ → ℕ → ℕ → Fraction
release_start P d eoa svl release =
    let v = notches release in
    release_start_at (reaction_times d) v (P (slopes_of Safe d) (place_of_cell (pos svl)) 0 v)
    (P (slopes_of Expected d) (place_of_cell (pos eoa)) 0 v)
