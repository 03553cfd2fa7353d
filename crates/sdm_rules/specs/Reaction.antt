-- The times of reaction, and what the train may do until its emergency brake works (SUBSET-026-3 3.13.9.3). Times are
-- in ds, speeds in notches, accelerations in cm/s²; 1 cm/s² gains 54 notches in a ds.
use Rattle.std.specs.Prelude.{ℕ, ℤ, pos, negsuc, Bool, ◌&&◌, ◌+◌, ◌-◌, ◌*◌, ◌/◌, min, max, unsigned_abs, if◌then◌else◌}
use Rattle.sdm_num.specs.Readings.{Estimate, OdometerReading, estimate_of}
use Rattle.sdm_rules.specs.declared.data.Times.{Times}
use Rattle.sdm_rules.specs.declared.motions.Start.{Start}
use Rattle.sdm_rules.specs.Data.{TrainAndTrack}

-- ---- times

-- T_warning: 2 s, in ds (SUBSET-026-3 A.3.1; own value)
abbrev pub warning_time : ℕ
warning_time = 20

-- T_driver: 4 s, in ds (SUBSET-026-3 A.3.1; own value)
abbrev pub driver_time : ℕ
driver_time = 40

-- the 5 s of T_indication = max(0.8 * T_bs, 5 s) + T_driver, in ds (SUBSET-026-3 3.13.9.3; own value)
abbrev pub indication_least : ℕ
indication_least = 50

-- T_bs: the service brake's build-up time where the service brake is in use, else 0 (SUBSET-026-3 3.13.9.3.3; own)
abbrev pub t_bs : ℕ → Bool → ℕ
t_bs service in_use = if in_use then service else 0

-- T_traction, in ds: how long the traction may still push once the emergency brake is commanded. With a cut-off
-- interface the cut-off is commanded at the warning limit, T_warning + T_bs before the EBI, so max(T_traction_cut_off
-- - (T_warning + T_bs), 0) is left; without one the whole T_traction_cut_off (SUBSET-026-3 3.13.9.3.2)
abbrev pub t_traction : ℕ → Bool → ℕ → ℕ
t_traction cut_off interface bs = if interface then cut_off - (warning_time + bs) else cut_off

-- the times of reaction, in ds: T_traction; T_berem = max(T_be - T_traction, 0); T_bs; T_indication = max(0.8 * T_bs,
-- 5 s) + T_driver (SUBSET-026-3 3.13.9.3.2, 3.13.9.3.6)
abbrev pub times_of : ℕ → Bool → ℕ → ℕ → Bool → Times
times_of cut_off interface emergency service in_use =
    let bs_time = t_bs service in_use in
    let traction = t_traction cut_off interface bs_time in
    record {
      traction = traction;
      berem = emergency - traction;
      bs = bs_time;
      indication =
          max (4 * bs_time / 5) indication_least + driver_time;
    }

-- the service brake is in use: the train has one, and the national values permit it (SUBSET-026-3 3.13.9.3; own: one
-- permission for ceiling and target speed monitoring together)
abbrev pub service_in_use : TrainAndTrack → Bool
service_in_use d = d.train.service_brake && d.national.service_in_target

-- the times of reaction of a train under its national values (SUBSET-026-3 3.13.9.3)
unfoldable pub reaction_times : TrainAndTrack → Times
reaction_times d = times_of (unsigned_abs d.train.cut_off_time) d.train.cut_off_interface
    (unsigned_abs d.train.emergency_time) (unsigned_abs d.train.service_time) (service_in_use d)

-- ---- until the emergency brake works

-- The train from the moment on that the emergency brake is commanded: its speed, how much it may gain until the
-- traction is cut off and after that until the brake has built up, and both times (SUBSET-026-3 3.13.9.3.2)
pub record BuildUp : Type 0 where
  pub speed : ℕ  -- V_est + V_delta0
  pub accel1 : ℕ  -- A_est1
  pub accel2 : ℕ  -- A_est2
  pub traction : ℕ  -- T_traction
  pub berem : ℕ  -- T_berem

-- the greatest speed at the end of T_traction, and at least that of the target: max(V_est + V_delta0 + V_delta1,
-- V_target), with V_delta1 = A_est1 * T_traction (SUBSET-026-3 3.13.9.3.2)
abbrev pub v_cut_off : BuildUp → ℕ → ℕ
v_cut_off b target = max (b.speed + 54 * b.accel1 * b.traction) target

-- V_bec = max(V_est + V_delta0 + V_delta1, V_target) + V_delta2, with V_delta2 = A_est2 * T_berem (SUBSET-026-3
-- 3.13.9.3.2)
abbrev pub v_bec : BuildUp → ℕ → ℕ
v_bec b target = v_cut_off b target + 54 * b.accel2 * b.berem

-- D_bec = max(V_est + V_delta0 + V_delta1 / 2, V_target) * T_traction
--     + (max(V_est + V_delta0 + V_delta1, V_target) + V_delta2 / 2) * T_berem, in grains (SUBSET-026-3 3.13.9.3.2)
abbrev pub d_bec : BuildUp → ℕ → ℕ
d_bec b target =
    1_000_000 * (max (b.speed + 27 * b.accel1 * b.traction) target * b.traction
    + (v_cut_off b target + 27 * b.accel2 * b.berem) * b.berem)

-- the train at the start of motions, from the moment on that the emergency brake is commanded (own)
abbrev pub build_up_of : Start → BuildUp
build_up_of start = record {
  speed = start.speed;
  accel1 = start.accel1;
  accel2 = start.accel2;
  traction = start.traction;
  berem = start.berem;
}

-- ---- from an estimate

-- A_est1: the estimated acceleration, 0 if it is negative (SUBSET-026-3 3.13.9.3.2)
abbrev pub a_est1 : ℤ → ℕ
a_est1 (pos a) = a
a_est1 (negsuc a) = 0

-- A_est2: the lower of A_est1 and 0.4 m/s² (SUBSET-026-3 3.13.9.3.2; own value)
abbrev pub a_est2 : ℤ → ℕ
a_est2 a = min (a_est1 a) 40

-- V_delta0: the under-reading amount, 0 where the national values inhibit the compensation (SUBSET-026-3 3.13.9.3.2)
abbrev pub v_delta0 : TrainAndTrack → ℕ → ℕ
v_delta0 d under = if d.national.inhibit_under_reading then 0 else under

-- the greatest true speed by an estimate, V_est + V_delta0, in notches (SUBSET-026-3 3.13.9.3.2)
abbrev pub v_est_delta0 : TrainAndTrack → Estimate → ℕ
v_est_delta0 d e = e.speed + v_delta0 d e.under

-- the train from the moment on that the emergency brake is commanded, by its times of reaction, its speed V_est +
-- V_delta0 and its acceleration (SUBSET-026-3 3.13.9.3.2)
abbrev pub build_up : Times → ℕ → ℤ → BuildUp
build_up times v0 accel = record {
  speed = v0;
  accel1 = a_est1 accel;
  accel2 = a_est2 accel;
  traction = times.traction;
  berem = times.berem;
}

-- the train of an estimate, from the moment on that the emergency brake is commanded (SUBSET-026-3 3.13.9.3.2)
abbrev pub build_up_from : TrainAndTrack → Estimate → BuildUp
build_up_from d e = build_up (reaction_times d) (v_est_delta0 d e) e.accel

-- the start of motions from a reading: the true front end and speed are at most these (own)
abbrev pub reaction_start : TrainAndTrack → OdometerReading → Start
reaction_start d r =
    let b = build_up_from d (estimate_of r) in
    record {
      front = r.max;
      speed = b.speed;
      accel1 = b.accel1;
      accel2 = b.accel2;
      traction = b.traction;
      berem = b.berem;
    }
