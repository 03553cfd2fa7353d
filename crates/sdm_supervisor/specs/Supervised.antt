-- What a supervisor stores beside its supervision state (own).
use Rattle.std.specs.Prelude.{◌≡◌, ℕ, ℤ, pos, true, None, ◌≤ℤ◌, unsigned_abs}
use Rattle.sdm_num.specs.Readings.{OdometerReading}
use Rattle.sdm_num.specs.Units.{notches_of_mm_s}
use Rattle.sdm_rules.specs.declared.authorities.Authority.{Authority}
use Rattle.sdm_rules.specs.declared.authorities.Authority.TheVariants.{Stop, Limit}
use Rattle.sdm_rules.specs.declared.data.SlopeKind.TheVariants.{Safe}
use Rattle.sdm_rules.specs.declared.targets.Target.{Target}
use Rattle.sdm_rules.specs.declared.targets.TargetKind.TheVariants.{Loa, Svl}
use Rattle.sdm_rules.specs.Cells.{place_of_cell}
use Rattle.sdm_rules.specs.Data.{TrainAndTrack}
use Rattle.sdm_rules.specs.Decelerations.{slopes_of}
use Rattle.sdm_rules.specs.Ranges.{longest_track}
use Rattle.sdm_rules.specs.Records.{authority_fault}
use Rattle.sdm_rules.specs.Supervision.{Supervision, profile_of}
use Rattle.sdm_rules.specs.Targets.{fall_at, foot_speed_of, is_fall}
use Rattle.sdm_rules.specs.Within.{is_within_svl}
use Rattle.sdm_laws.specs.TripPlaces.{TripBounds}
use Rattle.sdm_speed.specs.Profiles.{ProfileData}
use Rattle.sdm_curve.specs.Made.{BrakeCurve}
use Rattle.sdm_braking.specs.declared.kept.Kept.{Kept}
use Rattle.sdm_braking.specs.Kept.{IsKept}
use Rattle.sdm_braking.specs.KeptCurves.{IsCurveOn}

-- the speed profile is that of the data
pub record IsProfileOf (d : TrainAndTrack) (p : ProfileData) : Type 0 where
  pub max_speed : unsigned_abs d.train.max_speed ≡ p.max_speed
  pub length_cm : d.train.length_cm ≡ p.length_cm
  pub track_cm : d.track.length_cm ≡ p.track_cm
  pub speeds : d.track.speeds ≡ p.speeds

-- what every supervisor keeps beside its state: its profile is that of its data, its authority is accepted, and the
-- targets that it keeps are those of its profile and its authority
pub record IsSupervisorOf (d : TrainAndTrack) (p : ProfileData) (a : Authority) (k : Kept) : Type 0 where
  pub profile : IsProfileOf d p
  pub authority : authority_fault d.track.length_cm a ≡ None
  pub kept : IsKept d p a k

-- the curve is the EBD of the fall of the MRSP at the start of a cell (SUBSET-026-3 3.13.8.3)
pub record IsFallCurve (s : Supervision) (at : ℤ) (curve : BrakeCurve) : Type 0 where
  pub falls : is_fall (profile_of s) at ≡ true
  pub ebd : IsCurveOn (slopes_of Safe s.train_and_track) (place_of_cell at)
      (foot_speed_of (fall_at (profile_of s) at)) curve

-- the target by which an authority is kept by the emergency brake: the SvL, or the LOA (SUBSET-026-3 3.13.8.2)
abbrev pub last_of : Authority → Target
last_of (Stop eoa svl release) = record { kind = Svl; place = place_of_cell (pos svl); speed = 0 }
last_of (Limit loa speed) = record { kind = Loa; place = place_of_cell (pos loa); speed = speed }

-- the curve is the EBD of the SvL or of the LOA (SUBSET-026-3 3.13.8.3)
abbrev pub IsAuthorityCurve : Supervision → BrakeCurve → Type 0
IsAuthorityCurve s curve = IsCurveOn (slopes_of Safe s.train_and_track) (last_of s.authority).place
    (foot_speed_of (last_of s.authority)) curve

-- the place of the SvL, which lies on the track, and its EBD, at a reading within the SvL (SUBSET-026-3 3.13.8.3; own)
pub record IsClaimOf (s : Supervision) (r : OdometerReading) (place : ℤ) (curve : BrakeCurve) : Type 0 where
  pub within : is_within_svl s r ≡ true
  pub svl : place ≡ (last_of s.authority).place
  pub not_below_0 : pos 0 ≤ℤ place
  pub on_track : place ≤ℤ place_of_cell (pos longest_track)
  pub ebd : IsAuthorityCurve s curve

-- the bounds of readings W in cm and U in mm/s (own)
abbrev pub bounds_of : ℕ → ℕ → TripBounds
bounds_of width_cm excess_mm_s = record { width = width_cm; excess = notches_of_mm_s excess_mm_s }
