-- What a covered row promises of every motion from its reading, and why a row is not covered (own).
use Rattle.std.specs.Prelude.{◌≡◌, ℕ, ℤ, pos, ◌∷◌, ◌++◌, ◌<◌, ◌≤◌, ◌≢◌, All, Contains}
use Rattle.sdm_num.specs.Readings.{OdometerReading, estimate_of}
use Rattle.sdm_rules.specs.declared.motions.Start.{Start}
use Rattle.sdm_rules.specs.declared.data.SlopeKind.TheVariants.{Safe}
use Rattle.sdm_rules.specs.declared.authorities.Authority.TheVariants.{Stop}
use Rattle.sdm_rules.specs.declared.targets.Target.{Target}
use Rattle.sdm_rules.specs.declared.targets.TargetKind.TheVariants.{Eoa, Svl}
use Rattle.sdm_rules.specs.Cells.{place_of_cell}
use Rattle.sdm_rules.specs.Slopes.{Slopes}
use Rattle.sdm_rules.specs.Motion.{Motion, IsMotionFrom, IsBy, KeepsTo, slice_ends}
use Rattle.sdm_rules.specs.Data.{TrainAndTrack}
use Rattle.sdm_rules.specs.Decelerations.{slopes_of}
use Rattle.sdm_rules.specs.Targets.{foot_speed_of}
use Rattle.sdm_rules.specs.Reaction.{reaction_start}
use Rattle.sdm_rules.specs.Limits.{v_bec_for}
use Rattle.sdm_rules.specs.Supervision.{Supervision, situation_of}

-- a motion from a start, of some scale, which then brakes with at least the deceleration of the slopes
abbrev pub IsMotionOn : Slopes → Start → Motion → Type 0
IsMotionOn on start m = (0 < m.scale) × IsMotionFrom on start m

-- every braking point of every motion lies at or before the place, in grains
abbrev pub StopsBy : Slopes → Start → ℤ → Type 0
StopsBy on start place = (m : Motion) → IsMotionOn on start m → All (IsBy m.scale place) (m.first ∷ m.more)

-- at or past the place, at slice ends and braking points of every motion, the speed is at most `w` notches
abbrev pub SlowsTo : Slopes → Start → ℤ → ℕ → Type 0
SlowsTo on start place w =
    (m : Motion) → IsMotionOn on start m →
    All (KeepsTo m.scale place w) (slice_ends m.place m.speed m.slices ++ m.first ∷ m.more)

-- every motion within the bounds of a reading that brakes from T_traction + T_berem after it on stops at or before the
-- SvL, in cm
abbrev pub StopsBySvl : TrainAndTrack → OdometerReading → ℕ → Type 0
StopsBySvl d r svl = StopsBy (slopes_of Safe d) (reaction_start d r) (place_of_cell (pos svl))

-- every motion within the bounds of a reading that brakes from T_traction + T_berem after it on has, at or past the
-- target, at most the target's speed with its EBI margin
abbrev pub MeetsTarget : TrainAndTrack → OdometerReading → Target → Type 0
MeetsTarget d r t = SlowsTo (slopes_of Safe d) (reaction_start d r) t.place (foot_speed_of t)

-- the target limits the speed: it is a fall of the MRSP or an LOA
abbrev pub IsSpeedTarget : Target → Type 0
IsSpeedTarget t = (t.kind ≢ Eoa) × (t.kind ≢ Svl)

-- the promise of a covered reading: the train stops at or before the SvL, where there is one, and meets each target of
-- speed
pub record IsSafe (s : Supervision) (r : OdometerReading) : Type 0 where
  pub stops : (eoa svl release : ℕ) → s.authority ≡ Stop eoa svl release → StopsBySvl s.train_and_track r svl
  pub meets : (t : Target) → Contains (situation_of s r).targets t → IsSpeedTarget t → MeetsTarget s.train_and_track r t

-- a target of speed that keeps a row from being covered where no emergency brake is commanded: V_est is at most its
-- foot speed V_target + dV_ebi(V_target), so V_est cannot trigger its EBI, and V_bec, with the under-reading, is above
-- it
pub record IsUncoveredSpeedTarget (s : Supervision) (r : OdometerReading) (t : Target) : Type 0 where
  pub is_speed : IsSpeedTarget t
  pub slow : r.speed ≤ foot_speed_of t
  pub may_gain : foot_speed_of t < v_bec_for s.train_and_track (estimate_of r) t
