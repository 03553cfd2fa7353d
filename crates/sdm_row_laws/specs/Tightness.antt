-- The exact limits are limits: at or before one every motion stops in time, past it some motion doesn't (own).
use Rattle.std.specs.Prelude.{◌∷◌, ◌<◌, ◌≤◌, ◌≤ℤ◌, Contains, ◌≡◌, ℕ, ℤ, pos, neg_ℤ, Some, true, false, IsTrue, ◌*◌, ◌+ℤ◌, ◌*ℤ◌, ◌<ℤ◌}
use Rattle.sdm_num.specs.Units.{millimetre}
use Rattle.sdm_num.specs.Fractions.{Fraction}
use Rattle.sdm_num.specs.Readings.{OdometerReading, estimate_of}
use Rattle.sdm_rules.specs.declared.data.SlopeKind.TheVariants.{Expected, Safe}
use Rattle.sdm_rules.specs.declared.motions.Point.{Point}
use Rattle.sdm_rules.specs.declared.motions.Start.{Start}
use Rattle.sdm_rules.specs.Cells.{place_of_cell}
use Rattle.sdm_rules.specs.Data.{TrainAndTrack}
use Rattle.sdm_rules.specs.Decelerations.{slopes_of}
use Rattle.sdm_rules.specs.declared.targets.Target.{Target}
use Rattle.sdm_rules.specs.Limits.{computed, exact_places, limits_of, v_bec_for}
use Rattle.sdm_rules.specs.Motion.{Motion, last_point}
use Rattle.sdm_rules.specs.Opening.{IsOpen}
use Rattle.sdm_rules.specs.Reaction.{reaction_start, v_est_delta0}
use Rattle.sdm_rules.specs.Slopes.{Slopes}
use Rattle.sdm_rules.specs.Stop.{IsMotionOn, IsSpeedTarget, SlowsTo, StopsBy}
use Rattle.sdm_rules.specs.Supervision.{Supervision}
use Rattle.sdm_rules.specs.Targets.{foot_speed_of, svl_target, target_speed}
use Rattle.sdm_rules.specs.Triggers.{is_past}
use Rattle.sdm_row_laws.specs.ServiceStop.{eoa_target, service_start}

-- Some motion from the start, which brakes at least as the slopes ask, comes to stand past a place in grains.
pub record MayPass (on : Slopes) (start : Start) (place : ℤ) : Type 0 where
  pub motion : Motion
  pub is_motion : IsMotionOn on start motion
  pub past : (pos (motion.scale * motion.scale) *ℤ place) <ℤ (last_point motion.first motion.more).place

-- Some motion from the start, which brakes at least as the slopes ask, is faster than `w` notches at or past a place in
-- grains.
pub record MayExceed (on : Slopes) (start : Start) (place : ℤ) (w : ℕ) : Type 0 where
  pub motion : Motion
  pub is_motion : IsMotionOn on start motion
  pub point : Point
  pub there : Contains (motion.first ∷ motion.more) point
  pub past : (pos (motion.scale * motion.scale) *ℤ place) ≤ℤ point.place
  pub fast : motion.scale * motion.scale * (w * w) < point.square

-- Where the front end of the start is at or before the limit every motion stops by the place, and where it is past it
-- some motion doesn't.
pub record IsExactLimit (on : Slopes) (start : Start) (place : ℤ) (limit : Fraction) : Type 0 where
  pub stops : is_past 0 start.front limit ≡ false → StopsBy on start place
  pub passes : is_past 0 start.front limit ≡ true → MayPass on start place

-- Not both: where some motion passes a place, not every one stops by it; and where some is faster at it, not every one
-- slows to the speed.
abbrev pub LawOfRefutation : Type 0
LawOfRefutation =
    (on : Slopes) (start : Start) (place : ℤ) →
    (MayPass on start place → StopsBy on start place → ⊥)
    × ((w : ℕ) → MayExceed on start place w → SlowsTo on start place w → ⊥)

-- THE EBI IS TIGHT: the exact EBI of an SvL is the limit of where the emergency brake stops the train by it.
abbrev pub LawOfExactSvl : Type 0
LawOfExactSvl = (s : Supervision) (r : OdometerReading) (svl : ℕ) (ebi : Fraction) → IsOpen s →
    (limits_of exact_places s.train_and_track (estimate_of r) (svl_target svl)).ebi ≡ Some ebi →
    IsExactLimit (slopes_of Safe s.train_and_track) (reaction_start s.train_and_track r) (place_of_cell (pos svl)) ebi

-- The exact SBI of an EOA is that of where the service brake does.
abbrev pub LawOfExactEoa : Type 0
LawOfExactEoa = (s : Supervision) (r : OdometerReading) (eoa : ℕ) → IsOpen s →
    IsExactLimit (slopes_of Expected s.train_and_track) (service_start s.train_and_track r) (place_of_cell (pos eoa))
    (limits_of exact_places s.train_and_track (estimate_of r) (eoa_target eoa)).sbi

-- NOT NEEDLESSLY EARLY: a reading whose max safe front end is a millimetre or more past the computed EBI of an SvL has
-- a motion that passes it.
abbrev pub LawOfTightSvl : Type 0
LawOfTightSvl = (s : Supervision) (r : OdometerReading) (svl : ℕ) (ebi : Fraction) → IsOpen s →
    (limits_of computed s.train_and_track (estimate_of r) (svl_target svl)).ebi ≡ Some ebi →
    IsTrue (is_past 0 (r.max +ℤ neg_ℤ (pos millimetre)) ebi) →
    MayPass (slopes_of Safe s.train_and_track) (reaction_start s.train_and_track r) (place_of_cell (pos svl))

-- the same of the computed SBI of an EOA
abbrev pub LawOfTightEoa : Type 0
LawOfTightEoa = (s : Supervision) (r : OdometerReading) (eoa : ℕ) → IsOpen s →
    IsTrue (is_past 0 (r.est +ℤ neg_ℤ (pos millimetre))
    (limits_of computed s.train_and_track (estimate_of r) (eoa_target eoa)).sbi) →
    MayPass (slopes_of Expected s.train_and_track) (service_start s.train_and_track r) (place_of_cell (pos eoa))

-- where the front end is at or before the limit every motion slows to `w` at the place, and where it is past it some
-- motion doesn't
pub record IsExactSpeedLimit (on : Slopes) (start : Start) (place : ℤ) (w : ℕ) (limit : Fraction) : Type 0 where
  pub slows : is_past 0 start.front limit ≡ false → SlowsTo on start place w
  pub exceeds : is_past 0 start.front limit ≡ true → MayExceed on start place w

-- V_est + V_delta0 is at least the target speed, and V_bec above the foot speed: below the first D_bec counts with the
-- target speed, and up to the second the target is met wherever the train is
pub record IsFast (d : TrainAndTrack) (r : OdometerReading) (t : Target) : Type 0 where
  pub fast : target_speed t ≤ v_est_delta0 d (estimate_of r)
  pub gains : foot_speed_of t < v_bec_for d (estimate_of r) t

-- A SPEED TARGET'S EBI IS TIGHT for a train that is fast.
abbrev pub LawOfExactTarget : Type 0
LawOfExactTarget = (s : Supervision) (r : OdometerReading) (t : Target) (ebi : Fraction) → IsOpen s →
    IsSpeedTarget t → IsFast s.train_and_track r t →
    (limits_of exact_places s.train_and_track (estimate_of r) t).ebi ≡ Some ebi →
    IsExactSpeedLimit (slopes_of Safe s.train_and_track) (reaction_start s.train_and_track r) t.place (foot_speed_of t)
    ebi
