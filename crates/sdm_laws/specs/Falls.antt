-- What a covered row says of each fall of the MRSP that the train may still have ahead: also of those between the min
-- and the max safe front end, which are no longer targets (own).
use Rattle.std.specs.Prelude.{◌≡◌, ℕ, ℤ, pos, true, false, IsTrue, int_lt, ◌+◌, ◌-◌, ◌≤ℤ◌, if◌then◌else◌}
use Rattle.sdm_num.specs.Readings.{OdometerReading, estimate_of}
use Rattle.sdm_rules.specs.declared.data.SlopeKind.TheVariants.{Safe}
use Rattle.sdm_rules.specs.Cells.{cell_of, place_of_cell}
use Rattle.sdm_rules.specs.Data.{TrainAndTrack}
use Rattle.sdm_rules.specs.Decelerations.{slopes_of}
use Rattle.sdm_rules.specs.Opening.{IsOpen}
use Rattle.sdm_rules.specs.Reaction.{build_up_from, reaction_start, v_bec}
use Rattle.sdm_rules.specs.Stop.{SlowsTo}
use Rattle.sdm_rules.specs.Supervision.{Supervision, profile_of, row_of}
use Rattle.sdm_rules.specs.Targets.{end_of, fall_at, foot_speed_of, is_fall}

-- V_bec less V_est, in notches: the under-reading amount, and what the train may gain until its emergency brake works
abbrev pub gain_of : TrainAndTrack → OdometerReading → ℕ
gain_of d r = v_bec (build_up_from d (estimate_of r)) 0 - r.speed

-- by how much the train may be above the foot speed at a fall, in notches: by nothing where the fall is past the max
-- safe front end, else by its gain
abbrev pub allowance : TrainAndTrack → OdometerReading → ℤ → ℕ
allowance d r cell = if int_lt (cell_of r.max) cell then 0 else gain_of d r

-- the MRSP falls at the start of the cell, which isn't before the cell of the min safe front end, nor past the end of
-- the authority
pub record IsFallAhead (s : Supervision) (r : OdometerReading) (cell : ℤ) : Type 0 where
  pub falls : is_fall (profile_of s) cell ≡ true
  pub ahead : cell_of r.min ≤ℤ cell
  pub by_end : cell ≤ℤ pos (end_of s.authority)

-- every motion from the reading has at or past each such fall at most its foot speed with the allowance
abbrev pub MeetsFalls : Supervision → OdometerReading → Type 0
MeetsFalls s r = (cell : ℤ) → IsFallAhead s r cell →
    SlowsTo (slopes_of Safe s.train_and_track) (reaction_start s.train_and_track r) (place_of_cell cell)
    (foot_speed_of (fall_at (profile_of s) cell) + allowance s.train_and_track r cell)

-- no fall drops out of what a covered row without an emergency command promises
abbrev pub LawOfFalls : Type 0
LawOfFalls = (s : Supervision) (r : OdometerReading) → IsOpen s → IsTrue (row_of s r).covered →
    (row_of s r).held.eb ≡ false → MeetsFalls s r
