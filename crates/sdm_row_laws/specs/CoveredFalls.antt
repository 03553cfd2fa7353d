-- What every covered row says of the falls of the MRSP that the train may still have ahead, also a row with an emergency
-- command (own).
use Rattle.std.specs.Prelude.{◌≡◌, ℕ, ℤ, false, IsTrue, int_lt, max, ◌+◌, if◌then◌else◌}
use Rattle.sdm_num.specs.Readings.{OdometerReading}
use Rattle.sdm_rules.specs.declared.data.SlopeKind.TheVariants.{Safe}
use Rattle.sdm_rules.specs.Cells.{cell_of, place_of_cell}
use Rattle.sdm_rules.specs.Decelerations.{slopes_of}
use Rattle.sdm_rules.specs.Opening.{IsOpen}
use Rattle.sdm_rules.specs.Reaction.{reaction_start}
use Rattle.sdm_rules.specs.Stop.{SlowsTo}
use Rattle.sdm_rules.specs.Supervision.{Supervision, profile_of, row_of}
use Rattle.sdm_rules.specs.Targets.{fall_at, foot_speed_of}
use Rattle.sdm_laws.specs.Falls.{IsFallAhead, MeetsFalls, gain_of}

-- the greatest speed at a fall at the start of a cell, in notches: its foot speed where it is past the max safe front
-- end; else the greater one of its foot speed and V_est, and what the train may gain until its emergency brake works
abbrev pub most_at_fall : Supervision → OdometerReading → ℤ → ℕ
most_at_fall s r cell =
    let foot = foot_speed_of (fall_at (profile_of s) cell) in
    if int_lt (cell_of r.max) cell then foot else max foot r.speed + gain_of s.train_and_track r

-- every motion from the reading has at or past each fall that may still be ahead at most that speed
abbrev pub MeetsEachFall : Supervision → OdometerReading → Type 0
MeetsEachFall s r = (cell : ℤ) → IsFallAhead s r cell →
    SlowsTo (slopes_of Safe s.train_and_track) (reaction_start s.train_and_track r) (place_of_cell cell)
    (most_at_fall s r cell)

-- a covered row promises this, whether or not the emergency brake is commanded
abbrev pub MeetsEachFallIfCovered : Supervision → OdometerReading → Type 0
MeetsEachFallIfCovered s r = IsTrue (row_of s r).covered → MeetsEachFall s r

-- COVERED AND BRAKING: each covered row promises this
abbrev pub LawOfCoveredFalls : Type 0
LawOfCoveredFalls = (s : Supervision) (r : OdometerReading) → IsOpen s → MeetsEachFallIfCovered s r

-- without an emergency command this gives all that `MeetsFalls` says
abbrev pub LawOfFreeFalls : Type 0
LawOfFreeFalls = (s : Supervision) (r : OdometerReading) → (row_of s r).held.eb ≡ false → MeetsEachFall s r →
    MeetsFalls s r
