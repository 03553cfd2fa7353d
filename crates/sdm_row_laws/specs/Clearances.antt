-- With how much room the service brake stops a train: the places that a reading is clear of, where the train may be
-- further on and faster than its estimate and may gain speed, each by an allowance (own).
use Rattle.std.specs.Prelude.{◌≡◌, ℕ, ℤ, pos, Bool, false, IsTrue, not, Option, None, Some, ◌+◌, ◌<◌, ◌≤ℤ◌, ◌+ℤ◌, ◌*ℤ◌}
use Rattle.sdm_num.specs.Fractions.{less}
use Rattle.sdm_num.specs.Readings.{OdometerReading}
use Rattle.sdm_num.specs.Units.{place_of_mm}
use Rattle.sdm_rules.specs.declared.data.SlopeKind.TheVariants.{Expected}
use Rattle.sdm_rules.specs.declared.motions.Start.{Start}
use Rattle.sdm_rules.specs.Cells.{place_of_cell}
use Rattle.sdm_rules.specs.Data.{TrainAndTrack}
use Rattle.sdm_rules.specs.Decelerations.{slopes_of}
use Rattle.sdm_rules.specs.Limits.{computed}
use Rattle.sdm_rules.specs.Opening.{IsOpen}
use Rattle.sdm_rules.specs.Reaction.{build_up_of, d_bec, reaction_times, v_bec}
use Rattle.sdm_rules.specs.Stop.{StopsBy}
use Rattle.sdm_rules.specs.Supervision.{Supervision}
use Rattle.sdm_rules.specs.Triggers.{is_past}

-- what the train may be beyond its estimate at a reading, and gain after it: its front end in grains, its speed in
-- notches, its acceleration in cm/s² (own)
pub record Allowance : Type 0 where
  pub front : ℕ
  pub speed : ℕ
  pub accel : ℕ

-- the train of a reading, with the allowance, until its service brake works T_bs later (own)
abbrev pub start_with : Allowance → TrainAndTrack → OdometerReading → Start
start_with a d r = record {
  front = r.est +ℤ pos a.front;
  speed = r.speed + a.speed;
  accel1 = 0;
  accel2 = a.accel;
  traction = 0;
  berem = (reaction_times d).bs;
}

-- the reading is clear of a place, in grains: the place isn't nearer than what the train runs until the service brake
-- works, gaining as it may, and then to where the computed curve of the place has its speed (own)
abbrev pub is_clear_of : Allowance → TrainAndTrack → OdometerReading → ℤ → Bool
is_clear_of a d r place =
    let start = start_with a d r in
    let b = build_up_of start in
    not (is_past 0 start.front (less (computed (slopes_of Expected d) place 0 (v_bec b 0)) (d_bec b 0)))

-- THE FIRST CLEAR PLACE of a track, as a whole millimetre: the reading is clear of each place at or past it, and of
-- none at or before a lesser millimetre of the track (own)
pub record IsFirstClear (a : Allowance) (d : TrainAndTrack) (r : OdometerReading) (mm : ℕ) : Type 0 where
  pub on_track : pos mm ≤ℤ (pos 10 *ℤ d.track.length_cm)
  pub clear : (place : ℤ) → place_of_mm (pos mm) ≤ℤ place → IsTrue (is_clear_of a d r place)
  pub first : (lesser : ℕ) → lesser < mm → (place : ℤ) → place ≤ℤ place_of_mm (pos lesser) →
      is_clear_of a d r place ≡ false

-- there is one exactly where the reading is clear of the track's end (own)
abbrev pub IsFirstClearOf : Allowance → TrainAndTrack → OdometerReading → Option ℕ → Type 0
IsFirstClearOf a d r None = is_clear_of a d r (place_of_cell d.track.length_cm) ≡ false
IsFirstClearOf a d r (Some mm) = IsFirstClear a d r mm

-- from a reading that is clear of a place every motion that brakes with at least the expected slopes from T_bs after it on stops at or
-- before the place
abbrev pub LawOfClearStops : Type 0
LawOfClearStops =
    (a : Allowance) (s : Supervision) (r : OdometerReading) (place : ℤ) → IsOpen s →
    IsTrue (is_clear_of a s.train_and_track r place) →
    StopsBy (slopes_of Expected s.train_and_track) (start_with a s.train_and_track r) place
