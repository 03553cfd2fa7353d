-- A closed-loop drive: a number drives the train, an odometer reads it with errors, and its emergency brake works some
-- time after the supervisor commands it (own). Places and distances are in grains, speeds in notches, times in ds,
-- accelerations in cm/s². A train of one notch goes 1,000,000 grains in a ds, and 1 cm/s² gains 54 notches in it.
use Rattle.std.specs.Prelude.{ℕ, zero, suc, ℤ, pos, negsuc, Bool, true, false, not, ◌&&◌, ◌||◌, List, [], ◌∷◌, ◌++◌}
use Rattle.std.specs.Prelude.{Option, Some, None, ◌+◌, ◌-◌, ◌*◌, ◌/◌, ◌%◌, ◌+ℤ◌, ◌-ℤ◌, ◌==◌, nat_le, min, max, length}
use Rattle.std.specs.Prelude.{map, fold, codes, count_by, unsigned_abs, if◌then◌else◌}
use Rattle.std.specs.Int.{int_gap, int_min}
use Rattle.std.specs.Option.{option_map_or}
use Rattle.sdm_num.specs.Bounds.{mm_above, mm_below}
use Rattle.sdm_num.specs.Readings.{OdometerReading, reading_of}
use Rattle.sdm_rules.specs.declared.authorities.Authority.{Authority}
use Rattle.sdm_rules.specs.declared.authorities.Authority.TheVariants.{Stop}
use Rattle.sdm_rules.specs.declared.data.SlopeKind.TheVariants.{Safe}
use Rattle.sdm_rules.specs.Cells.{cell_of, place_of_cell}
use Rattle.sdm_rules.specs.Slopes.{Slopes}
use Rattle.sdm_rules.specs.Data.{TrainAndTrack}
use Rattle.sdm_rules.specs.Decelerations.{slopes_of}
use Rattle.sdm_rules.specs.Reaction.{reaction_times}
use Rattle.sdm_rules.specs.Supervision.{Supervision, opening, row_of, after_reading}
use Rattle.sdm_rules.specs.Within.{is_within_svl}
use Rattle.sdm_formats.specs.Trial.{next_number, count_text}
use Rattle.sdm_drive.specs.declared.orders.Orders.{Orders}
use Rattle.sdm_drive.specs.declared.rows.DriveRow.{DriveRow}

-- ---- the train in one ds

-- the true front end, in grains, and the true speed, in notches (own)
pub record TrueTrain : Type 0 where
  pub place : ℤ
  pub speed : ℕ

-- the greatest speed of a driven train, in notches: 138,888 mm/s (own)
abbrev pub greatest_driven : ℕ
greatest_driven = 7_499_952

-- a quotient rounded up
abbrev pub div_up : ℕ → ℕ → ℕ
div_up a b = (a + (b - 1)) / b

-- the greatest of `f 0` to `f n`
abbrev pub greatest_to : (ℕ → ℕ) → ℕ → ℕ
greatest_to f zero = f zero
greatest_to f (suc n) = max (greatest_to f n) (f (suc n))

-- the greatest slope of any band in the cells from one to another, both included, in 1/Q m/s² (own)
unfoldable pub greatest_slope : Slopes → ℤ → ℤ → ℕ
greatest_slope on from to =
    greatest_to (λ k. greatest_to (λ band. on.slope band (from +ℤ pos k)) (length on.uppers)) (int_gap from to)

-- after a ds of coasting: the speed stays (own)
abbrev pub after_coasting : TrueTrain → TrueTrain
after_coasting t = record { place = t.place +ℤ pos (1_000_000 * t.speed); speed = t.speed }

-- the greatest slope of the cells from that of the front end to the one that it reaches by coasting for a ds (own)
abbrev pub slope_ahead : Slopes → TrueTrain → ℕ
slope_ahead on t = greatest_slope on (cell_of t.place) (cell_of (after_coasting t).place)

-- how much speed a slope takes in a ds, in notches: 27 * slope / (10^7 * q), rounded up (own)
unfoldable pub speed_loss : ℕ → ℕ → ℕ
speed_loss q slope = div_up (27 * slope) (10_000_000 * q)

-- how far a train goes until a slope has stopped it, in grains: 5 * 10^12 * q * speed² / (27 * slope), rounded down
-- (own)
unfoldable pub stopping_distance : ℕ → ℕ → ℕ → ℕ
stopping_distance q slope speed = (5_000_000_000_000 * q * (speed * speed)) / (27 * slope)

-- after a ds of braking with a slope: the speed falls evenly, or the train stops on the way (own)
abbrev pub after_braking_with : ℕ → ℕ → TrueTrain → TrueTrain
after_braking_with q slope t =
    let loss = speed_loss q slope in
    if nat_le loss t.speed
    then record { place = t.place +ℤ pos (500_000 * (2 * t.speed - loss)); speed = t.speed - loss }
    else record { place = t.place +ℤ pos (stopping_distance q slope t.speed); speed = 0 }

-- after a ds of braking: with the greatest slope ahead, so with at least every slope on its way (own)
unfoldable pub after_braking : Slopes → TrueTrain → TrueTrain
after_braking on t = after_braking_with on.q (slope_ahead on t) t

-- a speed with the change of a ds of acceleration, not below 0, in notches (own)
abbrev pub accelerated : ℤ → ℕ → ℕ
accelerated (pos a) speed = speed + 54 * a
accelerated (negsuc a) speed = speed - 54 * suc a

-- after a ds of driving with an acceleration: the speed changes evenly, up to the greatest (own)
unfoldable pub after_driving : ℤ → TrueTrain → TrueTrain
after_driving accel t =
    let speed = min (accelerated accel t.speed) greatest_driven in
    record { place = t.place +ℤ pos (500_000 * (t.speed + speed)); speed = speed }

-- ---- the train from a reading to the next

-- the time from a reading to the next, in ds (own)
abbrev pub step_time : ℕ
step_time = 5

-- the emergency brake is commanded, and works at the time (own)
abbrev pub is_braked : Orders → ℕ → Bool
is_braked o time = o.eb && option_map_or (λ onset. nat_le onset time) o.onset false

-- after the ds that begins at the time: of braking where the emergency brake works, of coasting where it is commanded
-- or the reading wasn't within the SvL, else of driving (own)
unfoldable pub after_ds : Slopes → Orders → ℕ → TrueTrain → TrueTrain
after_ds on o time t =
    if is_braked o time then after_braking on t
    else if o.eb || not o.within then after_coasting t
    else after_driving o.accel t

-- after the `n` ds from the time on (own)
abbrev pub after_several_ds : Slopes → Orders → ℕ → ℕ → TrueTrain → TrueTrain
after_several_ds on o time zero t = t
after_several_ds on o time (suc n) t = after_several_ds on o (suc time) n (after_ds on o time t)

-- 1 where a speed above 0 becomes 0, else 0 (own)
abbrev pub stop_between : ℕ → ℕ → ℕ
stop_between before after = if not (before == 0) && (after == 0) then 1 else 0

-- how often the train stops in the `n` ds from the time on (own)
abbrev pub stops_in : Slopes → Orders → ℕ → ℕ → TrueTrain → ℕ
stops_in on o time zero t = 0
stops_in on o time (suc n) t =
    let next = after_ds on o time t in
    stop_between t.speed next.speed + stops_in on o (suc time) n next

-- ---- the odometer

-- the speed that is read by a number, in mm/s: rounded up where the compensation of under-reading is inhibited, else up
-- to 499 mm/s too low; above 0 for a train that moves, 0 for one that stands (own)
abbrev pub read_speed : Bool → ℕ → ℕ → ℕ
read_speed inhibited x speed =
    if speed == 0 then 0 else if inhibited then div_up speed 54 else max 1 (speed / 54 - x % 500)

-- what is read of the train at a time by a number: the max safe front end is up to 5 m past the true one, rounded up to
-- mm, and the est and the min 5 m and 10 m before that; the acceleration is from -20 to 40 cm/s² (own)
unfoldable pub reading_by : Bool → ℕ → ℕ → TrueTrain → OdometerReading
reading_by inhibited time x t =
    let max_mm = mm_above t.place +ℤ pos (x % 5_001) in
    reading_of time (max_mm -ℤ pos 5_000) (max_mm -ℤ pos 10_000) max_mm (read_speed inhibited x t.speed)
    (pos (x % 61) -ℤ pos 20) (if inhibited then 0 else 500)

-- ---- the drive

-- a drive between two steps (own)
pub record Drive : Type 0 where
  pub supervision : Supervision
  pub train : TrueTrain
  pub number : ℕ  -- the last one of the generator
  pub steps : ℕ  -- how many were made
  pub last : Option ℕ  -- time of the last reading within the SvL, ds
  pub onset : Option ℕ  -- from when on the emergency brake works, where it is commanded, ds

-- the start of a drive from a seed: the train stands at the place 0 (own)
abbrev pub drive_start : TrainAndTrack → Authority → ℕ → Drive
drive_start d a seed = record {
  supervision = opening d a;
  train = record { place = pos 0; speed = 0 };
  number = seed;
  steps = 0;
  last = None;
  onset = None;
}

-- how long after its command the emergency brake works: T_traction + T_berem, in ds (SUBSET-026-3 3.13.9.3.2)
unfoldable pub brake_delay : TrainAndTrack → ℕ
brake_delay d = (reaction_times d).traction + (reaction_times d).berem

-- the time of the last reading within the SvL, after a reading (own)
abbrev pub last_within : Bool → ℕ → Option ℕ → Option ℕ
last_within within time last = if within then Some time else last

-- from when on the emergency brake works, after a reading: as it was while the command stays, and with a new command
-- the delay after the last reading within the SvL, or after this one where none was (own)
abbrev pub onset_after : Bool → Option ℕ → Option ℕ → ℕ → ℕ → Option ℕ
onset_after false onset last time delay = None
onset_after true (Some onset) last time delay = Some onset
onset_after true None (Some within) time delay = Some (within + delay)
onset_after true None None time delay = Some (time + delay)

-- the reading of the next step (own)
abbrev pub next_reading : Drive → OdometerReading
next_reading s =
    reading_by s.supervision.train_and_track.national.inhibit_under_reading (step_time * suc s.steps)
    (next_number s.number) s.train

-- what a reading orders (own)
unfoldable pub orders_after : Drive → OdometerReading → Orders
orders_after s r =
    let within = is_within_svl s.supervision r in
    let eb = (row_of s.supervision r).held.eb in
    let last = last_within within r.time s.last in
    record {
      eb = eb;
      onset = onset_after eb s.onset last r.time (brake_delay s.supervision.train_and_track);
      within = within;
      accel = r.accel;
    }

-- the slopes with which the emergency brake of a drive works: the safe ones (own)
abbrev pub brake_of : Drive → Slopes
brake_of s = slopes_of Safe s.supervision.train_and_track

-- a drive after a reading and the step that follows it (own)
unfoldable pub after_step_from : Drive → OdometerReading → Drive
after_step_from s r =
    let orders = orders_after s r in
    record {
      supervision = after_reading s.supervision r;
      train = after_several_ds (brake_of s) orders r.time step_time s.train;
      number = next_number s.number;
      steps = suc s.steps;
      last = last_within orders.within r.time s.last;
      onset = orders.onset;
    }

-- a drive after its next step (own)
abbrev pub after_step : Drive → Drive
after_step s = after_step_from s (next_reading s)

-- a drive after so many steps (own)
abbrev pub after_steps : ℕ → Drive → Drive
after_steps zero s = s
after_steps (suc n) s = after_steps n (after_step s)

-- ---- rows, and the summary

-- the row of the next step (own)
unfoldable pub drive_row : Drive → DriveRow
drive_row s =
    let r = next_reading s in
    let next = after_step s in
    record {
      row = row_of s.supervision r;
      front = next.train.place;
      speed = next.train.speed;
      stops = stops_in (brake_of s) (orders_after s r) r.time step_time s.train;
    }

-- the rows of so many steps (own)
abbrev pub drive_rows : ℕ → Drive → List DriveRow
drive_rows zero s = []
drive_rows (suc n) s = drive_row s ∷ drive_rows n (after_step s)

-- the front end after the last row; at the start it is 0 (own)
abbrev pub last_front : List DriveRow → ℤ
last_front rows = fold (λ place r. r.front) (pos 0) rows

-- how far the SvL, in cm, is at least ahead of the front end at the start and after all rows, in grains (own)
abbrev pub least_ahead : ℕ → List DriveRow → ℤ
least_ahead svl rows =
    let place = place_of_cell (pos svl) in
    fold int_min place (map (λ r. place -ℤ r.front) rows)

-- the summary: how many rows, how many of them with the emergency brake commanded, the stops, the last front end
-- rounded up to mm, and how far the SvL was at least ahead of it, rounded down to mm (own)
abbrev pub drive_text : ℕ → List DriveRow → List ℕ
drive_text svl rows =
    count_text (codes "cycles") (length rows)
    ++ count_text (codes "emergency") (count_by (λ r. r.row.held.eb) rows)
    ++ count_text (codes "stops") (fold (λ total r. total + r.stops) 0 rows)
    ++ count_text (codes "front") (unsigned_abs (mm_above (last_front rows)))
    ++ count_text (codes "least") (unsigned_abs (mm_below (least_ahead svl rows)))

-- what `drive` writes for data with a stop, no release speed, a seed and so many steps (own)
abbrev pub drive_output : TrainAndTrack → ℕ → ℕ → ℕ → ℕ → List ℕ
drive_output d eoa svl seed cycles = drive_text svl (drive_rows cycles (drive_start d (Stop eoa svl 0) seed))
