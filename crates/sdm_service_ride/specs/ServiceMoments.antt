-- A ride under the service brake from moment to moment: it goes on as a ride that is judged by the EOA, and its promise
-- ends once the train gains more speed than it is allowed (own). In its moments the order is that of the service brake.
use Rattle.std.specs.Prelude.{Bool, true, false, not, ◌&&◌, ◌||◌, List, [], ◌∷◌, None, ◌+◌, ◌*◌, nat_lt, nat_le}
use Rattle.std.specs.Prelude.{if◌then◌else◌}
use Rattle.sdm_num.specs.Readings.{OdometerReading}
use Rattle.sdm_rules.specs.declared.authorities.Authority.{Authority}
use Rattle.sdm_rules.specs.declared.authorities.Authority.TheVariants.{Stop, Limit}
use Rattle.sdm_rules.specs.declared.rows.Row.{Row}
use Rattle.sdm_rules.specs.Data.{TrainAndTrack}
use Rattle.sdm_rules.specs.Supervision.{Supervision, row_of}
use Rattle.sdm_ride.specs.Happenings.{Happening, Record, Unread, Overdue, Change, Tick}
use Rattle.sdm_ride.specs.Moments.{Judging, Moment, after, is_release}
pub use Rattle.sdm_row_laws.specs.Clearances.{Allowance}
use Rattle.sdm_row_laws.specs.ServiceStop.{is_before_eoa}

-- no allowance: the estimate is true, and no speed is gained (own)
abbrev pub no_allowance : Allowance
no_allowance = record { front = 0; speed = 0; accel = 0 }

-- ---- what a reading does

-- the row commands a brake, the service brake or the emergency brake (own)
abbrev pub commands_brake : Row → Bool
commands_brake row = row.held.sb || row.held.eb

-- the authority ends at an EOA, and by its estimate the train moves, or stands at or before the SBI of the EOA (own)
abbrev pub has_eoa : TrainAndTrack → OdometerReading → Authority → Bool
has_eoa d r (Stop eoa svl release) = nat_lt 0 r.speed || is_before_eoa d r eoa
has_eoa d r (Limit loa speed) = false

-- the reading promises the EOA: its authority has one, and its row is in C or T and commands no brake (own)
abbrev pub promises_eoa : Supervision → OdometerReading → Bool
promises_eoa s r =
    let row = row_of s r in
    has_eoa s.train_and_track r s.authority && (not (is_release row.state) && not (commands_brake row))

-- by the EOA: such a reading gives a promise, and the service brake is ordered where a row commands a brake (own)
abbrev pub by_eoa : Judging
by_eoa = record { promises = promises_eoa; orders = λ s r. commands_brake (row_of s r) }

-- ---- what follows a moment

-- the train gains no more speed than it is allowed; it gains some in ticks alone (own)
abbrev pub is_steady : Allowance → Moment → Happening → Bool
is_steady a m (Record e) = true
is_steady a m Unread = true
is_steady a m Overdue = true
is_steady a m (Change next) = true
is_steady a m (Tick to length) = nat_le to (m.speed + 54 * a.accel)

-- the next moment: that of a ride by the EOA, without a promise where the train gains more speed than it is allowed
-- (own)
abbrev pub steady_after : Allowance → Moment → Happening → Moment
steady_after a m h =
    let next = after by_eoa m h in
    if is_steady a m h then next else record next { promise = None }

-- the moments that follow (own)
abbrev pub steady_moments : Allowance → Moment → List Happening → List Moment
steady_moments a m [] = []
steady_moments a m (h ∷ hs) = steady_after a m h ∷ steady_moments a (steady_after a m h) hs
