-- The guard of release speed monitoring: which readings of an untripped train the computer relies on (own).
use Rattle.std.specs.Prelude.{Bool, not, ◌&&◌, ◌||◌}
use Rattle.sdm_num.specs.Readings.{OdometerReading}
use Rattle.sdm_rules.specs.declared.rows.Row.{Row}
use Rattle.sdm_rules.specs.Supervision.{Supervision}
use Rattle.sdm_supervisor.specs.Supervised.{bounds_of}
use Rattle.sdm_release_ride.specs.TripPlaces.{TripBounds, has_trip_place, is_within_bounds}

-- W is 10 m, from the min to the max safe front end, as the odometer has it. U is 1 m/s: the under-reading of 0.2 m/s and
-- a gain of 0.8 m/s until the brake works (own)
abbrev pub bounds : TripBounds
bounds = bounds_of 1_000 1_000

-- where it finds an untripped train a reading is relied on: it keeps the bounds, and the release speed in force has a trip
-- place for them (own)
abbrev pub is_bounded : Supervision → OdometerReading → Bool
is_bounded s r = is_within_bounds bounds s.train_and_track r && has_trip_place bounds s.train_and_track s.authority

-- the emergency brake is ordered after a row: where it is commanded, and where the row is neither covered nor relied on
-- (own)
abbrev pub is_guarded_order : Row → Bool → Bool
is_guarded_order row relied = row.held.eb || (not row.covered && not relied)
