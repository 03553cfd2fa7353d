-- The calculated release speed: the greatest whole speed from which a train that is tripped at a place still stops at
-- or before the SvL (SUBSET-026-3 3.13.9.4.8; own: the place of the trip is given). Places are in grains unless a
-- comment gives another unit.
use Rattle.std.specs.Prelude.{ℕ, zero, suc, ℤ, pos, Bool, IsTrue, not, ◌<◌, unsigned_abs, if◌then◌else◌}
use Rattle.sdm_num.specs.Units.{notches, distance_at, millimetre, top_kmh}
use Rattle.sdm_num.specs.Fractions.{Fraction, less}
use Rattle.sdm_rules.specs.declared.data.SlopeKind.TheVariants.{Safe}
use Rattle.sdm_rules.specs.declared.motions.Start.{Start}
use Rattle.sdm_rules.specs.Cells.{place_of_cell}
use Rattle.sdm_rules.specs.Slopes.{Slopes}
use Rattle.sdm_rules.specs.Data.{TrainAndTrack}
use Rattle.sdm_rules.specs.Decelerations.{slopes_of}
use Rattle.sdm_rules.specs.Limits.{CurvePlaces, computed, exact_places}
use Rattle.sdm_rules.specs.Triggers.{is_past}
use Rattle.sdm_rules.specs.Stop.{StopsBy}

-- ---- the speed

-- where a train at a speed in notches is tripped at the latest if it is to stop by the SvL: d_EBD(V) - V * T_be, with
-- T_be in ds, since the speed stays until the emergency brake works (SUBSET-026-3 3.13.9.4.8; own form)
abbrev pub latest_trip : CurvePlaces → Slopes → ℕ → ℤ → ℕ → Fraction
latest_trip P on t_be svl v = less (P on svl 0 v) (distance_at v t_be)

-- a speed in km/h fits: the place of the trip isn't past the latest one (SUBSET-026-3 3.13.9.4.8; own form)
abbrev pub fits : CurvePlaces → Slopes → ℕ → ℤ → ℤ → ℕ → Bool
fits P on t_be svl trip kmh = not (is_past 0 trip (latest_trip P on t_be svl (notches kmh)))

-- the greatest number from 1 to a top that passes a test; 0 where none does (own)
abbrev pub greatest_up_to : ℕ → (ℕ → Bool) → ℕ
greatest_up_to zero test = 0
greatest_up_to (suc n) test = if test (suc n) then suc n else greatest_up_to n test

-- the calculated release speed in km/h on slopes, by the computed places: the greatest whole speed that fits
-- (SUBSET-026-3 3.13.9.4.8; own form)
unfoldable pub release_speed : Slopes → ℕ → ℤ → ℤ → ℕ
release_speed on t_be svl trip = greatest_up_to top_kmh (fits computed on t_be svl trip)

-- T_be, the emergency brake's build-up time, in ds (SUBSET-026-3 3.13.2.2; own: one time)
abbrev pub t_be : TrainAndTrack → ℕ
t_be d = unsigned_abs d.train.emergency_time

-- the calculated release speed in km/h, with the SvL and the place of the trip in cm (SUBSET-026-3 3.13.9.4.8; own
-- form)
abbrev pub calculated : TrainAndTrack → ℕ → ℕ → ℕ
calculated d svl trip = release_speed (slopes_of Safe d) (t_be d) (place_of_cell (pos svl)) (place_of_cell (pos trip))

-- ---- what it promises

-- a train that is tripped at a place, in cm, at a speed in km/h: from there on it doesn't accelerate, and after T_be
-- it brakes (own)
abbrev pub trip_start : TrainAndTrack → ℕ → ℕ → Start
trip_start d trip kmh = record {
  front = place_of_cell (pos trip);
  speed = notches kmh;
  accel1 = 0;
  accel2 = 0;
  traction = 0;
  berem = t_be d;
}

-- A train that is tripped at this speed stops at or before the SvL, and the next whole speed does not fit by limits
-- one millimetre earlier (SUBSET-026-3 3.13.9.4.8; own form)
pub record IsReleaseSpeed (d : TrainAndTrack) (svl trip kmh : ℕ) : Type 0 where
  pub stops : StopsBy (slopes_of Safe d) (trip_start d trip kmh) (place_of_cell (pos svl))
  pub greatest : kmh < top_kmh → IsTrue (is_past millimetre (place_of_cell (pos trip))
      (latest_trip exact_places (slopes_of Safe d) (t_be d) (place_of_cell (pos svl)) (notches (suc kmh))))
