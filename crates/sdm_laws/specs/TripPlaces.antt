-- The trip place of a release speed: where a train in release speed monitoring is tripped at the latest, with room for
-- what its readings leave open (own).
use Rattle.std.specs.Prelude.{ℕ, Bool, false, IsTrue, ◌&&◌, ◌+◌, ◌≤◌, ◌↔◌, nat_le}
use Rattle.sdm_num.specs.Units.{notches}
use Rattle.sdm_rules.specs.declared.authorities.Authority.{Authority}
use Rattle.sdm_rules.specs.declared.authorities.Authority.TheVariants.{Stop, Limit}
use Rattle.sdm_rules.specs.Data.{TrainAndTrack}
use Rattle.sdm_rules.specs.Reaction.{reaction_times}
use Rattle.sdm_rules.specs.Release.{calculated, t_be}

-- what the readings in release speed monitoring keep until the train is tripped (own)
pub record TripBounds : Type 0 where
  pub width : ℕ  -- W: at most from the min to the max safe front end, in cm
  pub excess : ℕ  -- U: at most how much faster than V_est the train may get until its brake works, in notches

-- a release speed, in km/h, has a trip place: one at least W past the EOA and not past the SvL, for which the
-- calculated release speed is at least U above this one; and T_traction is at most T_be, which is all that the
-- calculation counts (own)
pub record HasTripPlace (b : TripBounds) (d : TrainAndTrack) (eoa svl release : ℕ) : Type 0 where
  pub trip : ℕ  -- cm
  pub after_eoa : eoa + b.width ≤ trip
  pub by_svl : trip ≤ svl
  pub slow : notches release + b.excess ≤ notches (calculated d svl trip)
  pub in_time : (reaction_times d).traction ≤ t_be d

-- the authority is a stop whose release speed has a trip place (own)
abbrev pub IsStopWithTrip : TripBounds → TrainAndTrack → Authority → Type 0
IsStopWithTrip b d (Stop eoa svl release) = HasTripPlace b d eoa svl release
IsStopWithTrip b d (Limit loa speed) = ⊥

-- ---- the test

-- the authority is a stop whose release speed has its trip place W past the EOA (own)
abbrev pub has_trip_place : TripBounds → TrainAndTrack → Authority → Bool
has_trip_place b d (Stop eoa svl release) =
    nat_le (eoa + b.width) svl
    && nat_le (notches release + b.excess) (notches (calculated d svl (eoa + b.width)))
    && nat_le (reaction_times d).traction (t_be d)
has_trip_place b d (Limit loa speed) = false

-- the place W past the EOA is a trip place wherever there is one: none that lies further on leaves a greater speed
abbrev pub LawOfTripPlaces : Type 0
LawOfTripPlaces = (b : TripBounds) (d : TrainAndTrack) (a : Authority) →
    IsTrue (has_trip_place b d a) ↔ IsStopWithTrip b d a

-- ---- the calculated release speed

-- the calculated release speed of a trip has a trip place, for every W that fits before the trip and with no U, where
-- T_traction is at most T_be; places in cm (own)
abbrev pub HasItsTrip : TrainAndTrack → ℕ → ℕ → ℕ → Type 0
HasItsTrip d eoa svl trip =
    (reaction_times d).traction ≤ t_be d → (width : ℕ) → eoa + width ≤ trip →
    HasTripPlace (record { width = width; excess = 0 }) d eoa svl (calculated d svl trip)

-- so it is of each trip that is accepted
abbrev pub LawOfCalculatedTrips : Type 0
LawOfCalculatedTrips = (d : TrainAndTrack) (eoa svl trip : ℕ) → trip ≤ svl → HasItsTrip d eoa svl trip
