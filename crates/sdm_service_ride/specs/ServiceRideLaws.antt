-- The laws of rides under the service brake, as statements over their definitions alone (own).
use Rattle.std.specs.Prelude.{◌≡◌, ℕ, ℤ, pos, Bool, IsTrue, All, List, Some, ◌<◌}
use Rattle.sdm_rules.specs.declared.authorities.Authority.TheVariants.{Stop}
use Rattle.sdm_rules.specs.Cells.{place_of_cell}
use Rattle.sdm_rules.specs.Motion.{IsBy}
use Rattle.sdm_ride.specs.Happenings.{Happening}
use Rattle.sdm_ride.specs.Moments.{Moment, Promise}
use Rattle.sdm_ride.specs.Rides.{Delays, point_of}
use Rattle.sdm_ride.specs.RideLaws.{IsRideStart, KeepsPromise, Promised}
use Rattle.sdm_row_laws.specs.Clearances.{is_clear_of}
use Rattle.sdm_service_ride.specs.ServiceMoments.{Allowance, no_allowance, steady_moments}
use Rattle.sdm_service_ride.specs.ServiceRides.{IsByServiceClock, IsByTimelyServiceOrders, IsServiceRide}

-- ---- the EOA

-- the point is at or before the EOA of the reading's authority (own)
abbrev pub IsByItsEoa : Promised
IsByItsEoa s under r x =
    (eoa svl release : ℕ) → under.authority ≡ Stop eoa svl release → IsBy s (place_of_cell (pos eoa)) x

-- THE RIDE OF THE SERVICE BRAKE: where the estimate is true at each reading that promises the EOA, at every moment of
-- every ride by orders that work in time the true front end is at or before the EOA of the last such reading, unless the train has
-- gained speed since
abbrev pub LawOfServiceRides : Type 0
LawOfServiceRides =
    (w : Delays) (s : ℕ) (m : Moment) (hs : List Happening) → 0 < s → IsRideStart m →
    IsServiceRide (IsByTimelyServiceOrders w s) no_allowance s m hs →
    All (KeepsPromise IsByItsEoa s) (steady_moments no_allowance m hs)

-- the same of every ride by the clock, whatever is ordered
abbrev pub LawOfTimedServiceRides : Type 0
LawOfTimedServiceRides =
    (s : ℕ) (m : Moment) (hs : List Happening) → 0 < s → IsRideStart m →
    IsServiceRide (IsByServiceClock s) no_allowance s m hs →
    All (KeepsPromise IsByItsEoa s) (steady_moments no_allowance m hs)

-- ---- with an allowance

-- the reading that gave a promise is clear of a place, in grains, with the allowance (own)
abbrev pub is_clear : Allowance → Promise → ℤ → Bool
is_clear a c place = is_clear_of a c.under.train_and_track c.reading place

-- while a promise stands, the true front end is at or before each place that its reading was clear of (own)
abbrev pub StaysClear : Allowance → ℕ → Moment → Type 0
StaysClear a s m =
    (c : Promise) → m.promise ≡ Some c → (place : ℤ) → IsTrue (is_clear a c place) → IsBy s place (point_of m)

-- WITH AN ALLOWANCE: where the true train may be further on and faster than its estimate and may gain speed, each by the
-- allowance, it is at every moment of every ride by the orders at or before each place that the last reading which
-- promised the EOA was clear of
abbrev pub LawOfAllowedRides : Type 0
LawOfAllowedRides =
    (w : Delays) (a : Allowance) (s : ℕ) (m : Moment) (hs : List Happening) → 0 < s → IsRideStart m →
    IsServiceRide (IsByTimelyServiceOrders w s) a s m hs →
    All (StaysClear a s) (steady_moments a m hs)
