-- What the record of a stop with a trip place leaves in force: the calculated release speed of the trip.
use Rattle.std.proofs.Common.{◌≡◌, refl, subst}
use Rattle.std.specs.Prelude.{Option, Some, None, Ok}
use Rattle.sdm_rules.specs.declared.authorities.Authority.TheVariants.{Stop}
use Rattle.sdm_rules.specs.declared.faults.EventCause.{EventCause}
use Rattle.sdm_rules.specs.Records.{step, trip_cause, trip_fault, unless}
use Rattle.sdm_rules.specs.Release.{calculated}
use Rattle.sdm_rules.specs.Supervision.{Supervision, after_authority}
use Rattle.sdm_laws.proofs.Rows.CalculatedRelease.{trip_by_svl}
use Rattle.sdm_laws.proofs.Rows.TripPlaces.{calculated_trips, earlier}
pub use Rattle.sdm_laws.proofs.Rows.TripPlaces.{fits_within}
use Rattle.sdm_release_ride.specs.ReleaseRideLaws.{IsCalculatedStop, LawOfCalculatedStops, LawOfEarlierTrips}

pub earlier_trips : LawOfEarlierTrips
earlier_trips s svl trip' trip le by_svl = earlier s.train_and_track svl trip' trip le by_svl

-- ---- the record of a stop with a trip place

-- what is taken had no fault
taken : {F : Type 0} (cause : F → EventCause) (fault : Option F) (s t : Supervision) → unless cause fault s ≡ Ok t →
    (fault ≡ None) × (s ≡ t)
taken cause None s t e = (refl, cc)
taken cause (Some fault) s t e = absurd cc

pub calculated_stops : LawOfCalculatedStops
unfolding step
calculated_stops s t eoa svl trip in_time e =
    let d = s.train_and_track in
    let h = taken trip_cause (trip_fault d.track.length_cm eoa svl trip)
    (after_authority s (Stop eoa svl (calculated d svl trip))) t e in
    let by_svl = trip_by_svl d.track.length_cm eoa svl trip h.0 in
    subst (λ (x : Supervision). IsCalculatedStop x eoa svl trip) h.1 (record {
      release = calculated d svl trip;
      authority = refl;
      has_trip = calculated_trips d eoa svl trip by_svl in_time;
    })
