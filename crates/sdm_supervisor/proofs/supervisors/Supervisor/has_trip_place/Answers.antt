-- What is answered is the test, which is so exactly where there is a trip place.
use Rattle.std.proofs.Common.{◌≡◌, ◌+◌, ◌*◌, nat_le, rules, subst, sym, Bool}
use Rattle.std.specs.Prelude.{◌↔◌, IsTrue}
use Rattle.sdm_laws.specs.TripPlaces.{IsStopWithTrip, has_trip_place}
use Rattle.sdm_laws.proofs.Rows.TripPlaces.{trip_places}
use Rattle.sdm_supervisor.specs.Supervised.{bounds_of}
use Rattle.sdm_supervisor.proofs.supervisors.Supervisor.has_trip_place.Goals as goal

pub returns-clause-trip : goal.returns-clause-trip
returns-clause-trip c =
    let s = c.args.self.now in
    let bounds = bounds_of c.args.width_cm c.args.excess_mm_s in
    let answered : nat_le (c.from.result + 54 * c.from-2.result) c.from-3.result
    ≡ has_trip_place bounds s.train_and_track s.authority = search rules in
    subst (λ (yes : Bool). IsTrue yes ↔ IsStopWithTrip bounds s.train_and_track s.authority) (sym answered)
    (trip_places bounds s.train_and_track s.authority)
