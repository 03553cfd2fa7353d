-- A reading that is judged orders what its row asks, and what the guard does; one whose time goes back changes nothing.
use Rattle.sdm_release_ride.specs.TripPlaces.{by_guarded}
use Rattle.sdm_service_ride.specs.ServiceMoments.{by_eoa}
use Rattle.sdm_onboard.specs.Guard.{bounds}
use Rattle.sdm_onboard.proofs.Going.{judged, refused, row_orders, row_serves}
use Rattle.sdm_onboard.proofs.onboard.Onboard.judge.Goals as goal

pub returns-in_err-row-clause-follows : goal.returns-in_err-row-clause-follows
returns-in_err-row-clause-follows c = record {
  emergency = refused (by_guarded bounds) _ _ c.args.reading.now _ c.in_err-row.ensures.time_back
      c.in_err-row.ensures.unchanged (λ stood. stood);
  service = refused by_eoa _ _ c.args.reading.now _ c.in_err-row.ensures.time_back c.in_err-row.ensures.unchanged
      (λ stood. stood);
}

pub returns-clause-follows : goal.returns-clause-follows
returns-clause-follows c = record {
  emergency = judged (by_guarded bounds) _ _ c.args.reading.now c.in_ok-row.ensures.in_time c.in_ok-row.ensures.taken
      (row_orders c.args.self.now.supervisor _ c.args.reading.now c.in_ok-row.row c.is_relied_on-is_relied_on.result _
      c.of-self.result.emergency c.in_ok-row.ensures.taken c.is_relied_on-is_relied_on.ensures c.of-self.ensures.emergency
      c.in_ok-row.ensures.row);
  service = judged by_eoa _ _ c.args.reading.now c.in_ok-row.ensures.in_time c.in_ok-row.ensures.taken
      (row_serves c.in_ok-row.row _ c.is_relied_on-is_relied_on.result _ c.of-self.result.emergency c.of-self.result.service
      c.of-self.ensures.emergency c.of-self.ensures.service c.in_ok-row.ensures.row);
}
