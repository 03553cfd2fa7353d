-- A ride in release speed monitoring over a change of data: the train of `ReleaseRideCases`, which gets new data after its
-- first reading. The promise keeps the data of its reading, and the trip place is by the new ones.
use Rattle.std.proofs.Common.{◌≡◌, pos, true, List, ◌∷◌, ◌≤◌}
use Rattle.std.proofs.Common.{◌≤ℤ◌, refl, subst, sym, ap, ◌∙◌, arith}
use Rattle.std.specs.Prelude.{All, map, Ok, Some, None}
use Rattle.std.proofs.lemmas.Option.{none-some}
use Rattle.sdm_rules.specs.declared.authorities.Authority.{Authority}
use Rattle.sdm_rules.specs.declared.authorities.Authority.TheVariants.{Stop}
use Rattle.sdm_rules.specs.declared.data.SlopeKind.TheVariants.{Safe}
use Rattle.sdm_rules.specs.declared.records.Event.TheVariants as record_kinds
use Rattle.sdm_rules.specs.Cells.{place_of_cell}
use Rattle.sdm_rules.specs.Curves.{place_at, corner, arc, stepped, arc_back, back}
use Rattle.sdm_rules.specs.Data.{TrainAndTrack}
use Rattle.sdm_rules.specs.Decelerations.{slope_at, slopes_of}
use Rattle.sdm_rules.specs.Limits.{computed}
use Rattle.sdm_rules.specs.Opening.{IsOpen}
use Rattle.sdm_rules.specs.Reaction.{reaction_times}
use Rattle.sdm_rules.specs.Release.{fits, t_be}
use Rattle.sdm_rules.specs.Supervision.{Supervision, after_reading, opening}
use Rattle.sdm_rules.specs.TakeOver.{change, take_over_fault, taken_over, unless_refused}
use Rattle.sdm_ride.specs.Happenings.{Happening, Record, Overdue, Change}
use Rattle.sdm_ride.specs.Moments.{by_rows, Moment, after, after_change}
use Rattle.sdm_ride.specs.Moments.{moments}
use Rattle.sdm_ride.specs.RideLaws.{IsNeverPast}
use Rattle.sdm_release_ride.specs.TripPlaces.{by_release}
use Rattle.sdm_release_ride.specs.ReleaseRideLaws.{AllJudged, EndsWithTripBy, IsReleaseRide, KeepsBounds}
use Rattle.sdm_release_ride.specs.ReleaseRideLaws.{unpromised}
use Rattle.sdm_release_ride.specs.ReleaseRideLaws.{LawOfReleasePlaces}
use Rattle.sdm_release_ride.specs.ReleaseRideLaws.{LawOfSameTrains}
use Rattle.sdm_release_ride.proofs.TripSpeeds.{fits_within}
use Rattle.sdm_cases.proofs.Journeys.{plain_band, plain_national, plain_train_and_track}
use Rattle.sdm_cases.proofs.ReleaseRideCases.{AreHolding, AreSteps, Ends, May, all_of, are_moments, at_moment}
use Rattle.sdm_cases.proofs.ReleaseRideCases.{between, bounds, braked, by_timely, ending, ends_by, first, first_keeps}
use Rattle.sdm_cases.proofs.ReleaseRideCases.{first_true, halting, halting_may, halts, here, is_ride}
use Rattle.sdm_cases.proofs.ReleaseRideCases.{its_start, judged, keep_all, last_of, line, line_brakes, not_yet}
use Rattle.sdm_cases.proofs.ReleaseRideCases.{running, runs, still, timely, to_first}
use Rattle.sdm_cases.proofs.RideLine.{delays, line_open_under, ride_line}
use Rattle.sdm_cases.proofs.TakeOverCases.{none_in}

-- T_traction is 0.3 s, the EOA is at 9 m, and the release speed is 2 km/h: by these data the trip place is at 9.07 m
abbrev next_line : TrainAndTrack
next_line = ride_line (pos 3) (pos 0)

abbrev next_ending : Authority
next_ending = Stop 900 1000 2

abbrev next : Supervision
next = opening next_line next_ending

abbrev changed : Supervision
changed = taken_over next (between first)

next_fit : fits computed (slopes_of Safe next_line) (t_be next_line) (place_of_cell (pos 1000)) (place_of_cell (pos
    907)) 3
    ≡ true
unfolding ride_line plain_train_and_track plain_national plain_band slopes_of slope_at stepped place_at corner arc
    arc_back back
next_fit = refl

next_in_time : (reaction_times next_line).traction ≤ t_be next_line
unfolding ride_line plain_train_and_track plain_national reaction_times
next_in_time = omega arith

ends_changed : EndsWithTripBy bounds next_line 1000 next_ending
ends_changed =
    let three = fits_within next_line 1000 907 3 (omega arith) next_fit in (
      omega arith,
      λ _. record {
        trip = 907;
        after_eoa = omega arith;
        by_svl = omega arith;
        slow = omega arith;
        in_time = next_in_time;
      },
    )

next_open : IsOpen next
next_open = line_open_under (pos 3) (pos 0) next_ending

-- the data are taken, since no restriction is in force
unrestricted : take_over_fault next.train_and_track.track.length_cm (between first).restrictions ≡ None
unfolding after_reading
unrestricted = rw none_in refl

changes : change next (between first) ≡ Ok changed
unfolding change
changes = ap (λ f. unless_refused f changed) unrestricted

to_change : after (by_release bounds) (at_moment (between first) here 30_000 0 0 None) (Change next)
    ≡ at_moment changed here 30_000 0 0 None
unfolding after
to_change = ap (after_change (at_moment (between first) here 30_000 0 0 None)) changes

-- the reading, the change, and no other reading
abbrev over_a_change : List Happening
over_a_change =
    Record (record_kinds.Read first) ∷ Change next ∷ runs 30_000 ∷ Overdue ∷ runs 30_000 ∷ Overdue ∷ runs 30_000
    ∷ Overdue ∷ braked

abbrev changed_stop : List Moment
changed_stop = halts line line_brakes (by_release bounds) first 1 here 30_000 changed (pos 5_311_800_000_000) 3 2

abbrev changed_moments : List Moment
changed_moments =
    at_moment (between first) here 30_000 0 0 None
    ∷ at_moment changed here 30_000 0 0 None
    ∷ at_moment changed (pos 5_251_800_000_000) 30_000 1 1 None
    ∷ at_moment changed (pos 5_251_800_000_000) 30_000 0 1 (Some 0)
    ∷ at_moment changed (pos 5_281_800_000_000) 30_000 1 2 (Some 1)
    ∷ at_moment changed (pos 5_281_800_000_000) 30_000 0 2 (Some 1)
    ∷ at_moment changed (pos 5_311_800_000_000) 30_000 1 3 (Some 2)
    ∷ at_moment changed (pos 5_311_800_000_000) 30_000 0 3 (Some 2)
    ∷ changed_stop

changed_steps : AreSteps line line_brakes (by_release bounds) first 1 here 30_000 its_start over_a_change
    changed_moments
unfolding after
changed_steps =
    let to_the_end = halting line line_brakes (by_release bounds) first 1 here 30_000 changed (pos 5_311_800_000_000)
    3 2 in (
      to_first line line_brakes (by_release bounds) first 1 here 30_000 judged,
      (to_change, (refl, (refl, (refl, (refl, (refl, (refl, to_the_end))))))),
    )

changed_may : AreHolding line line_brakes (by_release bounds) first 1 here 30_000
    (May line line_brakes (by_release bounds) first 1 here 30_000 timely (by_timely first))
    its_start over_a_change changed_moments
changed_may =
    let run = running line line_brakes (by_release bounds) first 1 here 30_000 timely (by_timely first) changed in
    let none = not_yet line line_brakes (by_release bounds) first 1 here 30_000 in
    let one = still line line_brakes (by_release bounds) first 1 here 30_000 0 (omega arith) in
    let two = still line line_brakes (by_release bounds) first 1 here 30_000 1 (omega arith) in
    let to_the_end = halting_may line line_brakes (by_release bounds) first 1 here 30_000 timely (by_timely first)
    changed
    (pos 5_311_800_000_000) 3 2 in (
      λ promises. first_true,
      (
        next_open,
        (
          run here 0 None none,
          (
            tt,
            (
              run (pos 5_251_800_000_000) 1 (Some 0) one,
              (tt, (run (pos 5_281_800_000_000) 2 (Some 1) two, (tt, to_the_end))),
            ),
          ),
        ),
      ),
    )

changed_moments_are : moments (by_release bounds) its_start over_a_change ≡ changed_moments
changed_moments_are =
    are_moments line line_brakes (by_release bounds) first 1 here 30_000 its_start over_a_change changed_moments
    changed_steps

changed_authorities : All Ends (its_start ∷ moments (by_release bounds) its_start over_a_change)
unfolding after_reading
changed_authorities =
    let e = ends_changed in
    subst (λ (ns : List Moment). All Ends (its_start ∷ ns)) (sym changed_moments_are)
    (all_of Ends (its_start ∷ changed_moments)
    (ends_by, (ends_by, (e, (e, (e, (e, (e, (e, (e, (e, (e, (e, (e, (e, (e, (e, (e, (e, (e, (e, tt)))))))))))))))))))))

changed_readings : AllJudged (by_release bounds) (KeepsBounds bounds) its_start over_a_change
changed_readings =
    keep_all its_start over_a_change changed_moments changed_steps (
      first_keeps,
      (
        (λ r is untripped. absurd (none-some r is)),
        (
          (λ r is untripped. absurd (none-some r is)),
          (
            (λ r is
                untripped. absurd (none-some r is)),
            (
              (λ r is untripped. absurd (none-some r is)),
              (
                (λ r is untripped. absurd
                    (none-some r is)),
                (
                  (λ r is untripped. absurd (none-some r is)),
                  (
                    (λ r is untripped. absurd (none-some r is)),
                    (
                      (λ
                          r is untripped. absurd (none-some r is)),
                      (
                        (λ r is untripped. absurd (none-some r is)),
                        (
                          (λ r is untripped. absurd
                              (none-some r is)),
                          (
                            (λ r is untripped. absurd (none-some r is)),
                            (
                              (λ r is untripped. absurd (none-some r is)),
                              (
                                (λ
                                    r is untripped. absurd (none-some r is)),
                                (
                                  (λ r is untripped. absurd (none-some r is)),
                                  (
                                    (λ r is untripped. absurd
                                        (none-some r is)),
                                    (
                                      (λ r is untripped. absurd (none-some r is)),
                                      (
                                        (λ r is untripped. absurd (none-some r is)),
                                        (
                                          (λ
                                              r is untripped. absurd (none-some r is)),
                                          tt,
                                        ),
                                      ),
                                    ),
                                  ),
                                ),
                              ),
                            ),
                          ),
                        ),
                      ),
                    ),
                  ),
                ),
              ),
            ),
          ),
        ),
      ),
    )

-- A RIDE OVER A CHANGE OF DATA: the promise keeps the data of its reading, and from the change on the trip place is by
-- the new ones
a_changed_ride : IsReleaseRide bounds (delays 1) 1 1000 its_start over_a_change
a_changed_ride = record {
  start = record { is_open = line_open_under (pos 2) (pos 0) ending; none = refl };
  ride =
      is_ride line line_brakes (by_release bounds) first 1 here 30_000 timely (by_timely first) its_start over_a_change
      changed_moments changed_steps changed_may;
  authorities = changed_authorities;
  readings = changed_readings;
}

changed_stops_by_law : LawOfReleasePlaces → (last_of changed_moments its_start).place ≤ℤ pos 5_400_000_000_000
changed_stops_by_law law =
    let all = subst (λ (ns : List Moment). IsNeverPast 1 1000 ns) changed_moments_are
    (law bounds (delays 1) 1 1000 its_start over_a_change (omega arith) a_changed_ride) in
    all 18 its_start (omega arith)

changed_end : (last_of changed_moments its_start).place ≡ pos 5_395_133_333_333
changed_end = refl

-- by the rows it has the same moments, but for what is promised
changed_same_by_law : LawOfSameTrains →
    map unpromised (moments by_rows its_start over_a_change) ≡ map unpromised changed_moments
changed_same_by_law law =
    law bounds its_start over_a_change ∙ ap (λ (ns : List Moment). map unpromised ns) changed_moments_are
