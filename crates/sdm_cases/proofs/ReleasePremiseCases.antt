-- What the premises of rides in release speed monitoring are for: the train of `ReleaseRideCases` passes the SvL where one
-- of them is broken and all else is as there.
use Rattle.std.proofs.Common.{◌≡◌, ℕ, ℤ, pos, Bool, true, false, List, [], ◌∷◌, ◌+◌, ◌*◌, ◌≤◌, ◌+ℤ◌}
use Rattle.std.proofs.Common.{refl, subst, sym, ap, ◌∙◌, arith}
use Rattle.std.specs.Prelude.{All, Ok, int_le, nat_le, Some, None, ◌&&◌, ◌||◌}
use Rattle.std.specs.Prelude.{if◌then◌else◌}
use Rattle.std.proofs.lemmas.Bool.{and_from, false≢true}
use Rattle.std.proofs.lemmas.Int.{ints}
use Rattle.std.proofs.lemmas.Option.{none-some, same_Some}
use Rattle.sdm_num.specs.Readings.{OdometerReading}
use Rattle.sdm_num.specs.Units.{centimetre, notches}
use Rattle.sdm_rules.specs.declared.authorities.Authority.{Authority}
use Rattle.sdm_rules.specs.declared.authorities.Authority.TheVariants.{Stop, Limit}
use Rattle.sdm_rules.specs.declared.data.SlopeKind.{SlopeKind}
use Rattle.sdm_rules.specs.declared.data.SlopeKind.TheVariants.{Safe, Expected, Normal}
use Rattle.sdm_rules.specs.declared.records.Event.TheVariants as record_kinds
use Rattle.sdm_rules.specs.Cells.{place_of_cell}
use Rattle.sdm_rules.specs.Commands.{commands_after, emergency_after, nothing_held}
use Rattle.sdm_rules.specs.Curves.{place_at, corner, arc, stepped, arc_back, back}
use Rattle.sdm_rules.specs.Data.{TrainAndTrack}
use Rattle.sdm_rules.specs.Decelerations.{slope_at, slopes_of}
use Rattle.sdm_rules.specs.Limits.{computed, limits_of, release_start}
use Rattle.sdm_rules.specs.Opening.{IsAcceptedKind, IsOpen}
use Rattle.sdm_rules.specs.Profile.{mrsp}
use Rattle.sdm_rules.specs.Reaction.{reaction_times}
use Rattle.sdm_rules.specs.Records.{step}
use Rattle.sdm_rules.specs.Release.{calculated, fits, t_be}
use Rattle.sdm_rules.specs.Supervision.{Supervision, after_reading, commands_in, is_covered_in, row_in, row_of}
use Rattle.sdm_rules.specs.Supervision.{situation_of, state_in}
use Rattle.sdm_rules.specs.TakeOver.{change, take_over_fault, taken_over, unless_refused}
use Rattle.sdm_rules.specs.Targets.{targets_of}
use Rattle.sdm_rules.specs.Triggers.{triggers_of}
use Rattle.sdm_ride.specs.Happenings.{Happening, Record, Overdue, Change, Tick}
use Rattle.sdm_ride.specs.Moments.{Judging, Moment, after, after_change, after_record, is_ordered}
use Rattle.sdm_ride.specs.Moments.{moments}
use Rattle.sdm_ride.specs.Rides.{HoldsDelays, IsByOrders, IsByTimelyOrders, IsRide}
use Rattle.sdm_ride.specs.Rides.{TickRule}
use Rattle.sdm_ride.specs.RideLaws.{AreKeptByOrders, IsByItsSvl, IsNeverPast, IsRideStart, KeepsPromise}
use Rattle.sdm_release_ride.specs.TripPlaces.{IsWithinBounds, by_release}
use Rattle.sdm_release_ride.specs.TripPlaces.{excess_of, has_trip_place, is_untripped, is_within_bounds}
use Rattle.sdm_release_ride.specs.ReleaseRideLaws.{AllJudged, EndsWithTripBy, KeepsBounds}
use Rattle.sdm_release_ride.proofs.ReleaseEnds.{le_is_test, passes_trip}
use Rattle.sdm_release_ride.proofs.Trips.{not_past_eoa}
use Rattle.sdm_release_ride.proofs.TripSpeeds.{fits_within}
use Rattle.sdm_cases.proofs.Journeys.{plain_band, plain_national, plain_train_and_track}
use Rattle.sdm_cases.proofs.Openings.{opening_situation, situation_in, situation_with}
use Rattle.sdm_cases.proofs.ReleaseRideCases.{Allows, AreHolding, AreJudged, AreSteps, AreTrue, Brakes, IsWorked}
use Rattle.sdm_cases.proofs.ReleaseRideCases.{KeepsIn, May, all_of, an_order, are_moments, at_moment, before}
use Rattle.sdm_cases.proofs.ReleaseRideCases.{before_on, between, between_on, bounds, braked, braking_may}
use Rattle.sdm_cases.proofs.ReleaseRideCases.{braking_steps, by_timely, ending, ends_by, fast, first, first_free}
use Rattle.sdm_cases.proofs.ReleaseRideCases.{first_keeps, first_promises, first_true, happenings, here, is_ride}
use Rattle.sdm_cases.proofs.ReleaseRideCases.{its_start, judged, keep_all, last_of, line, line_brakes, moment}
use Rattle.sdm_cases.proofs.ReleaseRideCases.{no_promise, or_right, promised, running, runs, second, second_taken}
use Rattle.sdm_cases.proofs.ReleaseRideCases.{second_tripped, second_true, second_uncovered, start, still, timely}
use Rattle.sdm_cases.proofs.ReleaseRideCases.{to_first, to_the_brake, to_the_stop, trip_place, true_unless, wide}
use Rattle.sdm_cases.proofs.ReleaseRideCases.{worked}
use Rattle.sdm_cases.proofs.RideLine.{braking_step, delays, delays_not_held, line_open_under, ride_line}
use Rattle.sdm_cases.proofs.TakeOverCases.{none_in}

-- LATE: with a brake that works a ds later, which the times that were handed in don't hold, all else is as before, and
-- the train passes the SvL
abbrev late_rest : List Happening
late_rest = runs 30_000 ∷ Overdue ∷ braked

abbrev late_start : Moment
late_start = start line line_brakes (by_release bounds) first 2 here 30_000

abbrev late_stop : List Moment
late_stop =
    moment line line_brakes (by_release bounds) first 2 here 30_000 (after_reading (between first) second) (pos
    5_341_800_000_000) 30_000 1 4
    (Some 3)
    ∷ moment line line_brakes (by_release bounds) first 2 here 30_000 (after_reading (between first) second) (pos
    5_341_800_000_000) 30_000 0
    4 (Some 3)
    ∷ to_the_stop line line_brakes (by_release bounds) first 2 here 30_000 (pos 5_341_800_000_000) 4 3

abbrev late_moments : List Moment
late_moments = to_the_brake line line_brakes (by_release bounds) first 2 here 30_000 late_stop

abbrev late_happenings : List Happening
late_happenings = happenings first 30_000 late_rest

abbrev late : TickRule
late = IsByOrders (delays 2) 1

by_late : Allows line first 2 late
by_late age m to length by = by

late_not_held : (age : ℕ) → HoldsDelays (delays 2) (promised line first age) → ⊥
late_not_held age h = delays_not_held (pos 2) (pos 0) ending first age (omega arith) h

late_judged : AreJudged line line_brakes (by_release bounds) first 2 here 30_000
late_judged = record {
  taken = second_taken;
  gives = or_right _ _ first_promises;
  free = first_free;
  none = no_promise _ _ _ _ _ (second_uncovered first) (second_tripped first);
  orders = an_order _ _ (second_tripped first);
}

late_is : IsWorked line line_brakes (by_release bounds) first 2 here 30_000 late by_late late_rest late_stop
unfolding after
late_is =
    worked line line_brakes (by_release bounds) first 2 here 30_000 late by_late late_judged (record {
      one = first_true;
      two = λ
          promises. second_true first;
    })
    (omega arith) late_rest late_stop
    (refl, (refl, braking_steps line line_brakes (by_release bounds) first 2 here 30_000 (pos 5_341_800_000_000) 4 3)) (
      running line line_brakes (by_release bounds) first 2 here 30_000 late by_late (after_reading (between first)
          second) (pos
          5_311_800_000_000) 3 (Some 2)
          (still line line_brakes (by_release bounds) first 2 here 30_000 2 (omega arith)),
      (
        tt,
        braking_may line line_brakes (by_release bounds) first 2 here 30_000 late by_late (pos 5_341_800_000_000) 4
            3,
      ),
    )

late_passes : (last_of late_moments late_start).place ≡ pos 5_425_133_333_333
late_passes = refl

-- other judgings: of a reading that finds an untripped train two tests are asked
abbrev by_tests : (Supervision → OdometerReading → Bool) → (Supervision → OdometerReading → Bool) → Judging
by_tests one two = record {
  promises = λ s r. (row_of s r).covered || (is_untripped (row_of s r) && one s r && two s r);
  orders = λ s r. is_ordered (row_of s r);
}

-- which are those of the bounds and the trip place
as_by_release : by_release bounds
    ≡ by_tests (λ s r. is_within_bounds bounds s.train_and_track r)
    (λ s r. has_trip_place bounds s.train_and_track s.authority)
as_by_release = refl

its_trip_test : has_trip_place bounds line ending ≡ true
its_trip_test = passes_trip bounds line 960 1000 1 trip_place

-- without W
abbrev without_width : Judging
without_width =
    by_tests (λ s r. nat_le (excess_of s.train_and_track r) 15_000)
    (λ s r. has_trip_place bounds s.train_and_track s.authority)

-- without U
abbrev without_excess : Judging
without_excess =
    by_tests (λ s r. int_le r.max (r.min +ℤ pos (7 * centimetre)))
    (λ s r. has_trip_place bounds s.train_and_track s.authority)

-- without the test of T_traction
abbrev has_place : TrainAndTrack → Authority → Bool
has_place d (Stop eoa svl release) =
    nat_le (eoa + 7) svl && nat_le (notches release + 15_000) (notches (calculated d svl (eoa + 7)))
has_place d (Limit loa speed) = false

abbrev without_time : Judging
without_time =
    by_tests (λ s r. is_within_bounds bounds s.train_and_track r) (λ s r. has_place s.train_and_track s.authority)

-- WIDE: a reading of 8 cm
wide_untripped : is_untripped (row_of before wide) ≡ true
unfolding ride_line plain_train_and_track plain_national plain_band first wide fast row_in situation_with targets_of
    mrsp
    is_covered_in state_in commands_in commands_after emergency_after triggers_of limits_of release_start
    reaction_times slopes_of slope_at stepped place_at corner arc arc_back back
wide_untripped =
    ap (λ now. is_untripped (row_in line nothing_held wide now)) (opening_situation line ending wide) ∙ refl

wide_test : nat_le (excess_of line wide) 15_000 ≡ true
unfolding ride_line plain_train_and_track plain_national first wide reaction_times
wide_test = refl

wide_free : is_ordered (row_of before wide) ≡ false
unfolding ride_line plain_train_and_track plain_national plain_band first wide fast row_in situation_with targets_of
    mrsp
    is_covered_in state_in commands_in commands_after emergency_after triggers_of limits_of release_start
    reaction_times slopes_of slope_at stepped place_at corner arc arc_back back
wide_free = ap (λ now. is_ordered (row_in line nothing_held wide now)) (opening_situation line ending wide) ∙ refl

abbrev beyond : ℤ
beyond = pos 5_227_200_000_000

abbrev wide_start : Moment
wide_start = start line line_brakes without_width wide 1 beyond 30_000

abbrev wide_stop : List Moment
wide_stop = to_the_stop line line_brakes without_width wide 1 beyond 30_000 (pos 5_317_200_000_000) 3 2

abbrev wide_moments : List Moment
wide_moments = to_the_brake line line_brakes without_width wide 1 beyond 30_000 wide_stop

abbrev wide_happenings : List Happening
wide_happenings = happenings wide 30_000 braked

wide_taken : step (between wide) (record_kinds.Read second) ≡ Ok (after_reading (between wide) second)
unfolding step after_reading first wide second
wide_taken = refl

wide_judged : AreJudged line line_brakes without_width wide 1 beyond 30_000
wide_judged = record {
  taken = wide_taken;
  gives = or_right _ _ (and_from _ _ (and_from _ _ wide_untripped wide_test) its_trip_test);
  free = wide_free;
  none = no_promise _ _ _ _ _ (second_uncovered wide) (second_tripped wide);
  orders = an_order _ _ (second_tripped wide);
}

wide_true : AreTrue line line_brakes without_width wide 1 beyond 30_000
unfolding ride_line plain_train_and_track plain_national first wide second after_reading
wide_true = record {
  one = record { front = omega (arith, ints); speed = omega arith };
  two = λ promises. record { front = omega (arith, ints); speed = omega arith };
}

wide_is : IsWorked line line_brakes without_width wide 1 beyond 30_000 timely (by_timely wide) braked wide_stop
wide_is =
    worked line line_brakes without_width wide 1 beyond 30_000 timely (by_timely wide) wide_judged wide_true (omega
    arith) braked wide_stop
    (braking_steps line line_brakes without_width wide 1 beyond 30_000 (pos 5_317_200_000_000) 3 2)
    (braking_may line line_brakes without_width wide 1 beyond 30_000 timely (by_timely wide) (pos 5_317_200_000_000) 3
    2)

-- the train ends a millimetre past the SvL, so without W it isn't kept
wide_passes : AreKeptByOrders without_width IsByItsSvl → ⊥
wide_passes h =
    let all = subst (λ (ns : List Moment). All (KeepsPromise IsByItsSvl 1) ns)
    wide_is.moments_are
    (h (delays 1) 1 wide_start wide_happenings (omega arith)
    (record { is_open = line_open_under (pos 2) (pos 0) ending; none = refl }) wide_is.ride) in
    let by = all 17 wide_start (omega arith) _ refl 960 1000 1 refl in
    absurd (omega (arith, ints, by))

-- FAST: a reading of 7 cm that may be 11 km/h more, and is
fast_untripped : is_untripped (row_of before fast) ≡ true
unfolding ride_line plain_train_and_track plain_national plain_band first wide fast row_in situation_with targets_of
    mrsp
    is_covered_in state_in commands_in commands_after emergency_after triggers_of limits_of release_start
    reaction_times slopes_of slope_at stepped place_at corner arc arc_back back
fast_untripped =
    ap (λ now. is_untripped (row_in line nothing_held fast now)) (opening_situation line ending fast) ∙ refl

fast_test : int_le fast.max (fast.min +ℤ pos (7 * centimetre)) ≡ true
unfolding first fast
fast_test = refl

fast_free : is_ordered (row_of before fast) ≡ false
unfolding ride_line plain_train_and_track plain_national plain_band first wide fast row_in situation_with targets_of
    mrsp
    is_covered_in state_in commands_in commands_after emergency_after triggers_of limits_of release_start
    reaction_times slopes_of slope_at stepped place_at corner arc arc_back back
fast_free = ap (λ now. is_ordered (row_in line nothing_held fast now)) (opening_situation line ending fast) ∙ refl

fast_taken : step (between fast) (record_kinds.Read second) ≡ Ok (after_reading (between fast) second)
unfolding step after_reading first fast second
fast_taken = refl

fast_judged : AreJudged line line_brakes without_excess fast 1 here 180_000
fast_judged = record {
  taken = fast_taken;
  gives = or_right _ _ (and_from _ _ (and_from _ _ fast_untripped fast_test) its_trip_test);
  free = fast_free;
  none = no_promise _ _ _ _ _ (second_uncovered fast) (second_tripped fast);
  orders = an_order _ _ (second_tripped fast);
}

fast_true : AreTrue line line_brakes without_excess fast 1 here 180_000
unfolding ride_line plain_train_and_track plain_national first fast
fast_true = record {
  one = record { front = omega (arith, ints); speed = omega arith };
  two = λ promises. absurd (false≢true (sym fast_judged.none ∙ promises));
}

fast_is : IsWorked line line_brakes without_excess fast 1 here 180_000 timely (by_timely fast) [] []
fast_is = worked line line_brakes without_excess fast 1 here 180_000 timely (by_timely fast) fast_judged fast_true
    (omega arith) [] [] tt tt

-- it is past the SvL before the brake works, so without U that isn't kept
fast_passes : AreKeptByOrders without_excess IsByItsSvl → ⊥
fast_passes h =
    let start = start line line_brakes without_excess fast 1 here 180_000 in
    let all = subst (λ (ns : List Moment). All (KeepsPromise IsByItsSvl 1) ns) fast_is.moments_are
    (h (delays 1) 1 start (happenings fast 180_000 []) (omega arith)
    (record { is_open = line_open_under (pos 2) (pos 0) ending; none = refl }) fast_is.ride) in
    let by = all 6 start (omega arith) _ refl 960 1000 1 refl in
    absurd (omega (arith, ints, by))

-- SLOWLY CUT: a train whose traction may push for 0.4 s, though T_be is 0.3 s
unfoldable slow_cut : TrainAndTrack
slow_cut = record line { train = record (line.train) { cut_off_time = pos 4 } }

two_fit_cut : fits computed (slopes_of Safe slow_cut) (t_be slow_cut) (place_of_cell (pos 1000)) (place_of_cell (pos
    967)) 2
    ≡ true
unfolding slow_cut ride_line plain_train_and_track plain_national plain_band slopes_of slope_at stepped place_at corner
    arc arc_back back
two_fit_cut = refl

cut_trip_test : has_place slow_cut ending ≡ true
cut_trip_test =
    let two = fits_within slow_cut 1000 967 2 (omega arith) two_fit_cut in
    and_from _ _ refl (le_is_test (notches 1 + 15_000) (notches (calculated slow_cut 1000 967)) (omega arith))

not_in_time : (reaction_times slow_cut).traction ≤ t_be slow_cut → ⊥
unfolding slow_cut ride_line plain_train_and_track plain_national reaction_times
not_in_time le = absurd (omega arith)

cut_test : is_within_bounds bounds slow_cut first ≡ true
unfolding slow_cut ride_line plain_train_and_track plain_national first reaction_times
cut_test = refl

-- its times hold a brake that works 0.4 s after a reading
cut_held : (age : ℕ) → HoldsDelays (delays 2) (promised slow_cut first age)
unfolding slow_cut ride_line plain_train_and_track plain_national reaction_times
cut_held age = record { traction = λ lower. omega arith; emergency = omega arith }

abbrev cut_timely : TickRule
cut_timely = IsByTimelyOrders (delays 2) 1

by_cut : Allows slow_cut first 2 cut_timely
by_cut age m to length by = record { times = cut_held age; orders = by }

cut_brakes : Brakes slow_cut
unfolding slow_cut ride_line plain_train_and_track plain_national plain_band slopes_of slope_at
cut_brakes x y brakes = braking_step (pos 2) (pos 0) x y brakes

cut_accepted : (kind : SlopeKind) → IsAcceptedKind kind slow_cut
unfolding slow_cut ride_line plain_train_and_track plain_national plain_band slope_at
cut_accepted Safe =
    let k = (line_open_under (pos 2) (pos 0) ending).usable Safe in record { strong = k.strong; even = k.even }
cut_accepted Expected =
    let k = (line_open_under (pos 2) (pos 0) ending).usable Expected in record { strong = k.strong; even = k.even }
cut_accepted Normal =
    let k = (line_open_under (pos 2) (pos 0) ending).usable Normal in record { strong = k.strong; even = k.even }

cut_open : IsOpen (before_on slow_cut)
unfolding slow_cut ride_line plain_train_and_track plain_band
cut_open = record { bands = (line_open_under (pos 2) (pos 0) ending).bands; usable = cut_accepted }

cut_untripped : is_untripped (row_of (before_on slow_cut) first) ≡ true
unfolding ride_line plain_train_and_track plain_national plain_band first slow_cut row_in situation_with targets_of mrsp
    is_covered_in state_in commands_in commands_after emergency_after triggers_of limits_of release_start
    reaction_times slopes_of slope_at stepped place_at corner arc arc_back back
cut_untripped =
    ap (λ now. is_untripped (row_in slow_cut nothing_held first now)) (opening_situation slow_cut ending first) ∙ refl

cut_free : is_ordered (row_of (before_on slow_cut) first) ≡ false
unfolding ride_line plain_train_and_track plain_national plain_band first slow_cut row_in situation_with targets_of mrsp
    is_covered_in state_in commands_in commands_after emergency_after triggers_of limits_of release_start
    reaction_times slopes_of slope_at stepped place_at corner arc arc_back back
cut_free =
    ap (λ now. is_ordered (row_in slow_cut nothing_held first now)) (opening_situation slow_cut ending first) ∙ refl

cut_uncovered : (row_of (between_on slow_cut first) second).covered ≡ false
unfolding slow_cut ride_line plain_train_and_track plain_national plain_band second row_in situation_with targets_of
    mrsp
    is_covered_in limits_of release_start reaction_times slopes_of slope_at stepped place_at corner arc arc_back back
    after_reading
cut_uncovered =
    ap (λ now. is_covered_in slow_cut second now) (situation_in (between_on slow_cut first) second refl) ∙ refl

cut_tripped : (row_of (between_on slow_cut first) second).held.eb ≡ true
unfolding after_reading second
cut_tripped = true_unless _ (λ eb.
    let low = not_past_eoa (between_on slow_cut first) second 960 1000 1 refl eb in absurd (omega (arith, ints, low)))

cut_taken : step (between_on slow_cut first) (record_kinds.Read second)
    ≡ Ok (after_reading (between_on slow_cut first) second)
unfolding step after_reading first second
cut_taken = refl

cut_judged : AreJudged slow_cut cut_brakes without_time first 2 here 30_000
cut_judged = record {
  taken = cut_taken;
  gives = or_right _ _ (and_from _ _ (and_from _ _ cut_untripped cut_test) cut_trip_test);
  free = cut_free;
  none = no_promise _ _ _ _ _ cut_uncovered cut_tripped;
  orders = an_order _ _ cut_tripped;
}

cut_true : AreTrue slow_cut cut_brakes without_time first 2 here 30_000
unfolding slow_cut ride_line plain_train_and_track plain_national first second after_reading
cut_true = record {
  one = record { front = omega (arith, ints); speed = omega arith };
  two = λ promises. record { front = omega (arith, ints); speed = omega arith };
}

abbrev cut_stop : List Moment
cut_stop =
    moment slow_cut cut_brakes without_time first 2 here 30_000 (after_reading (between_on slow_cut first) second)
    (pos 5_341_800_000_000) 30_000 1 4 (Some 3)
    ∷ moment slow_cut cut_brakes without_time first 2 here 30_000 (after_reading (between_on slow_cut first) second)
    (pos 5_341_800_000_000) 30_000 0 4 (Some 3)
    ∷ to_the_stop slow_cut cut_brakes without_time first 2 here 30_000 (pos 5_341_800_000_000) 4 3

cut_is : IsWorked slow_cut cut_brakes without_time first 2 here 30_000 cut_timely by_cut late_rest cut_stop
unfolding after
cut_is =
    worked slow_cut cut_brakes without_time first 2 here 30_000 cut_timely by_cut cut_judged cut_true (omega arith)
    late_rest cut_stop (
      refl,
      (refl, braking_steps slow_cut cut_brakes without_time first 2 here 30_000 (pos 5_341_800_000_000) 4 3),
    ) (
      running slow_cut cut_brakes without_time first 2 here 30_000 cut_timely by_cut (after_reading (between_on
          slow_cut first) second)
          (pos 5_311_800_000_000) 3 (Some 2)
          (still slow_cut cut_brakes without_time first 2 here 30_000 2 (omega arith)),
      (
        tt,
        braking_may slow_cut cut_brakes without_time first 2 here 30_000 cut_timely by_cut (pos 5_341_800_000_000)
            4 3,
      ),
    )

-- so it ends past the SvL, though its times hold the delays: T_traction has to be at most T_be
cut_passes : AreKeptByOrders without_time IsByItsSvl → ⊥
cut_passes h =
    let start = start slow_cut cut_brakes without_time first 2 here 30_000 in
    let all = subst (λ (ns : List Moment). All (KeepsPromise IsByItsSvl 1) ns) cut_is.moments_are
    (h (delays 2) 1 start (happenings first 30_000 late_rest) (omega arith) (record { is_open = cut_open; none = refl })
    cut_is.ride) in
    let by = all 19 start (omega arith) _ refl 960 1000 1 refl in
    absurd (omega (arith, ints, by))

-- OLD DATA: were the trip places those of the first data, a train could pass. After a change to the slowly cut train,
-- under the same authority, an untripped reading gives no promise and orders nothing
unfoldable again : OdometerReading
again = record first { time = 1 }

abbrev cut_next : Supervision
cut_next = before_on slow_cut

abbrev cut_changed : Supervision
cut_changed = taken_over cut_next (between first)

cut_unrestricted : take_over_fault cut_next.train_and_track.track.length_cm (between first).restrictions ≡ None
unfolding after_reading
cut_unrestricted = rw none_in refl

cut_changes : change cut_next (between first) ≡ Ok cut_changed
unfolding change
cut_changes = ap (λ f. unless_refused f cut_changed) cut_unrestricted

again_free : is_ordered (row_of cut_changed again) ≡ false
unfolding ride_line plain_train_and_track plain_national plain_band first again slow_cut row_in situation_with
    targets_of
    mrsp
    is_covered_in state_in commands_in commands_after emergency_after triggers_of limits_of release_start
    reaction_times slopes_of slope_at stepped place_at corner arc arc_back back after_reading
again_free =
    ap (λ now. is_ordered (row_in slow_cut (commands_in line nothing_held first now) again
    (situation_of cut_changed again))) (opening_situation line ending first)
    ∙ ap (λ now. is_ordered (row_in slow_cut
    (commands_in line nothing_held first (situation_with line ending [] first)) again now))
    (situation_in cut_changed again refl)
    ∙ refl

again_uncovered : (row_of cut_changed again).covered ≡ false
unfolding ride_line plain_train_and_track plain_national plain_band first again slow_cut row_in situation_with
    targets_of
    mrsp
    is_covered_in limits_of release_start reaction_times slopes_of slope_at stepped place_at corner arc arc_back back
    after_reading
again_uncovered = ap (λ now. is_covered_in slow_cut again now) (situation_in cut_changed again refl) ∙ refl

late_test : nat_le (reaction_times slow_cut).traction (t_be slow_cut) ≡ false
unfolding slow_cut ride_line plain_train_and_track plain_national reaction_times
late_test = refl

and_false : (a b : Bool) → b ≡ false → (a && b) ≡ false
and_false true b e = e
and_false false b e = refl

neither : (a b : Bool) → a ≡ false → b ≡ false → (a || b) ≡ false
neither a b e f = rw (e, f) refl

again_none : (by_release bounds).promises cut_changed again ≡ false
again_none = neither _ _ again_uncovered (and_false _ _ (and_false _ _ late_test))

again_taken : step cut_changed (record_kinds.Read again) ≡ Ok (after_reading cut_changed again)
unfolding step after_reading first again
again_taken = refl

again_within : IsWithinBounds bounds slow_cut again
unfolding slow_cut ride_line plain_train_and_track plain_national first again reaction_times
again_within = record { width = omega (arith, ints); excess = omega arith }

-- the train goes on by no promise
abbrev free_moment : ℤ → ℕ → Moment
free_moment place silence = record {
  supervision = after_reading cut_changed again;
  place = place;
  speed = 30_000;
  silence = silence;
  order = None;
  promise = None;
}

abbrev old_happenings : List Happening
old_happenings =
    Record (record_kinds.Read first) ∷ Change cut_next ∷ Record (record_kinds.Read again)
    ∷ Tick 30_000 200_000_000_000 ∷ []

abbrev old_moments : List Moment
old_moments =
    at_moment (between first) here 30_000 0 0 None ∷ at_moment cut_changed here 30_000 0 0 None ∷ free_moment here 0
    ∷ free_moment (pos 5_421_800_000_000) 1 ∷ []

to_cut : after (by_release bounds) (at_moment (between first) here 30_000 0 0 None) (Change cut_next)
    ≡ at_moment cut_changed here 30_000 0 0 None
unfolding after
to_cut = ap (after_change (at_moment (between first) here 30_000 0 0 None)) cut_changes

to_again : after (by_release bounds) (at_moment cut_changed here 30_000 0 0 None) (Record (record_kinds.Read again))
    ≡ free_moment here 0
unfolding after
to_again =
    ap (λ t. after_record (by_release bounds) (at_moment cut_changed here 30_000 0 0 None) (record_kinds.Read again) t)
    again_taken
    ∙ ap (λ (c : Bool). record {
      supervision = after_reading cut_changed again;
      place = here;
      speed = 30_000;
      silence = 0;
      order = if is_ordered (row_of cut_changed again) then Some 0 else None;
      promise = if c then Some (record { under = cut_changed; reading = again; age = 0 })
          else if is_ordered (row_of cut_changed again) then Some (promised line first 0)
          else None;
    }) again_none
    ∙ ap (λ (c : Bool). record {
      supervision = after_reading cut_changed again;
      place = here;
      speed = 30_000;
      silence = 0;
      order = if c then Some 0 else None;
      promise = if c then Some (promised line first 0) else None;
    }) again_free

old_steps : AreSteps line line_brakes (by_release bounds) first 1 here 30_000 its_start old_happenings old_moments
unfolding after
old_steps =
    (to_first line line_brakes (by_release bounds) first 1 here 30_000 judged, (to_cut, (to_again, (refl, tt))))

old_may : AreHolding line line_brakes (by_release bounds) first 1 here 30_000
    (May line line_brakes (by_release bounds) first 1 here 30_000 timely (by_timely first))
    its_start old_happenings old_moments
old_may = (
  λ promises. first_true,
  (cut_open, (λ promises. absurd (false≢true (sym again_none ∙ promises)), (λ c e. absurd (none-some c e), tt))),
)

old_moments_are : moments (by_release bounds) its_start old_happenings ≡ old_moments
old_moments_are =
    are_moments line line_brakes (by_release bounds) first 1 here 30_000 its_start old_happenings old_moments old_steps

-- the authorities end with a trip place by the data that were first
abbrev EndsByFirst : Moment → Moment → Type 0
EndsByFirst m n = EndsWithTripBy bounds m.supervision.train_and_track 1000 n.supervision.authority

old_authorities : All (EndsByFirst its_start) (its_start ∷ moments (by_release bounds) its_start old_happenings)
unfolding after_reading
old_authorities =
    subst (λ (ns : List Moment). All (EndsByFirst its_start) (its_start ∷ ns)) (sym old_moments_are)
    (all_of (EndsByFirst its_start) (its_start ∷ old_moments) (ends_by, (ends_by, (ends_by, (ends_by, (ends_by, tt))))))

again_keeps : KeepsIn cut_changed (Record (record_kinds.Read again))
unfolding step first again after_reading
again_keeps = λ r e untripped. subst (λ (x : OdometerReading). IsWithinBounds bounds slow_cut x) (same_Some _ _ e)
    again_within

old_readings : AllJudged (by_release bounds) (KeepsBounds bounds) its_start old_happenings
old_readings =
    keep_all its_start old_happenings old_moments old_steps (
      first_keeps,
      ((λ r is untripped. absurd (none-some r is)), (again_keeps, ((λ r is untripped. absurd (none-some r is)), tt))),
    )

-- so the trip places have to be by the data in force
old_data_pass : ((m : Moment) (hs : List Happening) → IsRideStart m → IsRide (by_release bounds) timely 1 m hs →
    All (EndsByFirst m) (m ∷ moments (by_release bounds) m hs) → AllJudged (by_release bounds) (KeepsBounds bounds) m
    hs →
    IsNeverPast 1 1000 (moments (by_release bounds) m hs)) → ⊥
old_data_pass h =
    let all = subst (λ (ns : List Moment). IsNeverPast 1 1000 ns) old_moments_are
    (h its_start old_happenings (record { is_open = line_open_under (pos 2) (pos 0) ending; none = refl })
    (is_ride line line_brakes (by_release bounds) first 1 here 30_000 timely (by_timely first) its_start old_happenings
    old_moments old_steps old_may) old_authorities old_readings) in
    let by = all 3 its_start (omega arith) in
    absurd (omega (arith, ints, by))
