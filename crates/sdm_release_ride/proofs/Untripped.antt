-- A reading in release speed monitoring that commands no emergency brake and keeps the bounds: its max safe front end
-- isn't past the trip place, and V_bec is at most the calculated release speed, so the train comes no further until its
-- brake works than a tripped one, and every motion stops by the SvL.
use Rattle.std.proofs.Common.{◌≡◌, ℕ, pos, true, not, nat_le, ◌+◌, ◌*◌, ◌≤◌, ◌≤ℤ◌}
use Rattle.std.proofs.Common.{refl, subst, arith}
use Rattle.std.proofs.lemmas.Int.{ints}
use Rattle.std.proofs.lemmas.Bool.{and_parts, leb-true, not-true}
use Rattle.std.proofs.Math.Nat.{mul-le-mul_left}
use Rattle.std.specs.Prelude.{max}
use Rattle.sdm_num.specs.Units.{distance_at, notches}
use Rattle.sdm_num.specs.Readings.{OdometerReading, estimate_of}
use Rattle.sdm_num.proofs.Comparisons.{le_of}
use Rattle.sdm_rules.specs.declared.authorities.Authority.{Authority}
use Rattle.sdm_rules.specs.declared.authorities.Authority.TheVariants.{Stop}
use Rattle.sdm_rules.specs.declared.data.SlopeKind.TheVariants.{Safe}
use Rattle.sdm_rules.specs.Cells.{place_of_cell}
use Rattle.sdm_rules.specs.Curves.{stepped}
use Rattle.sdm_rules.specs.Data.{TrainAndTrack}
use Rattle.sdm_rules.specs.Decelerations.{slopes_of}
use Rattle.sdm_rules.specs.Opening.{IsOpen}
use Rattle.sdm_rules.specs.Reaction.{BuildUp, build_up_from, d_bec, reaction_start, reaction_times, v_bec, v_cut_off}
use Rattle.sdm_rules.specs.Release.{calculated, t_be}
use Rattle.sdm_rules.specs.Slopes.{IsUsable}
use Rattle.sdm_rules.specs.Stop.{StopsBySvl}
use Rattle.sdm_rules.specs.Supervision.{Supervision, row_of}
use Rattle.sdm_laws.proofs.BrakeCurves.CurveOrder.{stepped_falls}
use Rattle.sdm_laws.proofs.Rows.Headline.{open_usable}
use Rattle.sdm_laws.proofs.Rows.Stops.{stops_before}
use Rattle.sdm_laws.proofs.Rows.TripPlaces.{at_most_limit, calculated_fits, not_past_limit}
use Rattle.sdm_ride.specs.Moments.{is_release}
use Rattle.sdm_release_ride.specs.TripPlaces.{TripBounds, excess_of, has_trip_place}
use Rattle.sdm_release_ride.specs.TripPlaces.{is_untripped, is_within_bounds}
use Rattle.sdm_release_ride.specs.ReleaseRideLaws.{LawOfReleaseReadings}
use Rattle.sdm_release_ride.proofs.Trips.{before_trip, not_too_fast}

-- ---- how far and how fast the train comes

-- at most V_bec at every moment, so the way is at most that at V_bec
way_at_most : (b : BuildUp) (v : ℕ) → v_bec b 0 ≤ v → d_bec b 0 ≤ distance_at v (b.traction + b.berem)
way_at_most b v le =
    let first : max (b.speed + 27 * b.accel1 * b.traction) 0 ≤ v = omega arith in
    let second : v_cut_off b 0 + 27 * b.accel2 * b.berem ≤ v = omega arith in
    let one = mul-le-mul_left b.traction first in
    let two = mul-le-mul_left b.berem second in
    omega arith

-- T_traction + T_berem is T_be
whole_time : (d : TrainAndTrack) → (reaction_times d).traction ≤ t_be d →
    (reaction_times d).traction + (reaction_times d).berem ≡ t_be d
unfolding reaction_times
whole_time d le = omega arith

-- ---- the stop

-- a reading whose max safe front end isn't past the trip place, and whose V_bec isn't above the calculated speed
stops_from : (d : TrainAndTrack) → IsUsable (slopes_of Safe d) → (r : OdometerReading) (svl trip : ℕ) → trip ≤ svl →
    r.max ≤ℤ place_of_cell (pos trip) → v_bec (build_up_from d (estimate_of r)) 0 ≤ notches (calculated d svl trip) →
    (reaction_times d).traction ≤ t_be d →
    StopsBySvl d r svl
stops_from d usable r svl trip by_svl front slow cut =
    let b = build_up_from d (estimate_of r) in
    let on = slopes_of Safe d in
    let v = notches (calculated d svl trip) in
    let foot = place_of_cell (pos svl) in
    let fit = at_most_limit (place_of_cell (pos trip)) (stepped on foot 0 v) (distance_at v (t_be d))
    (not-true _ (calculated_fits d svl trip by_svl)) in
    let curve = stepped_falls on foot 0 (v_bec b 0) v usable slow in
    let way = subst (λ (time : ℕ). d_bec b 0 ≤ distance_at v time) (whole_time d cut) (way_at_most b v slow) in
    stops_before on usable (reaction_start d r) foot (v_bec b 0) (d_bec b 0) refl refl
    (not_past_limit r.max (stepped on foot 0 (v_bec b 0)) (d_bec b 0) (omega (arith, ints, front, fit, curve, way)))

-- ---- the reading

-- V_bec of a reading
fastest : (b : TripBounds) (d : TrainAndTrack) (r : OdometerReading) (release top : ℕ) → r.speed ≤ notches release →
    excess_of d r ≤ b.excess → notches release + b.excess ≤ top →
    v_bec (build_up_from d (estimate_of r)) 0 ≤ top
fastest b d r release top slow excess le = omega arith

-- by the SvL of its authority
by_authority : (b : TripBounds) (s : Supervision) (r : OdometerReading) (eoa svl release : ℕ) → IsOpen s →
    s.authority ≡ Stop eoa svl release → is_untripped (row_of s r) ≡ true →
    is_within_bounds b s.train_and_track r ≡ true → has_trip_place b s.train_and_track (Stop eoa svl release) ≡ true →
    StopsBySvl s.train_and_track r svl
by_authority b s r eoa svl release o a untripped bounds fitted =
    let d = s.train_and_track in
    let row = row_of s r in
    let state = and_parts (is_release row.state) (not row.held.eb) untripped in
    let eb = not-true _ state.1 in
    let width = and_parts _ (nat_le (excess_of d r) b.excess) bounds in
    let trip = and_parts _ (nat_le (reaction_times d).traction (t_be d)) fitted in
    let place = and_parts (nat_le (eoa + b.width) svl) _ trip.0 in
    let slow = not_too_fast s r eoa svl release a state.0 eb in
    stops_from d (open_usable s o Safe) r svl (eoa + b.width) (leb-true _ _ place.0)
    (before_trip s r eoa svl release b.width a (le_of _ _ width.0) eb)
    (fastest b d r release _ slow (leb-true _ _ width.1) (leb-true _ _ place.1)) (leb-true _ _ trip.1)

pub release_readings : LawOfReleaseReadings
release_readings b s r o is eoa svl release a =
    let d = s.train_and_track in
    let one = and_parts _ (has_trip_place b d s.authority) is in
    let two = and_parts (is_untripped (row_of s r)) _ one.0 in
    by_authority b s r eoa svl release o a two.0 two.1
    (subst (λ (x : Authority). has_trip_place b d x ≡ true) a one.1)
