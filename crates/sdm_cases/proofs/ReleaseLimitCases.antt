-- The calculated release speed and the start of release speed monitoring at 1 m/s², to the centimetre and to the grain.
-- From 10 km/h, with a brake that works after 0.3 s, the train comes 0.833 m and 3.858 m further, so the latest trip for
-- an SvL at 10 m lies at 5.309 m. From 9 km/h it brakes 3.125 m.
use Rattle.std.proofs.Common.{◌≡◌, ℕ, ℤ, suc, pos, ◌+ℤ◌, refl, subst, arith, inl, inr}
use Rattle.std.specs.Prelude.{◌≢◌}
use Rattle.sdm_num.specs.Readings.{OdometerReading}
use Rattle.sdm_rules.specs.declared.commands.State.TheVariants.{R}
use Rattle.sdm_rules.specs.declared.data.SlopeKind.TheVariants.{Expected, Safe}
use Rattle.sdm_rules.specs.Cells.{place_of_cell}
use Rattle.sdm_rules.specs.Curves.{exact, exact_at, place_at, corner, arc, arc_back, back}
use Rattle.sdm_rules.specs.Data.{TrainAndTrack}
use Rattle.sdm_rules.specs.Decelerations.{slope_at, slopes_of}
use Rattle.sdm_rules.specs.Limits.{release_start}
use Rattle.sdm_rules.specs.Reaction.{reaction_times}
use Rattle.sdm_rules.specs.Release.{calculated, trip_start}
use Rattle.sdm_rules.specs.Stop.{StopsBy}
use Rattle.sdm_rules.specs.Supervision.{Supervision, opening, row_of}
use Rattle.sdm_row_laws.specs.ReleaseLimits.{IsReleaseNeeded, LawOfTightRelease, MayPassAtRelease, StopsAtRelease}
use Rattle.sdm_row_laws.specs.ReleaseLimits.{at_release, millimetre_later, until_emergency, until_service}
use Rattle.sdm_row_laws.specs.Tightness.{MayPass}
use Rattle.sdm_row_laws.proofs.ExactLimits.{refuted}
use Rattle.sdm_row_laws.proofs.ReleaseLimits.{exact_start, exact_trip}
use Rattle.sdm_cases.proofs.Journeys.{plain_band, plain_national, plain_train_and_track}
use Rattle.sdm_cases.proofs.RideLine.{authority, line_open, ride_line}

-- without a service brake's time, and with one of 0.5 s
abbrev line : TrainAndTrack
line = ride_line (pos 2) (pos 0)

abbrev slow_service : TrainAndTrack
slow_service = ride_line (pos 2) (pos 5)

abbrev state : Supervision
state = opening line authority

abbrev slow_state : Supervision
slow_state = opening slow_service authority

-- ---- the trip

-- tripped at 5.30 m at 10 km/h the train stops by the SvL
at_530_stops : StopsBy (slopes_of Safe line) (trip_start line 530 10) (place_of_cell (pos 1000))
unfolding ride_line plain_train_and_track plain_national plain_band slopes_of slope_at exact exact_at place_at corner arc
    arc_back back
at_530_stops = (exact_trip state 1000 530 10 (line_open (pos 2) (pos 0))).stops refl

-- a centimetre further on it may not
at_531_passes : MayPass (slopes_of Safe line) (trip_start line 531 10) (place_of_cell (pos 1000))
unfolding ride_line plain_train_and_track plain_national plain_band slopes_of slope_at exact exact_at place_at corner arc
    arc_back back
at_531_passes = (exact_trip state 1000 531 10 (line_open (pos 2) (pos 0))).passes refl

at_531_doesn't_stop : StopsBy (slopes_of Safe line) (trip_start line 531 10) (place_of_cell (pos 1000)) → ⊥
at_531_doesn't_stop stops =
    refuted (slopes_of Safe line) (trip_start line 531 10) (place_of_cell (pos 1000)) at_531_passes stops

-- nor at 5.30 m with one km/h more
with_one_more_passes : MayPass (slopes_of Safe line) (trip_start line 530 11) (place_of_cell (pos 1000))
unfolding ride_line plain_train_and_track plain_national plain_band slopes_of slope_at exact exact_at place_at corner arc
    arc_back back
with_one_more_passes = (exact_trip state 1000 530 11 (line_open (pos 2) (pos 0))).passes refl

-- ---- the start of release speed monitoring at 9 km/h

-- EOA and SvL at 10 m: from 6.125 m on 0.75 m are left until the emergency brake works, and both brakes stop the train
at_start_stops : StopsAtRelease line 1000 1000 9 (pos 3_307_500_000_000)
unfolding ride_line plain_train_and_track plain_national plain_band release_start reaction_times slopes_of slope_at exact
    exact_at place_at corner arc arc_back back
at_start_stops = (exact_start state 1000 1000 9 (pos 3_307_500_000_000) (line_open (pos 2) (pos 0))).stops refl

-- a grain further on one of them may not
past_start_passes : MayPassAtRelease line 1000 1000 9 (pos 3_307_500_000_001)
unfolding ride_line plain_train_and_track plain_national plain_band release_start reaction_times slopes_of slope_at exact
    exact_at place_at corner arc arc_back back
past_start_passes = (exact_start state 1000 1000 9 (pos 3_307_500_000_001) (line_open (pos 2) (pos 0))).passes refl

not_both : (d : TrainAndTrack) (eoa svl release : ℕ) (front : ℤ) → MayPassAtRelease d eoa svl release front →
    StopsAtRelease d eoa svl release front → ⊥
not_both d eoa svl release front (inl x) stops =
    refuted (slopes_of Expected d) (at_release front release (until_service d)) (place_of_cell (pos eoa)) x stops.by_eoa
not_both d eoa svl release front (inr x) stops =
    refuted (slopes_of Safe d) (at_release front release (until_emergency d)) (place_of_cell (pos svl)) x stops.by_svl

past_start_doesn't_stop : StopsAtRelease line 1000 1000 9 (pos 3_307_500_000_001) → ⊥
past_start_doesn't_stop = not_both line 1000 1000 9 (pos 3_307_500_000_001) past_start_passes

-- EOA at 9 m, SvL at 11 m: with a service brake of 0.5 s it is the EOA that counts, from 4.625 m on
by_eoa_stops : StopsAtRelease slow_service 900 1100 9 (pos 2_497_500_000_000)
unfolding ride_line plain_train_and_track plain_national plain_band release_start reaction_times slopes_of slope_at exact
    exact_at place_at corner arc arc_back back
by_eoa_stops = (exact_start slow_state 900 1100 9 (pos 2_497_500_000_000) (line_open (pos 2) (pos 5))).stops refl

past_eoa_doesn't_stop : StopsAtRelease slow_service 900 1100 9 (pos 2_497_500_000_001) → ⊥
unfolding ride_line plain_train_and_track plain_national plain_band release_start reaction_times slopes_of slope_at exact
    exact_at place_at corner arc arc_back back
past_eoa_doesn't_stop =
    not_both slow_service 900 1100 9 (pos 2_497_500_000_001)
    ((exact_start slow_state 900 1100 9 (pos 2_497_500_000_001) (line_open (pos 2) (pos 5))).passes refl)

-- ---- what the laws of tightness say, from which a weaker text wouldn't give it

-- the millimetre is one, after 5.30 m
millimetre_on : millimetre_later line 530 11 ≡ record {
  front = pos 2_862_540_000_000;
  speed = 165_000;
  accel1 = 0;
  accel2 = 0;
  traction = 0;
  berem = 3;
}
unfolding ride_line plain_train_and_track plain_national plain_band
millimetre_on = refl

-- where 10 km/h is the calculated release speed, some train that is tripped at 11 km/h there passes the SvL
one_more_passes : LawOfTightRelease → calculated line 1000 530 ≡ 10 →
    MayPass (slopes_of Safe line) (millimetre_later line 530 11) (place_of_cell (pos 1000))
one_more_passes tight is =
    subst (λ (kmh : ℕ). MayPass (slopes_of Safe line) (millimetre_later line 530 (suc kmh)) (place_of_cell (pos 1000))) is
    (tight state 1000 530 (line_open (pos 2) (pos 0)) (omega arith) (rw is (omega arith)))

-- in a row in release speed monitoring some motion from a millimetre further on passes the EOA or the SvL, and in another
-- both brakes stop the train from the max safe front end on
needed_at : (r : OdometerReading) → IsReleaseNeeded state r 1000 1000 9 → (row_of state r).state ≡ R →
    MayPassAtRelease line 1000 1000 9 (r.max +ℤ pos 540_000_000)
needed_at r h in_release = h.needed in_release

not_yet_at : (r : OdometerReading) → IsReleaseNeeded state r 1000 1000 9 → (row_of state r).state ≢ R →
    StopsAtRelease line 1000 1000 9 r.max
not_yet_at r h before = h.not_yet before

-- both brakes count: the EOA at 9 m by the service brake, the SvL at 11 m by the emergency brake
both_count : StopsAtRelease slow_service 900 1100 9 (pos 0) →
    StopsBy (slopes_of Expected slow_service) (at_release (pos 0) 9 5) (place_of_cell (pos 900))
    × StopsBy (slopes_of Safe slow_service) (at_release (pos 0) 9 8) (place_of_cell (pos 1100))
unfolding ride_line plain_train_and_track plain_national plain_band reaction_times
both_count h = (h.by_eoa, h.by_svl)
