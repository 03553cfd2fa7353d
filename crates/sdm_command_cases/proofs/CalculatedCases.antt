-- What is said of a release speed that is calculated, at the turn `endcalc`: a train that is tripped at it stops by the
-- SvL, and one more km/h would be too fast. The EOA and the trip are at 9.65 m, the SvL is at 10 m.
use Rattle.std.proofs.Common.{◌≡◌, ℕ, pos, false, List, ◌∷◌, subst, arith}
use Rattle.std.proofs.lemmas.Bool.{false≢true}
use Rattle.std.specs.Prelude.{IsTrue}
use Rattle.sdm_rules.specs.declared.records.Event.TheVariants as record_kinds
use Rattle.sdm_num.specs.Units.{millimetre, notches}
use Rattle.sdm_rules.specs.Cells.{place_of_cell}
use Rattle.sdm_rules.specs.Curves.{exact, exact_at, place_at, corner, arc, arc_back, back}
use Rattle.sdm_rules.specs.declared.data.SlopeKind.TheVariants.{Safe}
use Rattle.sdm_rules.specs.Decelerations.{slope_at, slopes_of}
use Rattle.sdm_rules.specs.Limits.{exact_places}
use Rattle.sdm_rules.specs.Headline.{AreTurnsSafe, IsRecordSafe}
use Rattle.sdm_rules.specs.Records.{Turn}
use Rattle.sdm_rules.specs.Release.{IsReleaseSpeed, calculated, latest_trip, t_be, trip_start}
use Rattle.sdm_rules.specs.Triggers.{is_past}
use Rattle.sdm_rules.specs.Stop.{StopsBy}
use Rattle.sdm_rules.specs.Supervision.{Supervision}
use Rattle.sdm_formats.specs.Flat.{Output}
use Rattle.sdm_run.specs.Commands.{AreJourneyTurnsSafe}
use Rattle.sdm_run.specs.Journeys.{IsJourneyOutput}
use Rattle.sdm_command_cases.proofs.StandingTrain.{short_train}

-- from the promise of the record follows the stop
record_stops : (s : Supervision) → IsRecordSafe false false s (record_kinds.Calculated 965 1_000 965) →
    StopsBy (slopes_of Safe s.train_and_track)
    (trip_start s.train_and_track 965 (calculated s.train_and_track 1_000 965)) (pos 5_400_000_000_000)
record_stops s h = h.stops

-- and so it does from that of `run` and `display`, where such a record is the first turn
turn_stops : (tell : Turn → List ℕ) (bytes : List ℕ) (output : Output) (told : IsJourneyOutput tell bytes output)
    (s after : Supervision) (ts : List Turn) →
    told.turns ≡ record { before = s; event = record_kinds.Calculated 965 1_000 965; after = after } ∷ ts →
    AreJourneyTurnsSafe tell bytes →
    StopsBy (slopes_of Safe s.train_and_track)
    (trip_start s.train_and_track 965 (calculated s.train_and_track 1_000 965)) (pos 5_400_000_000_000)
turn_stops tell bytes output told s after ts is h =
    (subst (λ (turns : List Turn). AreTurnsSafe false false turns) is (h output told).safe).0.stops

-- from 101 km/h the train comes 39.36 m, so for a trip 40 m before the SvL not even 100 km/h are the greatest
too_slow_at_100 : IsReleaseSpeed short_train 10_000 6_000 100 → ⊥
unfolding short_train slopes_of slope_at exact exact_at place_at corner arc arc_back back
too_slow_at_100 h = absurd (false≢true (h.greatest (omega arith)))

-- at 499 km/h, the last speed that has a next one, too: a trip at 500 km/h is past the latest one less a millimetre
at_499 : IsReleaseSpeed short_train 200_000 102_000 499 →
    IsTrue (is_past millimetre (place_of_cell (pos 102_000))
    (latest_trip exact_places (slopes_of Safe short_train) (t_be short_train) (place_of_cell (pos 200_000))
    (notches 500)))
at_499 h = h.greatest (omega arith)
