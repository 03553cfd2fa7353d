-- What is found from slopes, feet and times that are those of a train and track is the start of release speed
-- monitoring for them.
use Rattle.std.proofs.Common.{◌≡◌, ℕ, pos}
use Rattle.sdm_num.specs.Units.{notches}
use Rattle.sdm_rules.specs.declared.data.SlopeKind.TheVariants.{Safe, Expected}
use Rattle.sdm_rules.specs.declared.data.Times.{Times}
use Rattle.sdm_rules.specs.Cells.{place_of_cell}
use Rattle.sdm_rules.specs.Data.{TrainAndTrack}
use Rattle.sdm_rules.specs.Decelerations.{slopes_of}
use Rattle.sdm_rules.specs.Limits.{CurvePlaces, release_start, release_start_at}
use Rattle.sdm_rules.specs.Reaction.{reaction_times}
use Rattle.sdm_rules.specs.Slopes.{Slopes}
use Rattle.sdm_curve.specs.Made.{BrakeCurve}

-- with EOA and SvL in cm and the release speed in km/h
pub start_found :
    (P : CurvePlaces) (d : TrainAndTrack) (eoa svl release : ℕ) (safe expected : Slopes) (ebd sbd : BrakeCurve)
    (times : Times) (v : ℕ) →
    safe ≡ slopes_of Safe d →
    expected ≡ slopes_of Expected d →
    ebd.place ≡ place_of_cell (pos svl) →
    ebd.speed ≡ 0 →
    sbd.place ≡ place_of_cell (pos eoa) →
    sbd.speed ≡ 0 →
    times ≡ reaction_times d →
    v ≡ notches release →
    release_start_at times v (P safe ebd.place ebd.speed v) (P expected sbd.place sbd.speed v)
    ≡ release_start P d eoa svl release
unfolding release_start
start_found P d eoa svl release safe expected ebd sbd times v safe_is expected_is svl_is svl_stop eoa_is eoa_stop
    times_is v_is = cc
