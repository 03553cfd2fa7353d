-- The train and the track are within their ranges, and the slopes of each kind were accepted in turn.
use Rattle.std.proofs.Common.{ap, subst}
use Rattle.sdm_braking.specs.Braking.{IsSupervisable}
use Rattle.sdm_train.specs.Trains.{IsTrain}
use Rattle.sdm_track.specs.Ranges.{IsTrack}
use Rattle.sdm_laws.proofs.Openings.Decided.{all_kinds}
use Rattle.sdm_braking.proofs.braking.Braking.open.Goals as goal

module _ (c : goal.Else-prove-2) where
  accepted : IsSupervisable c.args.train_and_track
  accepted = record {
    train = subst IsTrain (ap (λ d. d.train) c.train_and_track.view_is) c.band_count.ensures.accepted;
    track = subst IsTrack (ap (λ d. d.track) c.train_and_track.view_is) c.length_cm.ensures.in_range;
    usable =
        all_kinds _ c.in_ok-safe.ensures.accepted c.in_ok-expected.ensures.accepted c.in_ok-normal.ensures.accepted;
  }

pub invariant_of-result : goal.invariant_of-result
invariant_of-result c = (
  accepted c,
  record {
    safe_is = c.in_ok-safe.ensures.slopes;
    safe_stretches = c.in_ok-safe.ensures.segments;
    expected_stretches = c.in_ok-expected.ensures.segments;
    normal_stretches = c.in_ok-normal.ensures.segments;
    expected_is = c.in_ok-expected.ensures.slopes;
    normal_is = c.in_ok-normal.ensures.slopes;
    use_is = c.is_service_in_use-service_in_use.ensures;
    times_are = c.times_of-times.ensures.value;
    in_range = c.times_of-times.ensures.range;
  },
)

pub returns-clause-accepted : goal.returns-clause-accepted
returns-clause-accepted c = accepted c
