-- The slopes, the feet and the times are those of the train and track.
use Rattle.std.proofs.Common.{◌∙◌}
use Rattle.sdm_rules.specs.Limits.{computed}
use Rattle.sdm_release.proofs.OfTrainAndTrack.{start_found}
use Rattle.sdm_braking.proofs.braking.Braking.release_start.Goals as goal

pub returns : goal.returns
returns c eoa svl ebd sbd =
    c.release_start.ensures.at ∙ start_found computed c.args.self.now eoa svl c.args.release_kmh
    _ _ c.args.ebd.now c.args.sbd.now c.times.result.now c.of_kmh.result
    c.safe.ensures.slopes c.expected.ensures.slopes
    ebd.place ebd.speed sbd.place sbd.speed
    c.times.ensures.value c.of_kmh.ensures
