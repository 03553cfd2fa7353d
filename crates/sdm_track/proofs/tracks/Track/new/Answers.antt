-- Data that break no rule are within their ranges.
use Rattle.std.proofs.Common.{◌≡◌, None, rules}
use Rattle.sdm_rules.specs.Ranges.{track_fault}
use Rattle.sdm_track.specs.Ranges.{track_data}
use Rattle.sdm_track.proofs.AcceptedTracks.{track_accepted}
use Rattle.sdm_track.proofs.tracks.Track.new.Goals as goal

pub invariant_of-result : goal.invariant_of-result
invariant_of-result c =
    let none : track_fault (track_data c.args.length_cm c.args.gradients.items c.args.speeds.items c.args.areas.items
    c.args.no_special.items) ≡ None = search rules in
    track_accepted _ none
