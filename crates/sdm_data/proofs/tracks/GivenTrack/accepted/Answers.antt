-- The fault of the length that is handed on is that of the length as it was given.
use Rattle.std.proofs.Common.{◌≡◌, Some, sym, ◌∙◌}
use Rattle.sdm_rules.specs.Ranges.{track_fault}
use Rattle.sdm_data.specs.Given.{given_track}
use Rattle.sdm_data.proofs.AcceptedData.{same_track_fault}
use Rattle.sdm_data.proofs.tracks.GivenTrack.accepted.Goals as goal

pub returns-in-Err-clause-fault : goal.returns-in-Err-clause-fault
returns-in-Err-clause-fault c =
    let same = same_track_fault (given_track c.args.self) c.length_cm-length_cm.result
    c.length_cm-length_cm.ensures.refused c.length_cm-length_cm.ensures.kept in
    let refused : track_fault (given_track c.args.self) ≡ Some c.in-Err.fault = sym same ∙ c.in-Err.ensures.refused in
    rw refused
