-- The lows that are kept are entries before the new one.
use Rattle.sdm_track.proofs.LowLaws.{kept_known}
use Rattle.sdm_track.proofs.sweep.take_in.Goals as goal

pub end_below-requires-clause-earlier : goal.end_below-requires-clause-earlier
end_below-requires-clause-earlier c = kept_known _ _ _ _ _ c.loop-lows.invariant.kept
