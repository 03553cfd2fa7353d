-- The zones are those of the static profile, and its falls are found among them.
use Rattle.sdm_braking.proofs.kept_falls.KeptFalls.begin.Goals as goal

pub keep_falls-requires-clause-zones : goal.keep_falls-requires-clause-zones
keep_falls-requires-clause-zones c = c.keep_statics.ensures.zones

pub keep_falls-requires-clause-curves : goal.keep_falls-requires-clause-curves
keep_falls-requires-clause-curves c = c.keep_statics.ensures.curves
