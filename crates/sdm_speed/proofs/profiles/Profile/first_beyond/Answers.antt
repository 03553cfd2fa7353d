-- In the order of the list it is the same as in that of the map.
use Rattle.std.proofs.Common.{sym, pos}
use Rattle.sdm_speed.proofs.BeyondLaws.{beyond_by_identity}
use Rattle.sdm_speed.proofs.profiles.Profile.first_beyond.Goals as goal

pub returns-clause-value : goal.returns-clause-value
returns-clause-value c = rw (c.first_beyond.ensures, c.deref.ensures.value, ← c.self.view_is)
    (sym (beyond_by_identity (pos c.args.length_cm) c.self.inside.held.items c.self.invariant.distinct))
