-- An identity is in the map where it has an index in the list.
use Rattle.std.proofs.Common.{sym}
use Rattle.sdm_speed.proofs.HeldLaws.{contains_is}
use Rattle.sdm_speed.proofs.profiles.Profile.is_held.Goals as goal

pub returns : goal.returns
returns c = rw (c.is_some.ensures, c.index_of.ensures, c.deref.ensures.value, ← c.self.view_is)
    (sym (contains_is c.self.inside.held.items c.args.id))
