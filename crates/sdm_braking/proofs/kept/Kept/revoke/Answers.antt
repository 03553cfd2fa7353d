-- The falls are those of the profile now, and the end of the authority stays.
use Rattle.sdm_braking.proofs.kept.Kept.revoke.Goals as goal

pub returns : goal.returns
returns c p a h = record { falls = c.revoke.ensures; end = h.end; release = h.release }
