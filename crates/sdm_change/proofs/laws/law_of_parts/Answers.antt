-- The law is a lemma.
use Rattle.sdm_change.proofs.PartsSafe.{parts_safe}
use Rattle.sdm_change.proofs.laws.law_of_parts.Goals as goal

pub returns : goal.returns
returns g c = parts_safe
