use Rattle.sdm_c.proofs.FirstOut.{restriction_in}
use Rattle.sdm_c.proofs.sdm_restriction_field.Goals as goal

pub returns-clause-in_range : goal.returns-clause-in_range
returns-clause-in_range c = let value = c.of_restriction.ensures in rw value (restriction_in c.args.restriction.now)
