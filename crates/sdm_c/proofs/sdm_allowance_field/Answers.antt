use Rattle.sdm_c.proofs.FirstOut.{allowance_in}
use Rattle.sdm_c.proofs.sdm_allowance_field.Goals as goal

pub returns-clause-in_range : goal.returns-clause-in_range
returns-clause-in_range c = let value = c.of_allowance.ensures in rw value (allowance_in c.args.allowance.now)
