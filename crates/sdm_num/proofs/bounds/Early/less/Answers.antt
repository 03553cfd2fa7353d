use Rattle.std.proofs.Common.{rules}
use Rattle.sdm_num.proofs.Sides.{IsEarlyFor_less, early_only_less}
use Rattle.sdm_num.proofs.bounds.Early.less.Goals as goal

pub returns-clause-stands : goal.returns-clause-stands
returns-clause-stands c = IsEarlyFor_less c.args.self _ c.args.grains (search rules) (search rules)

pub returns-clause-only : goal.returns-clause-only
returns-clause-only c = early_only_less c.args.self _ c.args.grains (search rules) (search rules)
