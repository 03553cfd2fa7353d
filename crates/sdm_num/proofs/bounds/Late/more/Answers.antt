use Rattle.std.proofs.Common.{rules}
use Rattle.sdm_num.proofs.Sides.{IsLateFor_more, late_only_more}
use Rattle.sdm_num.proofs.bounds.Late.more.Goals as goal

pub returns-clause-stands : goal.returns-clause-stands
returns-clause-stands c = IsLateFor_more c.args.self _ c.args.grains (search rules) (search rules)

pub returns-clause-only : goal.returns-clause-only
returns-clause-only c = late_only_more c.args.self _ c.args.grains (search rules) (search rules)
