use Rattle.std.proofs.Common.{sym}
use Rattle.sdm_motion.proofs.Firsts.{last_speed, no_speed}
use Rattle.sdm_motion.proofs.slices.speed_after.Goals as goal

pub returns-in-Some : goal.returns-in-Some
returns-in-Some c = last_speed c.args.speed c.args.slices.now _ (sym c.in-Some.ensures.value)

pub returns-in-None : goal.returns-in-None
returns-in-None c = no_speed c.args.speed c.args.slices.now (sym c.in-None.ensures.value)
