-- Each part of the sum is one of the gains, maxima and distances that the formula names.
use Rattle.std.proofs.Common.{rules}
use Rattle.sdm_limits.proofs.Distances.{d_bec_is}
use Rattle.sdm_limits.proofs.reaction.BuildUp.reaction.Goals as goal

pub returns-clause-d_bec : goal.returns-clause-d_bec
returns-clause-d_bec c =
    d_bec_is c.args.self.now c.args.target c.self.inside.v_delta1 c.self.inside.v_delta2 c.new-v_mean.result
    c.max-v_cut_off.result c.distance_at.result c.distance_at-2.result
    (search rules) (search rules) (search rules) (search rules)
    (rw (← c.self.view_is) c.distance_at.ensures.value)
    (rw (← c.self.view_is, ← c.new-v_after.ensures) c.distance_at-2.ensures.value)
