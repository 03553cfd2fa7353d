use Rattle.std.proofs.Common.{below_more, sym, ◌∙◌}
use Rattle.sdm_motion.proofs.slopes.have_slope.Goals as goal
use Rattle.sdm_motion.proofs.slopes.have_slope.Goals.{then-meets+else-natural_slope-slope, else-meets}

pub loop-i-preserved : goal.loop-i-preserved
loop-i-preserved c =
    below_more _ _ c.loop-i.invariant (elim c.if-meets.branch [
      | then-meets+else-natural_slope-slope w ↦
          (λ met. sym w.natural_slope.ensures.value ∙ w.if-natural_slope-slope.false)
      | else-meets w ↦ (λ met. let t = c.meets.ensures.1 met in cc)
    ])
