use Rattle.std.proofs.Common.{rules}
use Rattle.sdm_motion.proofs.Cuts.{back_is_build, front_time, back_time}
use Rattle.sdm_motion.proofs.slices.is_reaction.Goals as goal

pub returns-then-not-are_build : goal.returns-then-not-are_build
returns-then-not-are_build c = (
  (λ t. absurd (search (rules, t))),
  (λ h. let t =
      c.are_build.ensures.1 (back_is_build _ _ _ _ _ _ c.traction_count.ensures c.split_at.ensures.back h) in cc),
)

pub returns-then-time_of-from : goal.returns-then-time_of-from
returns-then-time_of-from c = (
  (λ t. absurd (search (rules, t))),
  (λ h. let t = front_time _ _ _ _ _ _ c.traction_count.ensures c.split_at.ensures.front h
      in absurd (c.if-time_of-from.true (cc))),
)

pub returns-then-time_of-from-2 : goal.returns-then-time_of-from-2
returns-then-time_of-from-2 c = (
  (λ t. absurd (search (rules, t))),
  (λ h. let t = back_time _ _ _ _ _ _ c.traction_count.ensures c.split_at.ensures.back h
      in absurd (c.if-time_of-from-2.true (cc))),
)
