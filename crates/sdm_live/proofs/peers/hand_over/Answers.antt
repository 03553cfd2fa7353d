-- What one call took follows what the calls before it took.
use Rattle.std.proofs.Common.{arith}
use Rattle.std.proofs.lemmas.Grind.{common_steps}
use Rattle.sdm_live.proofs.Along.{along_then}
use Rattle.sdm_live.proofs.Handing.{handed_more}
use Rattle.sdm_live.proofs.peers.hand_over.Goals as goal

pub loop-at-preserved : goal.loop-at-preserved
loop-at-preserved g c = record {
  within = grind (arith, common_steps, c.in_ok-n.ensures.bound, c.loop-at.invariant.within);
  taken = along_then _ _ _ _ _ _ (λ h k l p q. handed_more h k l _ _ _ c.loop-at.invariant.within p q)
      c.loop-at.invariant.taken c.in_ok-n.ensures.told;
  later = omega (arith, c.loop-at.invariant.later, c.in_ok-n.ensures.cause.later);
}
