-- What one call took follows what the calls before it took.
use Rattle.std.proofs.Common.{arith, subst}
use Rattle.std.proofs.lemmas.Grind.{common_steps}
use Rattle.std.proofs.KnownBytes.{Appends-trans}
use Rattle.std.specs.Io.KnownBytes.{Appends}
use Rattle.sdm_io.proofs.Bytes.{prefix-more}
use Rattle.sdm_io.proofs.writing.write_piece.Goals as goal

pub loop-at-preserved : goal.loop-at-preserved
loop-at-preserved g c = record {
  within = grind (arith, common_steps, c.in_ok-n.ensures.bound, c.loop-at.invariant.within);
  taken = subst (Appends _ _) (prefix-more _ _ _ c.loop-at.invariant.within)
      (Appends-trans _ _ _ _ _ c.loop-at.invariant.taken c.in_ok-n.ensures.bytes);
  later = omega (arith, c.loop-at.invariant.later, c.write.ensures.cause.later);
}
