use Rattle.std.proofs.Common.{pos, neg_ℤ, ◌^◌, ◌<ℤ◌}
use Rattle.sdm_certify.proofs.GoingBack.{IsBack}
use Rattle.sdm_certify.proofs.made.put_band.Given as goal

abbrev pub invariant-loop-i : goal.invariant-loop-i
invariant-loop-i l = record {
  back : IsBack l.map l.band l.i l.fn.here l.fn.next l.at l.energy l.fn.from l.fn.marks.items l.marks.items;
  behind : neg_ℤ (pos (10 ^ 18)) <ℤ l.at;
  ahead : l.at <ℤ pos (10 ^ 18);
}

abbrev pub decreases-loop-i : goal.decreases-loop-i
decreases-loop-i l = l.i
