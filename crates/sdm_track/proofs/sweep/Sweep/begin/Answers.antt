-- Up to cell 0 the whole train lies in the first entry, which is the low of itself.
use Rattle.std.proofs.Common.{rules, arith}
use Rattle.sdm_track.proofs.SweepLaws.{sweep_first}
use Rattle.sdm_track.proofs.sweep.Sweep.begin.Goals as goal

pub invariant_of-result : goal.invariant_of-result
invariant_of-result c = sweep_first c.args.entries.now c.args.length_cm c.requires _ _ (search rules)
    (omega (arith, c.in_ok-lows.ensures.exact, c.in_ok-push_back.ensures.capacity))
