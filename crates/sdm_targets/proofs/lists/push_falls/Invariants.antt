-- The falls that are in the list and those past the cell reached are all.
use Rattle.std.proofs.Common.{◌≡◌, All, ◌++◌, ◌≤◌, ◌^◌, pos, length}
use Rattle.std.specs.Int.{int_gap}
use Rattle.sdm_speed.specs.Profiles.{zones_of, mrsp_of}
use Rattle.sdm_targets.specs.Lists.{falls_past, IsTarget}
use Rattle.sdm_targets.proofs.CountLaws.{passed}
use Rattle.sdm_targets.proofs.lists.push_falls.Given as goal

abbrev pub invariant-loop-fall : goal.invariant-loop-fall
invariant-loop-fall l = record {
  falls : l.into ++ falls_past (mrsp_of l.profile) l.at (pos l.end)
      ≡ falls_past (mrsp_of l.profile) l.after (pos l.end);
  count : length l.into ≤ passed (zones_of l.profile) l.at;
  each : All IsTarget l.into;
}

abbrev pub decreases-loop-fall : goal.decreases-loop-fall
decreases-loop-fall l = int_gap l.at (pos (2 ^ 31))
