-- What stands at the falls past the cell reached completes the list.
use Rattle.std.proofs.Common.{◌≡◌, All, ◌≤◌, ◌^◌, ◌≤ℤ◌, pos, length}
use Rattle.std.specs.Int.{int_gap}
use Rattle.sdm_rules.specs.Data.{TrainAndTrack}
use Rattle.sdm_speed.specs.Profiles.{zones_of, mrsp_of}
use Rattle.sdm_targets.proofs.CountLaws.{passed}
use Rattle.sdm_braking.specs.KeptFalls.{IsKeptFall, IsKeptZone, first_cell}
use Rattle.sdm_braking.proofs.KeptFallLaws.{IsBegun}
use Rattle.sdm_braking.proofs.kept_falls.KeptFalls.fill.Given as goal

abbrev pub invariant-loop-fall : goal.invariant-loop-fall
invariant-loop-fall l = record {
  falls : IsBegun (mrsp_of l.profile) l.at l.self.list;
  each : (d : TrainAndTrack) → All (IsKeptZone d) l.fn.self.zones → All (IsKeptFall d) l.self.list;
  few : length l.self.list ≤ passed (zones_of l.profile) l.at;
  zones : l.self.zones ≡ l.fn.self.zones;
  statics : l.self.statics ≡ l.fn.self.statics;
  room : l.self.room ≡ l.fn.self.room;
  low : first_cell ≤ℤ l.at;
}

abbrev pub decreases-loop-fall : goal.decreases-loop-fall
decreases-loop-fall l = int_gap l.at (pos (2 ^ 31))
