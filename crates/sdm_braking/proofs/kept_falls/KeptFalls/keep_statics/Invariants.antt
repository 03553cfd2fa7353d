-- Each fall up to the cell reached has its zone.
use Rattle.std.proofs.Common.{◌≡◌, All, ◌≤◌, ◌^◌, pos, length}
use Rattle.std.specs.Int.{int_gap}
use Rattle.sdm_speed.specs.Profiles.{zones_of, mrsp_of}
use Rattle.sdm_targets.proofs.CountLaws.{passed}
use Rattle.sdm_braking.specs.KeptFalls.{IsKeptZone}
use Rattle.sdm_braking.proofs.StaticLaws.{AreStaticsUpTo}
use Rattle.sdm_braking.proofs.ZoneLaws.{AreStaticsTo}
use Rattle.sdm_braking.proofs.kept_falls.KeptFalls.keep_statics.Given as goal

abbrev pub invariant-loop-fall : goal.invariant-loop-fall
invariant-loop-fall l = record {
  statics : AreStaticsTo (mrsp_of l.profile) l.at l.self.zones;
  order : AreStaticsUpTo l.at l.self.zones;
  curves : All (IsKeptZone l.braking) l.self.zones;
  few : length l.self.zones ≤ passed (zones_of l.profile) l.at;
  room : l.self.room ≡ l.fn.self.room;
}

abbrev pub decreases-loop-fall : goal.decreases-loop-fall
decreases-loop-fall l = int_gap l.at (pos (2 ^ 31))
