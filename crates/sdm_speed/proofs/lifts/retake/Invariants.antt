-- The speeds are what the restrictions so far leave of the static ones; then the steps so far have them.
use Rattle.std.proofs.Common.{◌≡◌, ◌++◌, pos, drop, map, take, vec_len, vec_capacity}
use Rattle.sdm_rules.specs.Profile.{zone_of}
use Rattle.sdm_speed.specs.Speeds.{speeds_left}
use Rattle.sdm_speed.specs.ZoneEnds.{AreSpeedsOf, retaken, speed_under}
use Rattle.sdm_speed.proofs.WithinLaws.{within}
use Rattle.sdm_speed.proofs.lifts.retake.Given as goal

abbrev pub invariant-loop-r : goal.invariant-loop-r
invariant-loop-r l =
    AreSpeedsOf (speed_under (pos l.length_cm) l.statics.before l.statics.list.items (take l.r-index l.held))
    l.steps.list.items l.covered.from l.covered.to l.speeds

abbrev pub invariant-loop-i : goal.invariant-loop-i
invariant-loop-i l = record {
  before : l.steps.before ≡ l.fn.steps.before;
  list : l.steps.list.items ≡ map (within (zone_of (pos l.fn.length_cm) l.fn.lifted)
      (retaken (speeds_left l.fn.length_cm l.fn.statics l.fn.held))) (take l.i l.fn.steps.list.items)
      ++ drop l.i l.fn.steps.list.items;
  len : vec_len l.steps.list ≡ vec_len l.fn.steps.list;
  room : vec_capacity l.steps.list ≡ vec_capacity l.fn.steps.list;
}
