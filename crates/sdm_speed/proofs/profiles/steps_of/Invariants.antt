-- The steps give the lowest limits of the zones so far.
use Rattle.std.proofs.Common.{◌≡◌, ℤ, take, length, vec_len, vec_capacity, ◌*◌, ◌≤◌}
use Rattle.sdm_speed.specs.Steps.{speeds_of}
use Rattle.sdm_speed.specs.Zones.{zone_limits}
use Rattle.sdm_speed.proofs.profiles.steps_of.Given as goal

abbrev pub invariant-loop-zone : goal.invariant-loop-zone
invariant-loop-zone l = record {
  speeds : (c : ℤ) → speeds_of l.steps.before l.steps.list.items c ≡ zone_limits l.top (take l.zone-index l.zones) c;
  few : vec_len l.steps.list ≤ 2 * l.zone-index;
  room : vec_capacity l.steps.list ≡ 2 * length l.zones;
}
