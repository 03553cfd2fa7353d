-- The zones closed so far and those of the rest are all; the open one began where the entry before this one starts.
use Rattle.std.proofs.Common.{◌≡◌, ℤ, pos, Some, ◌++◌, ◌-◌, ◌+◌, All, get_or, length, vec_len, vec_capacity}
use Rattle.sdm_rules.specs.Profile.{zones_of_track}
use Rattle.sdm_speed.specs.Zones.{IsZone}
use Rattle.sdm_speed.proofs.StaticLaws.{zones_from, none}
use Rattle.sdm_speed.proofs.profiles.static_zones.Given as goal

abbrev pub invariant-loop-i : goal.invariant-loop-i
invariant-loop-i l = record {
  zones : l.zones.items ++ zones_from (pos l.length_cm) l.first l.speeds l.i
      ≡ zones_of_track (pos l.length_cm) l.speeds;
  opened : (f : ℤ) → l.first ≡ Some f → f ≡ (get_or l.speeds (l.i - 1) none).start;
  in_range : All IsZone l.zones.items;
  count : vec_len l.zones + 1 ≡ l.i;
  room : vec_capacity l.zones ≡ length l.speeds;
}
