-- What the fields of a profile keep (own).
use Rattle.std.specs.Prelude.{◌≡◌, ℤ, pos, List, ◌++◌, All, map, vec_len, vec_capacity, ◌+◌, ◌*◌, ◌≤◌}
use Rattle.sdm_rules.specs.Profile.{Zone, zones_of_track, zone_of}
use Rattle.sdm_rules.specs.Records.{most_restrictions}
use Rattle.sdm_speed.specs.declared.profiles.Profile.TheInside.{Inside}
use Rattle.sdm_speed.specs.ZoneEnds.{AreAtZoneEnds}
use Rattle.sdm_speed.specs.Held.{AreDistinct, IsHeldRestriction, by_identity}
use Rattle.sdm_speed.specs.Zones.{IsZone, zone_limits}
use Rattle.sdm_speed.specs.Speeds.{speeds_in}
use Rattle.sdm_speed.specs.Profiles.{ProfileData, IsProfile}

-- the value that callers see
abbrev pub profile_data_of : Inside → ProfileData
profile_data_of f = record {
  max_speed = f.max_speed;
  length_cm = pos f.length_cm;
  track_cm = pos f.track_cm;
  speeds = f.speeds.items;
  restrictions = by_identity f.held.items;
}

-- the zones of the static speed profile
abbrev pub static_zones_of : Inside → List Zone
static_zones_of f = zones_of_track (pos f.length_cm) f.speeds.items

-- the zones of the restrictions held, in the order in which they were put into force
abbrev pub held_zones_of : Inside → List Zone
held_zones_of f = map (zone_of (pos f.length_cm)) f.held.items

-- the steps give the lowest limits, without and with the restrictions held: at most two steps for each entry of the
-- static speed profile and each restriction; there is room for as many steps as may be
pub record IsKeptProfile (f : Inside) : Type 0 where
  pub in_range : IsProfile (profile_data_of f)
  pub distinct : AreDistinct f.held.items
  pub each_static : All IsZone (static_zones_of f)
  pub each_held : All IsHeldRestriction f.held.items
  pub statics : (c : ℤ) → speeds_in f.statics c ≡ zone_limits f.max_speed (static_zones_of f) c
  pub steps : (c : ℤ) → speeds_in f.steps c ≡ zone_limits f.max_speed (static_zones_of f ++ held_zones_of f) c
  pub steps_before : f.steps.before ≡ f.statics.before
  pub zone_ends : AreAtZoneEnds (pos f.length_cm) f.statics.list.items f.held.items f.steps.list.items
  pub statics_few : vec_len f.statics.list ≤ 2 * vec_len f.speeds
  pub steps_few : vec_len f.steps.list ≤ vec_len f.statics.list + 2 * vec_len f.held
  pub held_room : most_restrictions ≤ vec_capacity f.held
  pub steps_room : vec_len f.statics.list + 2 * most_restrictions ≤ vec_capacity f.steps.list
