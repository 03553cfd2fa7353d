-- Zones of a speed limit, and the limits that they give (own).
use Rattle.std.specs.Prelude.{◌≡◌, ℕ, ℤ, pos, List, Some, ◌≤◌, ◌≤ℤ◌, ◌<ℤ◌}
use Rattle.sdm_rules.specs.declared.targets.Fall.{Fall}
use Rattle.sdm_rules.specs.Profile.{Zone, lowest_limit}
use Rattle.sdm_rules.specs.Ranges.{longest_track, top_kmh}

-- a speed limit that a profile accepts, in km/h
pub record IsLimit (limit : ℕ) : Type 0 where
  pub least : 1 ≤ limit
  pub greatest : limit ≤ top_kmh

-- a zone of a profile begins on the longest track, if it has a beginning
pub record IsZone (z : Zone) : Type 0 where
  pub not_before : (first : ℤ) → z.first ≡ Some first → pos 0 ≤ℤ first
  pub on_track : (first : ℤ) → z.first ≡ Some first → first <ℤ pos longest_track
  pub limited : IsLimit z.limit

-- a fall of a profile lies on the longest track
pub record IsFallInRange (fall : Fall) : Type 0 where
  pub not_before : pos 0 ≤ℤ fall.cell
  pub on_track : fall.cell <ℤ pos longest_track
  pub limited : IsLimit fall.speed

-- the lowest limit of each cell: of all zones that cover it, and of the greatest one
abbrev pub zone_limits : ℕ → List Zone → ℤ → ℕ
zone_limits top zones cell = lowest_limit top cell zones
