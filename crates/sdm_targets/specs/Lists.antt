-- The lists of targets (own).
use Rattle.std.specs.Prelude.{ℕ, ℤ, pos, List, ◌+ℤ◌, ◌≤◌, ◌≤ℤ◌, map, filter, ◌+◌}
use Rattle.std.specs.Int.{int_gap}
use Rattle.sdm_rules.specs.declared.authorities.Authority.{Authority}
use Rattle.sdm_rules.specs.declared.authorities.Authority.TheVariants.{Stop, Limit}
use Rattle.sdm_rules.specs.declared.targets.Fall.{Fall}
use Rattle.sdm_rules.specs.declared.targets.Target.{Target}
use Rattle.sdm_rules.specs.declared.targets.TargetKind.TheVariants.{Mrsp}
use Rattle.sdm_rules.specs.Cells.{cells, place_of_cell}
use Rattle.sdm_rules.specs.Ranges.{most_speeds, longest_track, top_kmh}
use Rattle.sdm_rules.specs.Records.{most_restrictions}
use Rattle.sdm_rules.specs.Targets.{is_fall, fall_at}

-- a target lies on the longest track, both ends included, and its speed is at most 500 km/h (ranges own)
pub record IsTarget (t : Target) : Type 0 where
  pub not_before : pos 0 ≤ℤ t.place
  pub on_track : t.place ≤ℤ place_of_cell (pos longest_track)
  pub speed : t.speed ≤ top_kmh

-- the room of a list
abbrev pub room : ℕ
room = 170

-- the most falls of a profile: each lies where an entry or a restriction begins
abbrev pub most_falls : ℕ
most_falls = most_speeds + most_restrictions

-- the targets at the falls past the start of a cell, up to and with that of the cell `end`, in order (SUBSET-026-3
-- 3.13.8.2; own cell form)
abbrev pub falls_past : (ℤ → ℕ) → ℤ → ℤ → List Target
falls_past profile after end =
    map (fall_at profile) (filter (is_fall profile) (cells (after +ℤ pos 1) (int_gap after end)))

-- the ends of the authority lie on the longest track, and a limit's speed is at most 500 km/h
abbrev pub IsOnTrack : Authority → Type 0
IsOnTrack (Stop eoa svl release) = (pos eoa ≤ℤ pos longest_track) × (pos svl ≤ℤ pos longest_track)
IsOnTrack (Limit loa speed) = (pos loa ≤ℤ pos longest_track) × (speed ≤ top_kmh)

-- the target at a fall (SUBSET-026-3 3.13.8.2; own cell form)
abbrev pub target_at : Fall → Target
target_at fall = record { kind = Mrsp; place = place_of_cell fall.cell; speed = fall.speed }
