-- Where the speeds of a profile may change, and what they are under restrictions (own).
use Rattle.std.specs.Prelude.{◌≡◌, ◌⊎◌, ◌+◌, ◌*◌, ◌<◌, ◌≤◌, ℕ, ℤ, pos, List, [], ◌∷◌, Some, map}
use Rattle.std.specs.Prelude.{slice_index, slice_index_or}
use Rattle.sdm_rules.specs.declared.restrictions.Restriction.{Restriction}
use Rattle.sdm_rules.specs.Profile.{Zone, end_for, lowest_limit, zone_of}
use Rattle.sdm_rules.specs.Ranges.{most_speeds}
use Rattle.sdm_rules.specs.Records.{most_restrictions}
use Rattle.sdm_speed.specs.declared.ends.Cells.{Cells}
use Rattle.sdm_speed.specs.declared.steps.Step.{Step}
use Rattle.sdm_speed.specs.Steps.{IsStart, KeepsStarts, speeds_of}

-- the speed of a cell in km/h: that of the static steps, lowered by restrictions, for a train of a length in cm
-- (SUBSET-026-3 3.13.7; own cell form)
abbrev pub speed_under : ℤ → ℕ → List Step → List Restriction → ℤ → ℕ
speed_under length_cm before statics held cell =
    lowest_limit (speeds_of before statics cell) cell (map (zone_of length_cm) held)

-- the cells that a temporary restriction covers, for a train of a length in cm (SUBSET-026-3 3.11.5; own cell form)
abbrev pub cells_of : ℤ → Restriction → Cells
cells_of length_cm r = record { first = pos r.start; past = end_for length_cm r.delayed (pos r.end) }

-- the zone of a restriction begins or ends at the cell, for a train of a length in cm
abbrev pub IsEnd : ℤ → ℤ → Restriction → Type 0
IsEnd length_cm cell r = (pos r.start ≡ cell) ⊎ (end_for length_cm r.delayed (pos r.end) ≡ cell)

-- the zone of one of the restrictions begins or ends at the cell
abbrev pub IsEndOfOne : ℤ → ℤ → List Restriction → Type 0
IsEndOfOne length_cm cell [] = ⊥
IsEndOfOne length_cm cell (r ∷ rs) = IsEnd length_cm cell r ⊎ IsEndOfOne length_cm cell rs

-- an end of a zone: a static step starts at the cell, or the zone of one of the restrictions begins or ends there
abbrev pub IsZoneEnd : ℤ → List Step → List Restriction → ℤ → Type 0
IsZoneEnd length_cm statics held cell = IsStart cell statics ⊎ IsEndOfOne length_cm cell held

-- steps start at these cells, and at no others
pub record AreAtZoneEnds (length_cm : ℤ) (statics : List Step) (held : List Restriction)
    (steps : List Step) : Type 0 where
  pub each : (c : ℤ) → IsZoneEnd length_cm statics held c → IsStart c steps
  pub no_other : (c : ℤ) → IsStart c steps → IsZoneEnd length_cm statics held c

-- the step with the speed that holds at its start
abbrev pub retaken : (ℤ → ℕ) → Step → Step
retaken speed s = record { start = s.start; speed = speed s.start }

-- the most steps of a profile: two for each entry of the static speed profile and each restriction (own)
abbrev pub most_steps : ℕ
most_steps = 2 * (most_speeds + most_restrictions)

-- each speed at the indices from `from` up to, but not including, `to` holds at the start of the step at that index
abbrev pub AreSpeedsOf : (ℤ → ℕ) → List Step → ℕ → ℕ → List ℕ → Type 0
AreSpeedsOf speed steps from to speeds =
    (k : ℕ) (d : Step) → from ≤ k → k < to → slice_index speeds k ≡ speed (slice_index_or steps k d).start

-- each step has the speed that holds at its start
abbrev pub AreSpeedsAt : (ℤ → ℕ) → List Step → Type 0
AreSpeedsAt speed [] = Unit {0}
AreSpeedsAt speed (s ∷ ss) = (s.speed ≡ speed s.start) × AreSpeedsAt speed ss

-- of steps that a zone splits, those that were stay, and steps start at its ends and nowhere else
pub record HasStartsOf (z : Zone) (old new : List Step) : Type 0 where
  pub kept : KeepsStarts old new
  pub first : (b : ℤ) → z.first ≡ Some b → IsStart b new
  pub past : (b : ℤ) → z.past ≡ Some b → IsStart b new
  pub only : (c : ℤ) → IsStart c new → (z.first ≡ Some c) ⊎ ((z.past ≡ Some c) ⊎ IsStart c old)
