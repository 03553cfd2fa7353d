-- How far a walk back over the segments of a map has come (own).
use Rattle.std.specs.Prelude.{ℕ, ℤ, pos, List, ◌+◌, ◌<◌, ◌≤◌, ◌≤ℤ◌, length, slice_index_or}
use Rattle.sdm_rules.specs.declared.certificates.Mark.{Mark}
use Rattle.sdm_rules.specs.Curves.{cell_start}
use Rattle.sdm_rules.specs.Slopes.{SlopeMap}

-- the segments past `i` begin at a place or past it
abbrev pub AreLater : List ℤ → ℕ → ℤ → Type 0
AreLater starts i p = (k : ℕ) → i < k → k < length starts → p ≤ℤ cell_start 1 (slice_index_or starts k (pos 0))

-- the segment from which the walk back through the next band goes on, and how many marks were put at most since it
-- stood at the segment `from`
pub record IsLeft (map : SlopeMap) (p : ℤ) (from i : ℕ) (old marks : List Mark) : Type 0 where
  pub known : i < length map.starts
  pub later : AreLater map.starts i p
  pub few : length marks + i ≤ length old + from + 1
