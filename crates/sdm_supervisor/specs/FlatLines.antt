-- A line of `flat` by its values, and their ranges (own).
use Rattle.std.specs.Prelude.{ℕ, ℤ, pos, negsuc, ◌≤◌, ◌≤ℤ◌}
use Rattle.sdm_num.specs.Units.{place_of_mm, notches_of_mm_s}
use Rattle.sdm_formats.specs.Flat.{FlatLine}

-- a line by its three values: ds, grains, notches
abbrev pub line_at : ℕ → ℤ → ℕ → FlatLine
line_at time front speed = record { time = time; front = front; speed = speed }

-- the ranges of a line: time in ds, front end in grains, speed in notches
pub record IsFlatLine (l : FlatLine) : Type 0 where
  pub time : l.time ≤ 100_000_000
  pub low : place_of_mm (negsuc 9_999_999) ≤ℤ l.front
  pub high : l.front ≤ℤ place_of_mm (pos 110_000_000)
  pub speed : l.speed ≤ notches_of_mm_s 138_888
