-- The speeds of all cells that steps give (own).
use Rattle.std.specs.Prelude.{ℕ, ℤ, pos, List}
use Rattle.sdm_rules.specs.declared.restrictions.Restriction.{Restriction}
use Rattle.sdm_speed.specs.declared.steps.Steps.{Steps}
use Rattle.sdm_speed.specs.Steps.{speeds_of}
use Rattle.sdm_speed.specs.ZoneEnds.{speed_under}

-- the speed of each cell in km/h
abbrev pub speeds_in : Steps → ℤ → ℕ
speeds_in steps = speeds_of steps.before steps.list.items

-- the speed of each cell in km/h that restrictions leave of the static speeds, for a train of a length in cm
abbrev pub speeds_left : ℕ → Steps → List Restriction → ℤ → ℕ
speeds_left length_cm statics held = speed_under (pos length_cm) statics.before statics.list.items held
