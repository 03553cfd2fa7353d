-- The laws of the flat supervisor, as statements (own).
use Rattle.std.specs.Prelude.{ℕ, IsTrue, ◌<◌}
use Rattle.sdm_rules.specs.Slopes.{IsUsable}
use Rattle.sdm_formats.specs.Flat.{FlatSupervision, FlatLine, flat_slopes, flat_row, KeepsFlatOrder, StopsByFlatEnd}

-- the slopes of a level track are usable
abbrev pub LawOfFlatSlopes : Type 0
LawOfFlatSlopes = (decel : ℕ) → 0 < decel → IsUsable (flat_slopes decel)

-- the three commands stay in order over each line
abbrev pub LawOfFlatMachines : Type 0
LawOfFlatMachines = (s : FlatSupervision) (l : FlatLine) → 0 < s.decel → KeepsFlatOrder s l (flat_row s l).eb

-- from each covered line every motion stops by the end
abbrev pub LawOfFlatStop : Type 0
LawOfFlatStop = (s : FlatSupervision) (l : FlatLine) → 0 < s.decel → IsTrue (flat_row s l).covered → StopsByFlatEnd s l
