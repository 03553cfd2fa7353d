-- Rows of falls with their curves on one slope map (own).
use Rattle.std.specs.Prelude.{List}
use Rattle.sdm_rules.specs.Slopes.{SlopeMap}
use Rattle.sdm_braking.specs.KeptFalls.{KeptFallData}

-- falls that follow one another, and the slope map that their curves stand on
pub record RowData : Type 0 where
  pub on : SlopeMap
  pub falls : List KeptFallData
