-- What contracts see of a sink that gathers what it takes (own).
use Rattle.std.specs.Prelude.{ℕ, List}

-- what was taken, and how often memory for it was refused
pub record GatheredBytes : Type 0 where
  pub taken : List ℕ
  pub faults : ℕ
