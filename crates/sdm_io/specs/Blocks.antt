-- What contracts see of a sink that gathers a block before it writes (own).
use Rattle.std.specs.Prelude.{ℕ, List}

-- what was taken and is held back, and how often the sink has failed
pub record BlockOutput : Type 0 where
  pub held : List ℕ
  pub faults : ℕ
