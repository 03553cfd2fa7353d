-- Readings of a trial that are made one after the other (own).
use Rattle.std.specs.Prelude.{◌≡◌, ℕ, suc}

-- the number of cycle 0, how many cycles were made, and how many are left
pub record MadeReadings : Type 0 where
  pub seed : ℕ
  pub made : ℕ
  pub left : ℕ

-- one more cycle was made of those that were left
pub record TakesCycle (old new : MadeReadings) : Type 0 where
  pub seed : new.seed ≡ old.seed
  pub made : new.made ≡ suc old.made
  pub left : old.left ≡ suc new.left
