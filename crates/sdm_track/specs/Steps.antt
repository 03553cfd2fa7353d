-- Values that change at the starts of steps, as gradients, segments and speeds do: the step in which a cell lies. Its
-- value is the value in the cell (own form of the cells of the profile).
use Rattle.std.specs.Prelude.{◌≡◌, ℕ, ℤ, pos, List, length, slice_index_or, ◌+◌, ◌<◌, ◌≤ℤ◌, ◌<ℤ◌}

-- the first step, if there is one, starts at 0
pub record IsFromZero {E : Type 0} (start : E → ℤ) (steps : List E) : Type 0 where
  pub first : (d : E) → 0 < length steps → start (slice_index_or steps 0 d) ≡ pos 0

-- the starts rise
pub record IsRising {E : Type 0} (start : E → ℤ) (steps : List E) : Type 0 where
  pub rises : (i j : ℕ) (d : E) → i < j → j < length steps →
      start (slice_index_or steps i d) <ℤ start (slice_index_or steps j d)

-- the cell lies before the step after the step `i`
pub record IsBeforeNext {E : Type 0} (start : E → ℤ) (steps : List E) (i : ℕ) (cell : ℤ) : Type 0 where
  pub before : (d : E) → i + 1 < length steps → cell <ℤ start (slice_index_or steps (i + 1) d)

-- the cell lies in the step `i`; the first step has no beginning, the last no end
pub record LiesIn {E : Type 0} (start : E → ℤ) (steps : List E) (i : ℕ) (cell : ℤ) : Type 0 where
  pub known : i < length steps
  pub begun : (d : E) → 0 < i → start (slice_index_or steps i d) ≤ℤ cell
  pub goes_on : IsBeforeNext start steps i cell
