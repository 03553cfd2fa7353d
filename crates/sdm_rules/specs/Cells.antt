-- Cells of the track. Cell `c` holds the places from `c` cm up to, but not including, `c + 1` cm; cells go on without
-- end to both sides (own).
use Rattle.std.specs.Prelude.{ℕ, zero, suc, ℤ, pos, List, [], ◌∷◌, ◌+ℤ◌, ◌*ℤ◌, int_le, if◌then◌else◌}
use Rattle.std.specs.Int.{int_div_euclid}
use Rattle.sdm_num.specs.Units.{centimetre}

-- the cell that holds a place in grains
abbrev pub cell_of : ℤ → ℤ
cell_of place = int_div_euclid place (pos centimetre)

-- the place in grains where a cell begins
abbrev pub place_of_cell : ℤ → ℤ
place_of_cell cell = cell *ℤ pos centimetre

-- `n` cells, from `cell` on
abbrev pub cells : ℤ → ℕ → List ℤ
cells cell zero = []
cells cell (suc n) = cell ∷ cells (cell +ℤ pos 1) n

-- the lowest value of `f` over the cell and the `n` cells after it, where `lower` gives the lower of two
abbrev pub lowest : {A : Type 0} → (A → A → A) → (ℤ → A) → ℤ → ℕ → A
lowest lower f cell zero = f cell
lowest lower f cell (suc n) = lower (f cell) (lowest lower f (cell +ℤ pos 1) n)

-- Values that change at the starts of steps: the value of the last step whose start is at most the cell; `before`
-- where there is none.
abbrev pub last_at : {E V : Type 0} → (E → ℤ) → (E → V) → List E → ℤ → V → V
last_at start value [] cell before = before
last_at start value (step ∷ later) cell before =
    last_at start value later cell (if int_le (start step) cell then value step else before)

-- the value in a cell: of the last step whose start is at most the cell, else of the first step; `none` with no step
abbrev pub value_at : {E V : Type 0} → (E → ℤ) → (E → V) → V → List E → ℤ → V
value_at start value none [] cell = none
value_at start value none (first ∷ later) cell = last_at start value later cell (value first)
