-- What the loop owes for bytes that come after some that were given (own).
use Rattle.std.specs.Prelude.{ℕ, List, ◌++◌}
use Rattle.sdm_live.specs.Progress.{Rules, due, whole}

module _ {S : Type 0} (rules : Rules S) (first : S) (given : List ℕ) where
  -- what is due of the bytes given and those that came (own)
  abbrev pub due_after : List ℕ → List ℕ
  due_after bytes = due rules first (given ++ bytes)

  -- the whole text of them (own)
  abbrev pub whole_after : List ℕ → List ℕ
  whole_after bytes = whole rules first (given ++ bytes)
