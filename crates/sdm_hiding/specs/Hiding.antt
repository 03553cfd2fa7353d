-- Feet of curves over one slope map in a row, and which of the curves the first one further on hides (own).
use Rattle.std.specs.Prelude.{◌≡◌, ℕ, Bool, true, false, ◌+◌, ◌<◌, ◌≤◌, ◌≤ℤ◌, ◌&&◌, nat_le, int_lt, List, length}
use Rattle.std.specs.Prelude.{slice_index, slice_index_or}
use Rattle.sdm_rules.specs.Slopes.{Slopes}
use Rattle.sdm_rules.specs.Curves.{stepped}
use Rattle.sdm_hiding.specs.declared.rows.Foot.{Foot}

-- the foot stands at this index
pub record IsAt (feet : List Foot) (i : ℕ) (f : Foot) : Type 0 where
  pub known : i < length feet
  pub is : (d : Foot) → slice_index_or feet i d ≡ f

-- the feet stand in the order of their places
abbrev pub AreInOrder : List Foot → Type 0
AreInOrder feet = (i k : ℕ) (f g : Foot) → i ≤ k → IsAt feet i f → IsAt feet k g → f.place ≤ℤ g.place

-- a curve hides another one: its foot speed is no greater, and at the other's foot speed it lies before the other's foot
abbrev pub hides : Slopes → Foot → Foot → Bool
hides on h f = nat_le h.speed f.speed && int_lt (stepped on h.place h.speed f.speed) f.place

-- so many curves further on stands the first one that hides this one; where none does, the row ends there or before
pub record IsHiddenAfter (on : Slopes) (feet : List Foot) (i : ℕ) (f : Foot) (steps : ℕ) : Type 0 where
  pub some : 0 < steps
  pub clear : (k : ℕ) (h : Foot) → i < k → k < i + steps → IsAt feet k h → hides on h f ≡ false
  pub hidden : (h : Foot) → IsAt feet (i + steps) h → hides on h f ≡ true

-- for each curve from an index on it is known how far on it is hidden
abbrev pub AreHiddenFrom : Slopes → List Foot → List ℕ → ℕ → Type 0
AreHiddenFrom on feet steps from =
    (i : ℕ) (f : Foot) → from ≤ i → IsAt feet i f → IsHiddenAfter on feet i f (slice_index steps i)

-- between two indexes no curve is before this one, at any speed
abbrev pub AreNoEarlier : Slopes → List Foot → Foot → ℕ → ℕ → Type 0
AreNoEarlier on feet f from to =
    (k v : ℕ) (g : Foot) → from < k → k < to → IsAt feet k g → stepped on f.place f.speed v ≤ℤ stepped on g.place g.speed v
