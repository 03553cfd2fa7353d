-- Which curves of a row a reading has asked, and that these are enough (own).
use Rattle.std.specs.Prelude.{◌≡◌, ◌⊎◌, ℕ, ℤ, ◌+◌, ◌<◌, ◌≤◌, ◌≤ℤ◌, Contains, List, length, map}
use Rattle.std.specs.Prelude.{slice_index_or}
use Rattle.sdm_num.specs.Units.{notches}
use Rattle.sdm_rules.specs.Slopes.{Slopes}
use Rattle.sdm_rules.specs.Curves.{stepped}
use Rattle.sdm_hiding.specs.declared.asking.Asking.{Asking}
use Rattle.sdm_hiding.specs.declared.rows.Foot.{Foot}
use Rattle.sdm_hiding.specs.Hiding.{AreInOrder, IsAt}

-- Feet in order: target speeds are whole km/h; a foot speed is at least the target speed and at most `margin` km/h
-- more, and of a greater target speed it is no less.
pub record AreFeet (margin : ℕ) (feet : List Foot) : Type 0 where
  pub order : AreInOrder feet
  pub whole : (i : ℕ) (f : Foot) → IsAt feet i f → (kmh : ℕ) × (f.permitted ≡ notches kmh)
  pub above : (i : ℕ) (f : Foot) → IsAt feet i f → f.permitted ≤ f.speed
  pub near : (i : ℕ) (f : Foot) → IsAt feet i f → f.speed ≤ f.permitted + notches margin
  pub rising : (i k : ℕ) (f g : Foot) → IsAt feet i f → IsAt feet k g → f.permitted ≤ g.permitted → f.speed ≤ g.speed

-- the place of a curve at a speed
abbrev pub place_on : Slopes → ℕ → Foot → ℤ
place_on on speed f = stepped on f.place f.speed speed

-- ---- what is asked

-- at a train's speed `v` one curve stands for another one, whose target is no faster than the train: nor is its own,
-- it counts wherever the other one does, whatever margin is asked for, and at the speed `bec` it is at or before it
pub record StandsFor (on : Slopes) (v bec : ℕ) (by f : Foot) : Type 0 where
  pub slow : by.permitted ≤ v
  pub counts : (by.speed < v) ⊎ (by.permitted ≤ f.permitted)
  pub no_later : place_on on bec by ≤ℤ place_on on bec f

-- a curve of those that were asked, by their indexes, stands for this one
pub record IsStoodFor (on : Slopes) (feet : List Foot) (v bec : ℕ) (asked : List ℕ) (f : Foot) : Type 0 where
  pub index : ℕ
  pub asked_there : Contains asked index
  pub foot : Foot
  pub at : IsAt feet index foot
  pub stands : StandsFor on v bec foot f

-- of what stands in a row that at these indexes, or what stands for none past its end
abbrev pub at_indexes : {A : Type 0} → List A → A → List ℕ → List A
at_indexes xs none indexes = map (λ i. slice_index_or xs i none) indexes

-- for each curve whose target is no faster than the train one of those that were asked stands
abbrev pub IsEnough : Slopes → List Foot → ℕ → ℕ → List ℕ → Type 0
IsEnough on feet v bec asked =
    (k : ℕ) (f : Foot) → IsAt feet k f → f.permitted ≤ v → IsStoodFor on feet v bec asked f

-- ---- on the way

-- the curve that is looked at next is slow, so that it counts at every margin, and at or before this one
pub record IsBehind (on : Slopes) (feet : List Foot) (v bec at : ℕ) (f : Foot) : Type 0 where
  pub next : Foot
  pub here : IsAt feet at next
  pub slow : next.speed < v
  pub no_later : place_on on bec next ≤ℤ place_on on bec f

-- how many were asked: each but the last has a target speed lower by a km/h than the one before it, and within the
-- margin below the train's
pub record AreFew (feet : List Foot) (margin v count : ℕ) (a : Asking) : Type 0 where
  pub all : count ≤ margin + 2
  pub more : a.at < length feet → count ≤ margin + 1
  pub slower : a.at < length feet → 0 < count →
      (kmh : ℕ) × (a.slowest ≡ notches kmh) × (a.slowest + notches count ≤ v + notches 1)
      × (v ≤ a.slowest + notches margin)

-- a walk that has asked these curves has come so far: each curve before the index is stood for, or the one at the
-- index is at or before it; and so is each further on whose target is no slower than what was asked
pub record IsWalkedTo (on : Slopes) (feet : List Foot) (margin v bec : ℕ) (asked : List ℕ) (a : Asking) : Type 0 where
  pub passed : (k : ℕ) (f : Foot) → k < a.at → IsAt feet k f → f.permitted ≤ v →
      IsStoodFor on feet v bec asked f ⊎ IsBehind on feet v bec a.at f
  pub faster : (k : ℕ) (f : Foot) → a.at ≤ k → IsAt feet k f → f.permitted ≤ v → a.slowest ≤ f.permitted →
      IsStoodFor on feet v bec asked f
  pub bound : a.slowest ≤ v + 1
  pub few : AreFew feet margin v (length asked) a
