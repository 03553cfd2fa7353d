-- Speeds of all cells as steps: what they are, and what a zone makes of them (own).
use Rattle.std.specs.Prelude.{◌≡◌, ◌⊎◌, ℕ, zero, suc, ℤ, true, false, List, [], ◌∷◌, length, slice_index_or, Option}
use Rattle.std.specs.Prelude.{Some, None, MatchOption, is_none, min, take, if◌then◌else◌, ◌<◌, ◌≤◌, ◌≤ℤ◌, ◌<ℤ◌}
use Rattle.std.specs.Coded.{×_prop, Unit-prop}
use denote.Struct.Props as logic
use Rattle.sdm_rules.specs.declared.targets.Fall.{Fall}
use Rattle.sdm_rules.specs.Cells.{last_at}
use Rattle.sdm_rules.specs.Profile.{Zone, capped, covers}
use Rattle.sdm_rules.specs.Targets.{IsNextFall, HasNoFall}
use Rattle.sdm_speed.specs.declared.steps.FallStep.{FallStep}
use Rattle.sdm_speed.specs.declared.steps.Step.{Step}

-- the speed of each cell in km/h: of the last step whose start is at most the cell, and `before` where there is none
abbrev pub speeds_of : ℕ → List Step → ℤ → ℕ
speeds_of before steps cell = last_at (λ s. s.start) (λ s. s.speed) steps cell before

-- the steps start past the cell, each past the one before it
abbrev pub AreAfter : ℤ → List Step → Type 0
AreAfter cell [] = Unit {0}
AreAfter cell (s ∷ ss) = (cell <ℤ s.start) × AreAfter s.start ss

-- each step starts past the one before it
abbrev pub AreRising : List Step → Type 0
AreRising [] = Unit {0}
AreRising (s ∷ ss) = AreAfter s.start ss

-- that steps start past a cell, each past the one before it, is shown in one way at most (own)
AreAfter-prop : (cell : ℤ) (steps : List Step) → IsProp (AreAfter cell steps)
AreAfter-prop cell [] = Unit-prop
AreAfter-prop cell (s ∷ ss) = ×_prop (Prim.hlevel logic.props) (AreAfter-prop s.start ss)

-- that each step starts past the one before it is shown in one way at most (own)
pub AreRising-prop : (steps : List Step) → IsProp (AreRising steps)
AreRising-prop [] = Unit-prop
AreRising-prop (s ∷ ss) = AreAfter-prop s.start ss

-- the first `i` steps start before the cell, and the others at it or past it
pub record ArePartedAt (cell : ℤ) (steps : List Step) (i : ℕ) : Type 0 where
  pub bound : i ≤ length steps
  pub before : (k : ℕ) (d : Step) → k < i → (slice_index_or steps k d).start <ℤ cell
  pub from : (k : ℕ) (d : Step) → i ≤ k → k < length steps → cell ≤ℤ (slice_index_or steps k d).start

-- the first `i` steps start before the cell, in the old list as in the new one, and these are the same in both
pub record IsSplitAt (cell : ℤ) (old new : List Step) (i : ℕ) : Type 0 where
  pub parted : ArePartedAt cell new i
  pub parted_before : ArePartedAt cell old i
  pub same_before : take i new ≡ take i old

-- new steps have one that starts at an end of a zone, if there is one: the first `i` start before it, now as before,
-- and are the same
abbrev pub IsSplit : Option ℤ → ℕ → List Step → List Step → ℕ → Type 0
IsSplit None otherwise old new i = (i ≡ otherwise) × (new ≡ old)
IsSplit (Some end) otherwise old new i = IsSplitAt end old new i

-- the speed in km/h up to where the step at this index starts, the first of which has the index 0
abbrev pub speed_to : ℕ → List Step → ℕ → ℕ
speed_to before steps zero = before
speed_to before [] (suc i) = before
speed_to before (s ∷ ss) (suc i) = speed_to s.speed ss i

-- a step starts at the cell
abbrev pub IsStart : ℤ → List Step → Type 0
IsStart cell [] = ⊥
IsStart cell (s ∷ ss) = (s.start ≡ cell) ⊎ IsStart cell ss

-- where a step started, one starts still
abbrev pub KeepsStarts : List Step → List Step → Type 0
KeepsStarts old new = (cell : ℤ) → IsStart cell old → IsStart cell new

-- the step, which has at most the zone's limit where the zone covers its start
abbrev pub capped_step : Zone → Step → Step
capped_step z s = record { start = s.start; speed = capped s.start z s.speed }

-- the zone covers the starts of the steps at the indices from `from` up to, but not including, `to`, and of no others
pub record AreCovered (z : Zone) (steps : List Step) (from to : ℕ) : Type 0 where
  pub bound : to ≤ length steps
  pub before : (k : ℕ) (d : Step) → k < from → k < length steps → covers (slice_index_or steps k d).start z ≡ false
  pub within : (k : ℕ) (d : Step) → from ≤ k → k < to → covers (slice_index_or steps k d).start z ≡ true
  pub past : (k : ℕ) (d : Step) → to ≤ k → k < length steps → covers (slice_index_or steps k d).start z ≡ false

-- the speed before all steps, which is at most the zone's limit where the zone has no beginning
abbrev pub capped_before : Zone → ℕ → ℕ
capped_before z v = if is_none z.first then min z.limit v else v

-- the next fall of a profile past a cell, or that there is none
abbrev pub IsFallAfter : (ℤ → ℕ) → ℤ → Option Fall → Type 0
IsFallAfter profile after next = MatchOption next (HasNoFall profile after) (IsNextFall profile after)

-- the next fall of a profile past a cell is found, or there is none
abbrev pub IsFallStepAfter : (ℤ → ℕ) → ℤ → Option FallStep → Type 0
IsFallStepAfter profile after next =
    MatchOption next (HasNoFall profile after) (λ found. IsNextFall profile after found.fall)
