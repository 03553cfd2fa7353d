-- What slices come to (own). Units as in a motion.
use Rattle.std.specs.Prelude.{◌≡◌, ℕ, List, [], ◌∷◌, ◌+◌, ◌<◌, ◌≤◌, take, length, get_or}
use Rattle.sdm_rules.specs.declared.motions.Phase.TheVariants.{Traction, Build}
use Rattle.sdm_rules.specs.declared.motions.Slice.{Slice}
use Rattle.sdm_rules.specs.Motion.{IsIn}

-- so many slices of traction come first, and no more
pub record IsCut (xs : List Slice) (k : ℕ) : Type 0 where
  pub known : k ≤ length xs
  pub before : IsIn Traction (take k xs)
  pub next : (d : Slice) → k < length xs → (get_or xs k d).phase ≡ Build

-- the lengths of slices together
abbrev pub length_of : List Slice → ℕ
length_of [] = 0
length_of (x ∷ xs) = x.length + length_of xs

-- the speed at the end of slices, from a speed on
abbrev pub speed_after : ℕ → List Slice → ℕ
speed_after v [] = v
speed_after v (x ∷ xs) = speed_after x.to xs
