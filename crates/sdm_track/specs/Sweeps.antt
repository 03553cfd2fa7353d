-- The lowest gradient under a train, as its front end moves on to each cell where an entry comes or goes (own).
use Rattle.std.specs.Prelude.{◌≡◌, ◌⊎◌, ℕ, ℤ, pos, List, [], ◌∷◌, length, slice_get, slice_index_or, Bool, true, int_lt}
use Rattle.std.specs.Prelude.{◌+◌, ◌-◌, ◌<◌, ◌≤◌, ◌+ℤ◌, ◌-ℤ◌, ◌≤ℤ◌, ◌<ℤ◌}
use Rattle.std.specs.Int.{int_min}
use Rattle.std.specs.Option.{option_map_or}
use Rattle.sdm_rules.specs.declared.data.Gradient.{Gradient}
use Rattle.sdm_rules.specs.Cells.{lowest}
use Rattle.sdm_rules.specs.Decelerations.{track_gradient}
use Rattle.sdm_rules.specs.Ranges.{longest_track}
use Rattle.sdm_track.specs.Steps.{LiesIn}
use Rattle.sdm_track.specs.Ranges.{AreGradients}

-- the lowest gradient of the cells from the rear end of a train, `length_cm` behind its front end, to the front end in
-- the cell, in tenths of a per mille (SUBSET-026-3 3.13.4.2; own cell form)
abbrev pub gradient_under : List Gradient → ℕ → ℤ → ℤ
gradient_under entries length_cm cell = lowest int_min (track_gradient entries) (cell -ℤ pos length_cm) length_cm

-- a train of a length in cm on gradients, with its front end in the cell `at`; `left` counts the entries that have
-- still to come under the front end and those that have still to come under the rear end (own)
pub record Swept : Type 0 where
  pub entries : List Gradient
  pub length_cm : ℕ
  pub at : ℤ
  pub left : ℕ

-- the gradient of a front end in another cell
abbrev pub gradient_at : Swept → ℤ → ℤ
gradient_at s cell = gradient_under s.entries s.length_cm cell

-- where an entry starts, in cm
abbrev pub gradient_start : Gradient → ℤ
gradient_start e = e.start

-- how many entries have still to come under the two ends, which lie in the entries `rear` and `front`
abbrev pub still_left : List Gradient → ℕ → ℕ → ℕ
still_left entries rear front = (length entries - 1 - rear) + (length entries - 1 - front)

-- stands for an entry that there is not
abbrev pub level : Gradient
level = record { start = pos 0; grad = pos 0 }

-- the gradient of an entry; level where there is none
abbrev pub grad_at : List Gradient → ℕ → ℤ
grad_at entries i = (slice_index_or entries i level).grad

-- the entry at `index` is the lowest of those from `i` up to, but not including, `j`
pub record IsLowestAt (entries : List Gradient) (i j index : ℕ) : Type 0 where
  pub from_rear : i ≤ index
  pub to_front : index < j
  pub none_below : (k : ℕ) → i ≤ k → k < j → grad_at entries index ≤ℤ grad_at entries k

-- the indices of the lows of the entries from `i` up to, but not including, `j`: that of the lowest, and then those of
-- the lows of the entries after it
abbrev pub AreLows : List Gradient → ℕ → ℕ → List ℕ → Type 0
AreLows entries i j [] = j ≤ i
AreLows entries i j (index ∷ more) = IsLowestAt entries i j index × AreLows entries (index + 1) j more

-- whether the last of the indices, if there is one, is that of an entry below the one at `index`
abbrev pub ends_below : List Gradient → List ℕ → ℕ → Bool
ends_below entries indices index =
    option_map_or (λ last. int_lt (grad_at entries last) (grad_at entries index))
    (slice_get indices (length indices - 1)) true

-- with the front end in the cell, the rear end lies in the entry `rear` and the front end in `front`
pub record IsUnder (entries : List Gradient) (length_cm rear front : ℕ) (cell : ℤ) : Type 0 where
  pub behind : LiesIn gradient_start entries rear (cell -ℤ pos length_cm)
  pub ahead : LiesIn gradient_start entries front cell

-- the first cell where an entry comes under the front end or under the rear end
pub record IsFirstChange (entries : List Gradient) (length_cm rear front : ℕ) (cell : ℤ) : Type 0 where
  pub by_rear : cell ≤ℤ ((slice_index_or entries (rear + 1) level).start +ℤ pos length_cm)
  pub by_front : front + 1 < length entries → cell ≤ℤ (slice_index_or entries (front + 1) level).start
  pub one_of : (cell ≡ (slice_index_or entries (rear + 1) level).start +ℤ pos length_cm)
      ⊎ ((front + 1 < length entries) × (cell ≡ (slice_index_or entries (front + 1) level).start))

-- the cell lies in the entry `i`, or the next one starts there
pub record IsUpToNext (entries : List Gradient) (i : ℕ) (cell : ℤ) : Type 0 where
  pub known : i < length entries
  pub begun : 0 < i → (slice_index_or entries i level).start ≤ℤ cell
  pub up_to : i + 1 < length entries → cell ≤ℤ (slice_index_or entries (i + 1) level).start

-- what a sweep keeps: the ends lie in their entries, the lows are those of the entries from the rear one to the front
-- one, and there is room for as many as there are entries
pub record IsSweep (entries : List Gradient) (length_cm rear front : ℕ) (at : ℤ) (lows : List ℕ)
    (room : ℕ) : Type 0 where
  pub gradients : AreGradients (pos longest_track) entries
  pub not_past : at <ℤ (pos longest_track +ℤ pos length_cm)
  pub under : 0 < length entries → IsUnder entries length_cm rear front at
  pub ordered : rear ≤ front
  pub known : front ≤ length entries - 1
  pub lows_are : AreLows entries rear (front + 1) lows
  pub enough : length entries ≤ room
