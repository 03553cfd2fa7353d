-- What the check of a step asks of one band, and of the segments of a map (own). Places are in 1/m grain and squares
-- in 1/m squared notch.
use Rattle.std.specs.Prelude.{◌≡◌, ℕ, ℤ, pos, List, [], ◌∷◌, ◌+◌, ◌<◌, ◌<ℤ◌, length, slice_index_or}
use Rattle.sdm_rules.specs.declared.motions.Point.{Point}
use Rattle.sdm_rules.specs.Slopes.{Slopes, SlopeMap}
use Rattle.sdm_rules.specs.Curves.{cell_start}
use Rattle.sdm_rules.specs.Motion.{BrakesAtLeast, HasPart, IsBraking, IsInBand}
use Rattle.sdm_curve.specs.Integrals.{slope_of}

-- ---- segments

-- the segment begins before a place; the first one has no beginning
abbrev pub BeginsBefore : ℕ → List ℤ → ℕ → ℤ → Type 0
BeginsBefore m starts i p = 0 < i → cell_start m (slice_index_or starts i (pos 0)) <ℤ p

-- the segment ends after a place; the last one has no end
abbrev pub EndsAfter : ℕ → List ℤ → ℕ → ℤ → Type 0
EndsAfter m starts i p = i + 1 < length starts → p <ℤ cell_start m (slice_index_or starts (i + 1) (pos 0))

-- some cell of the segment has a part strictly between the places
pub record Meets (m : ℕ) (starts : List ℤ) (i : ℕ) (p p' : ℤ) : Type 0 where
  pub apart : p <ℤ p'
  pub begins : BeginsBefore m starts i p'
  pub ends : EndsAfter m starts i p

-- some cell of one of the segments has a part strictly between the places
pub record IsMet (m : ℕ) (starts : List ℤ) (i : ℕ) (p p' : ℤ) : Type 0 where
  pub known : i < length starts
  pub meets : Meets m starts i p p'

-- no cell of any segment has a part strictly between the places
abbrev pub NoneIsMet : ℕ → List ℤ → ℤ → ℤ → Type 0
NoneIsMet m starts p p' = (i : ℕ) → i < length starts → Meets m starts i p p' → ⊥

-- all segments that have a part strictly between the places have the slope in the band
abbrev pub HaveSlope : SlopeMap → ℕ → ℕ → ℤ → ℤ → ℕ → Type 0
HaveSlope map m band p p' a = (i : ℕ) → i < length map.starts → Meets m map.starts i p p' → slope_of map band i ≡ a

-- ---- steps

-- all cells of the stretch have one slope in the band, and the train brakes at least with it
pub record BrakesIn (on : Slopes) (m band : ℕ) (x y : Point) : Type 0 where
  pub slope : ℕ
  pub one_slope : (cell : ℤ) → HasPart m cell x.place y.place → on.slope band cell ≡ slope
  pub brakes : BrakesAtLeast on slope x.place x.square y.place y.square

-- one step in a band that holds both squares
pub record IsStepIn (on : Slopes) (m band : ℕ) (x y : Point) : Type 0 where
  pub from_band : IsInBand on m band x.square
  pub to_band : IsInBand on m band y.square
  pub brakes_in : BrakesIn on m band x y

-- there are points, which brake step by step to a square of 0
abbrev pub AreBraking : Slopes → ℕ → List Point → Type 0
AreBraking on m [] = ⊥
AreBraking on m (x ∷ ys) = IsBraking on m x ys
