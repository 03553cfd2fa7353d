-- Motions as they are handed in: a list of slices and a list of points (own).
use Rattle.std.specs.Prelude.{◌≡◌, ℕ, ℤ, pos, neg_ℤ, List, ◌∷◌, ◌++◌, ◌*◌, ◌^◌, ◌<◌, ◌≤◌, ◌*ℤ◌, ◌≤ℤ◌, All}
use Rattle.sdm_rules.specs.declared.motions.Point.{Point}
use Rattle.sdm_rules.specs.declared.motions.Slice.{Slice}
use Rattle.sdm_rules.specs.declared.motions.Start.{Start}
use Rattle.sdm_rules.specs.Slopes.{Slopes}
use Rattle.sdm_rules.specs.Motion.{IsBy, Motion, IsMotion, KeepsTo, last_point, slice_ends}
use Rattle.sdm_rules.specs.Stop.{IsMotionOn, SlowsTo, StopsBy}

-- a point within 10^21 of 0, in 1/s² grains, with a square of at most 10^17, in 1/s² squared notches
pub record IsPointInRange (x : Point) : Type 0 where
  pub low : neg_ℤ (pos (10 ^ 21)) ≤ℤ x.place
  pub high : x.place ≤ℤ pos (10 ^ 21)
  pub square : x.square ≤ 10 ^ 17

-- where slices end that begin at the place `p` with the speed `v`
abbrev pub first_of : ℤ → ℕ → List Slice → Point
first_of p v xs = last_point (record { place = p; square = v * v }) (slice_ends p v xs)

-- the motion of these slices and points that begins exactly at the front and with the speed of the start
abbrev pub motion_from : Start → ℕ → List Slice → Point → List Point → Motion
motion_from start s xs first more = record {
  scale = s;
  place = pos (s * s) *ℤ start.front;
  speed = s * start.speed;
  slices = xs;
  first = first;
  more = more;
}

-- the slices and points are a motion that begins exactly at the front and with the speed of the start, and every point
-- is in its ranges
pub record IsKnownMotion (on : Slopes) (start : Start) (s : ℕ) (xs : List Slice) (points : List Point) : Type 0 where
  pub first : Point
  pub more : List Point
  pub split : points ≡ first ∷ more
  pub motion : IsMotion on start (motion_from start s xs first more)
  pub ranges : All IsPointInRange points

-- the slices and points are a motion that the promises of a start speak of, so what is promised of every motion holds
-- of them
pub record IsPromisedMotion (on : Slopes) (start : Start) (s : ℕ) (xs : List Slice) (points : List Point) : Type 0 where
  pub first : Point
  pub more : List Point
  pub split : points ≡ first ∷ more
  pub motion : IsMotionOn on start (motion_from start s xs first more)
  pub stops : (place : ℤ) → StopsBy on start place → All (IsBy s place) points
  pub slows : (place : ℤ) (w : ℕ) → SlowsTo on start place w →
      All (KeepsTo s place w) (slice_ends (pos (s * s) *ℤ start.front) (s * start.speed) xs ++ points)

-- what is known as a motion is one of those that the promises speak of
abbrev pub LawOfKnownMotion : Type 0
LawOfKnownMotion = (on : Slopes) (start : Start) (s : ℕ) (xs : List Slice) (points : List Point) → 0 < s →
    IsKnownMotion on start s xs points → IsPromisedMotion on start s xs points
