-- Motions of a train, by kinematics alone and without brake curves (own). For a scale `s`, times are in
-- 1/s ds, speeds in 1/s notch, places, lengths and squares of speeds in 1/s² of a grain and of a squared notch.
use Rattle.std.specs.Prelude.{◌≡◌, ℕ, zero, suc, ℤ, pos, List, [], ◌∷◌, ◌++◌, ◌+◌, ◌-◌, ◌*◌, ◌<◌, ◌≤◌, ◌+ℤ◌, ◌*ℤ◌}
use Rattle.std.specs.Prelude.{◌≤ℤ◌, ◌<ℤ◌, All, ⊤, length}
use Rattle.sdm_num.specs.Units.{centimetre}
use Rattle.sdm_rules.specs.declared.motions.Phase.{Phase}
use Rattle.sdm_rules.specs.declared.motions.Phase.TheVariants.{Traction, Build}
use Rattle.sdm_rules.specs.declared.motions.Slice.{Slice}
use Rattle.sdm_rules.specs.declared.motions.Point.{Point}
use Rattle.sdm_rules.specs.declared.motions.Start.{Start}
use Rattle.sdm_rules.specs.Slopes.{Slopes}
use Rattle.sdm_rules.specs.Curves.{cell_start, grain_energy, upper_square}

-- ---- braking, with places in 1/m grain and squares in 1/m squared notch

-- the square at the lower speed of a band
abbrev pub lower_square : Slopes → ℕ → ℕ → ℕ
lower_square on m zero = 0
lower_square on m (suc band) = upper_square on m band

-- the square `u` lies in the band, its borders included
pub record IsInBand (on : Slopes) (m band u : ℕ) : Type 0 where
  pub known : band ≤ length on.uppers
  pub above : lower_square on m band ≤ u
  pub below : band < length on.uppers → u ≤ upper_square on m band

-- the cell has a part strictly between the places `p` and `p'`
pub record HasPart (m : ℕ) (cell p p' : ℤ) : Type 0 where
  pub apart : p <ℤ p'
  pub begins : cell_start m cell <ℤ p'
  pub ends : p <ℤ (cell_start m cell +ℤ pos (m * centimetre))

-- the train brakes at least with the slope `a` from a place and square to later ones
pub record BrakesAtLeast (on : Slopes) (a : ℕ) (p : ℤ) (u : ℕ) (p' : ℤ) (u' : ℕ) : Type 0 where
  pub forward : p ≤ℤ p'
  pub slower : u' ≤ u
  pub enough : (pos (27 * a) *ℤ p') ≤ℤ (pos (27 * a) *ℤ p +ℤ pos (grain_energy on (u - u')))

-- one step of braking: some band holds both squares, all cells between both places have one slope in it, and the train
-- brakes at least with it
pub record IsStep (on : Slopes) (m : ℕ) (x y : Point) : Type 0 where
  pub band : ℕ
  pub slope : ℕ
  pub from_band : IsInBand on m band x.square
  pub to_band : IsInBand on m band y.square
  pub one_slope : (cell : ℤ) → HasPart m cell x.place y.place → on.slope band cell ≡ slope
  pub brakes : BrakesAtLeast on slope x.place x.square y.place y.square

-- the points after the first follow it step by step of braking, down to a square of 0
abbrev pub IsBraking : Slopes → ℕ → Point → List Point → Type 0
IsBraking on m x [] = x.square ≡ 0
IsBraking on m x (y ∷ ys) = IsStep on m x y × IsBraking on m y ys

-- ---- before the brakes work

-- the greatest acceleration of a phase, in cm/s² (SUBSET-026-3 3.13.9.3.2; own form)
abbrev pub accel_in : Start → Phase → ℕ
accel_in start Traction = start.accel1
accel_in start Build = start.accel2

-- from the speed `v` a slice gains and moves no more than its acceleration, `a` cm/s², allows
pub record IsSlice (a v : ℕ) (x : Slice) : Type 0 where
  pub gains : x.to ≤ v + 54 * a * x.time
  pub moves : 2 * x.length ≤ 1_000_000 * (v + x.to) * x.time

-- from the speed `v` on, each slice gains and moves no more than its phase allows, one after the other
abbrev pub AreSlices : Start → ℕ → List Slice → Type 0
AreSlices start v [] = ⊤
AreSlices start v (x ∷ xs) = IsSlice (accel_in start x.phase) v x × AreSlices start x.to xs

-- the sum of the times of slices
abbrev pub time_of : List Slice → ℕ
time_of [] = 0
time_of (x ∷ xs) = x.time + time_of xs

-- all slices are of the phase
abbrev pub IsIn : Phase → List Slice → Type 0
IsIn phase xs = All (λ x. x.phase ≡ phase) xs

-- where the train is at the end of each slice, from a place and a speed on
abbrev pub slice_ends : ℤ → ℕ → List Slice → List Point
slice_ends p v [] = []
slice_ends p v (x ∷ xs) =
    record { place = p +ℤ pos x.length; square = x.to * x.to } ∷ slice_ends (p +ℤ pos x.length) x.to xs

-- the last of one or more points
abbrev pub last_point : Point → List Point → Point
last_point x [] = x
last_point x (y ∷ ys) = last_point y ys

-- ---- a whole motion

-- the part of a motion before braking, from the speed `v` on: slices of traction and then of the build-up, each with
-- its time
pub record IsReaction (s : ℕ) (start : Start) (v : ℕ) (xs : List Slice) : Type 0 where
  pub traction : List Slice
  pub build : List Slice
  pub split : xs ≡ traction ++ build
  pub in_traction : IsIn Traction traction
  pub in_build : IsIn Build build
  pub traction_time : time_of traction ≡ s * start.traction
  pub build_time : time_of build ≡ s * start.berem
  pub slices : AreSlices start v xs

-- a motion: the scale that it counts at; where and how fast it begins; its slices before braking; and its braking
-- points, one or more
pub record Motion : Type 0 where
  pub scale : ℕ
  pub place : ℤ
  pub speed : ℕ
  pub slices : List Slice
  pub first : Point
  pub more : List Point

-- before braking the motion gains and moves no more than the start allows; from the end of its slices on it brakes with
-- at least the deceleration of the slopes
pub record IsMotion (on : Slopes) (start : Start) (m : Motion) : Type 0 where
  pub reaction : IsReaction m.scale start m.speed m.slices
  pub begins : m.first ≡ last_point (record { place = m.place; square = m.speed * m.speed })
      (slice_ends m.place m.speed m.slices)
  pub braking : IsBraking on (m.scale * m.scale) m.first m.more

-- a motion that begins at most at the front end and with at most the speed of the start
pub record IsMotionFrom (on : Slopes) (start : Start) (m : Motion) : Type 0 where
  pub place : m.place ≤ℤ (pos (m.scale * m.scale) *ℤ start.front)
  pub speed : m.speed ≤ m.scale * start.speed
  pub motion : IsMotion on start m

-- the point lies at or before a place in grains
abbrev pub IsBy : ℕ → ℤ → Point → Type 0
IsBy s place x = x.place ≤ℤ (pos (s * s) *ℤ place)

-- at or past a place in grains the speed is at most `w` notches
abbrev pub KeepsTo : ℕ → ℤ → ℕ → Point → Type 0
KeepsTo s place w x = (pos (s * s) *ℤ place) ≤ℤ x.place → x.square ≤ s * s * (w * w)
