-- The laws of motions: how far and how fast a train comes at most while it brakes, and before its brakes work. A
-- motion is a list of inequalities that know nothing of curves (own).
use Rattle.std.specs.Prelude.{◌≡◌, ℕ, ℤ, pos, List, [], ◌∷◌, ◌++◌, ◌*◌, ◌<◌, ◌≤◌, ◌+ℤ◌, ◌*ℤ◌, ◌≤ℤ◌, All}
use Rattle.sdm_num.specs.Fractions.{IsAtMost, whole}
use Rattle.sdm_rules.specs.declared.motions.Point.{Point}
use Rattle.sdm_rules.specs.declared.motions.Start.{Start}
use Rattle.sdm_rules.specs.Slopes.{Slopes, IsUsable}
use Rattle.sdm_rules.specs.Curves.{exact_at}
use Rattle.sdm_rules.specs.Motion.{IsInBand, HasPart, BrakesAtLeast, IsBraking, Motion, IsMotion, slice_ends}
use Rattle.sdm_rules.specs.Reaction.{build_up_of, v_bec, d_bec}

-- ---- braking, with places in 1/m grain and squares in 1/m squared notch

-- the point is within the curve of the foot `f` and the foot speed `w`: at most at the exact place of its square
abbrev pub IsWithinCurve : Slopes → ℕ → ℤ → ℕ → Point → Type 0
IsWithinCurve on m f w x = IsAtMost (whole x.place) (exact_at on m f w x.square)

-- the band has a part strictly between the squares: two of its squares that differ are not outside
pub record HasBandPart (on : Slopes) (m band u' u : ℕ) : Type 0 where
  pub low : ℕ
  pub high : ℕ
  pub in_low : IsInBand on m band low
  pub in_high : IsInBand on m band high
  pub from : u' ≤ low
  pub apart : low < high
  pub to : high ≤ u

-- the slope `a` is at least that of every cell with a part between the places, in every band with a part between the
-- squares
abbrev pub IsSteepest : Slopes → ℕ → ℕ → Point → Point → Type 0
IsSteepest on m a x y =
    (band : ℕ) (cell : ℤ) → HasBandPart on m band y.square x.square → HasPart m cell x.place y.place →
    on.slope band cell ≤ a

-- Of one stretch: a train within the curve that brakes at least with the slope `a`, the steepest of its stretch, is
-- within the curve after it.
abbrev pub LawOfStretch : Type 0
LawOfStretch =
    (on : Slopes) (m : ℕ) (f : ℤ) (w a : ℕ) (x y : Point) → IsUsable on → 0 < m → 0 < a →
    IsSteepest on m a x y → BrakesAtLeast on a x.place x.square y.place y.square → IsWithinCurve on m f w x →
    IsWithinCurve on m f w y

-- the point is within the curve; at or past the foot the speed is at most the foot speed; and a foot of speed 0 is not
-- passed
pub record IsHeldByCurve (on : Slopes) (m : ℕ) (f : ℤ) (w : ℕ) (x : Point) : Type 0 where
  pub within : IsWithinCurve on m f w x
  pub past : (pos m *ℤ f) ≤ℤ x.place → x.square ≤ m * (w * w)
  pub standing : w ≡ 0 → x.place ≤ℤ (pos m *ℤ f)

-- Of braking: a train that begins within the curve and brakes step by step, at least as the slopes of its stretch, is
-- held by the curve at every point.
abbrev pub LawOfBraking : Type 0
LawOfBraking =
    (on : Slopes) (m : ℕ) (f : ℤ) (w : ℕ) (x : Point) (ys : List Point) → IsUsable on → 0 < m →
    IsBraking on m x ys → IsWithinCurve on m f w x → All (IsHeldByCurve on m f w) (x ∷ ys)

-- ---- before the brakes work, at the scale `s`

-- the point lies at or before the place `q`, with a speed of at most `b`
pub record IsBounded (q : ℤ) (b : ℕ) (x : Point) : Type 0 where
  pub place : x.place ≤ℤ q
  pub square : x.square ≤ b * b

-- the point lies at most D_bec past the beginning `p`, with a speed of at most V_bec for a target speed
abbrev pub IsInReach : ℕ → Start → ℕ → ℤ → Point → Type 0
IsInReach s start target p =
    IsBounded (p +ℤ pos (s * s * d_bec (build_up_of start) target)) (s * v_bec (build_up_of start) target)

-- Of the reaction: in every motion that begins with at most the speed of its start, the ends of the slices and the
-- first braking point lie at most D_bec past the beginning, with a speed of at most V_bec, for any target speed.
abbrev pub LawOfReaction : Type 0
LawOfReaction =
    (on : Slopes) (start : Start) (m : Motion) (target : ℕ) → IsMotion on start m → m.speed ≤ m.scale * start.speed →
    All (IsInReach m.scale start target m.place) (slice_ends m.place m.speed m.slices ++ m.first ∷ [])
