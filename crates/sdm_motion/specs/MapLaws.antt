-- The laws of motions, on every slope map that is accepted, for every foot `f` in grains, every foot speed `w` in
-- notches and every scale (own).
use Rattle.std.specs.Prelude.{ℕ, ℤ, List, [], ◌∷◌, ◌++◌, ◌*◌, ◌<◌, ◌≤◌, All}
use Rattle.sdm_rules.specs.declared.motions.Point.{Point}
use Rattle.sdm_rules.specs.declared.motions.Start.{Start}
use Rattle.sdm_rules.specs.Slopes.{SlopeMap, meaning_of}
use Rattle.sdm_rules.specs.Motion.{BrakesAtLeast, IsBraking, Motion, IsMotion, slice_ends}
use Rattle.sdm_laws.specs.MotionLaws.{IsWithinCurve, IsSteepest, IsHeldByCurve, IsInReach}
use Rattle.sdm_curve.specs.Maps.{handed_in, IsKeptMap}

-- Of one stretch: a train within the curve that brakes at least with the slope `a`, the steepest of its stretch, is
-- within the curve after it. Places are in 1/m grain, squares in 1/m squared notch.
abbrev pub LawOfMapStretch : Type 0
LawOfMapStretch =
    (map : SlopeMap) (m : ℕ) (f : ℤ) (w a : ℕ) (x y : Point) → IsKeptMap (handed_in map) → 0 < m → 0 < a →
    IsSteepest (meaning_of map) m a x y → BrakesAtLeast (meaning_of map) a x.place x.square y.place y.square →
    IsWithinCurve (meaning_of map) m f w x → IsWithinCurve (meaning_of map) m f w y

-- Of braking: a train that begins within the curve and brakes step by step, at least as the slopes of its stretch, is
-- held by the curve at every point.
abbrev pub LawOfMapBraking : Type 0
LawOfMapBraking =
    (map : SlopeMap) (m : ℕ) (f : ℤ) (w : ℕ) (x : Point) (ys : List Point) → IsKeptMap (handed_in map) → 0 < m →
    IsBraking (meaning_of map) m x ys → IsWithinCurve (meaning_of map) m f w x →
    All (IsHeldByCurve (meaning_of map) m f w) (x ∷ ys)

-- Of the reaction: in every motion that begins with at most the speed of its start, the ends of the slices and the
-- first braking point lie at most D_bec past the beginning, with a speed of at most V_bec, for any target speed.
abbrev pub LawOfMapReaction : Type 0
LawOfMapReaction =
    (map : SlopeMap) (start : Start) (m : Motion) (target : ℕ) → IsMotion (meaning_of map) start m →
    m.speed ≤ m.scale * start.speed →
    All (IsInReach m.scale start target m.place) (slice_ends m.place m.speed m.slices ++ m.first ∷ [])

-- Of a whole motion, at its scale: where its first braking point is within the curve, the curve holds it at every
-- braking point.
abbrev pub LawOfMapMotion : Type 0
LawOfMapMotion =
    (map : SlopeMap) (start : Start) (m : Motion) (f : ℤ) (w : ℕ) → IsKeptMap (handed_in map) → 0 < m.scale →
    IsMotion (meaning_of map) start m → IsWithinCurve (meaning_of map) (m.scale * m.scale) f w m.first →
    All (IsHeldByCurve (meaning_of map) (m.scale * m.scale) f w) (m.first ∷ m.more)
