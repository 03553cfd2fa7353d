-- The laws of brake curves: what is true of exact and stepped places for any usable slopes, every foot `f` in grains,
-- every foot speed `w` in notches and every scale `s` (own).
use Rattle.std.specs.Prelude.{◌≡◌, ℕ, ℤ, pos, ◌*◌, ◌<◌, ◌≤◌, ◌*ℤ◌, ◌≤ℤ◌}
use Rattle.sdm_num.specs.Units.{millimetre}
use Rattle.sdm_num.specs.Fractions.{IsBefore, IsSame, times, whole}
use Rattle.sdm_num.specs.Bounds.{IsEarlyFor}
use Rattle.sdm_rules.specs.Slopes.{Slopes, IsUsable, bands_of, variation}
use Rattle.sdm_rules.specs.Curves.{exact_at, exact, stepped, most_slack, slack_after}
use Rattle.sdm_laws.specs.Levels.{IsExactCurve, IsSteppedCurve}

-- ---- rounding

-- how many grains a stepped place may lie before the exact one, by the number of bands
abbrev pub slack_of : ℕ → ℕ
slack_of bands = slack_after (variation bands) bands 0

-- the stepped place of the speed `v` stands for the exact one, within the slack of the number of bands and within a
-- millimetre
pub record IsRounded (on : Slopes) (f : ℤ) (w v : ℕ) : Type 0 where
  pub early : IsEarlyFor (record { at = stepped on f w v; slack = slack_of (bands_of on.uppers) }) (exact on f w v)
  pub bounded : slack_of (bands_of on.uppers) ≤ most_slack
  pub early_at_most : IsEarlyFor (record { at = stepped on f w v; slack = most_slack }) (exact on f w v)
  pub fine : most_slack < millimetre

-- On usable slopes, for every foot and every speed, the stepped place is at most the exact one, and less than a
-- millimetre before it.
abbrev pub LawOfRounding : Type 0
LawOfRounding = (on : Slopes) (f : ℤ) (w v : ℕ) → IsUsable on → IsRounded on f w v

-- ---- exact places

-- On usable slopes every exact place is a fraction: its denominator is above 0.
abbrev pub LawOfFractions : Type 0
LawOfFractions = (on : Slopes) (s : ℕ) (f : ℤ) (w u : ℕ) → IsUsable on → 0 < s → 0 < (exact_at on s f w u).m

-- On usable slopes the place of a greater square is before that of a less one.
abbrev pub LawOfOrder : Type 0
LawOfOrder =
    (on : Slopes) (s : ℕ) (f : ℤ) (w u' u : ℕ) → IsUsable on → 0 < s → u' < u →
    IsBefore (exact_at on s f w u) (exact_at on s f w u')

-- On usable slopes the stepped place of a greater speed is at most that of a less one.
abbrev pub LawOfSteppedOrder : Type 0
LawOfSteppedOrder =
    (on : Slopes) (f : ℤ) (w v' v : ℕ) → IsUsable on → v' ≤ v → stepped on f w v ≤ℤ stepped on f w v'

-- On usable slopes, at `k` times the scale, the place of `k` times the square is `k` times the place.
abbrev pub LawOfScale : Type 0
LawOfScale =
    (on : Slopes) (s k : ℕ) (f : ℤ) (w u : ℕ) → IsUsable on → 0 < s → 0 < k →
    IsSame (exact_at on (k * s) f w (k * u)) (times k (exact_at on s f w u))

-- the curve is at its foot at its foot speed
pub record IsAtFoot (on : Slopes) (f : ℤ) (w : ℕ) : Type 0 where
  pub exact_foot : (s : ℕ) → exact_at on s f w (s * (w * w)) ≡ whole (pos s *ℤ f)
  pub stepped_foot : stepped on f w w ≡ f

-- At its foot speed every curve is at its foot, exact and stepped.
abbrev pub LawOfFoot : Type 0
LawOfFoot = (on : Slopes) (f : ℤ) (w : ℕ) → IsAtFoot on f w

-- ---- levels

-- exact places keep one level in each band, and so do stepped places; no other whole grains do
pub record KeepsLevels (on : Slopes) (f : ℤ) (w : ℕ) : Type 0 where
  pub exact_curve : (s : ℕ) → 0 < s → IsExactCurve on s f w (exact_at on s f w)
  pub stepped_curve : IsSteppedCurve on f w (stepped on f w)
  pub no_other : (place : ℕ → ℤ) → IsSteppedCurve on f w place → (v : ℕ) → place v ≡ stepped on f w v

-- On usable slopes every curve keeps one level in each band, and that fixes its stepped places.
abbrev pub LawOfLevels : Type 0
LawOfLevels = (on : Slopes) (f : ℤ) (w : ℕ) → IsUsable on → KeepsLevels on f w
