-- Slopes, from which brake curves are drawn: a deceleration for each speed band and each cell of the track
-- (SUBSET-026-3 3.13.6; own form).
use Rattle.std.specs.Prelude.{ℕ, suc, ℤ, pos, int_le, nat_le, if◌then◌else◌, List, ◌+◌, ◌-◌, ◌*◌, ◌<◌, ◌≤◌, ◌≤ℤ◌}
use Rattle.std.specs.Prelude.{length, slice_index, count_by}

-- A slope is a deceleration, not the track's gradient: a number of 1/Q m/s², with Q = 2 * 10^9 * q (own unit).
-- `uppers` are the upper speeds in notches of all bands but the last, which has none. Bands count from 0.
pub record Slopes : Type 0 where
  pub q : ℕ
  pub uppers : List ℕ
  pub slope : ℕ → ℤ → ℕ

-- Slopes as they are kept, by segments of the track: `starts` are the first cells of the segments, and `slopes` has
-- one value for each band and segment, all segments of the first band first (own).
pub record SlopeMap : Type 0 where
  pub q : ℕ
  pub uppers : List ℕ
  pub starts : List ℤ
  pub slopes : List ℕ

-- the last segment whose start is at most the cell, else the first one (own)
abbrev pub segment_of : List ℤ → ℤ → ℕ
segment_of starts cell = count_by (λ s. int_le s cell) starts - 1

-- 0.05 m/s², in 1/Q m/s² (own)
abbrev pub least_slope : ℕ → ℕ
least_slope q = 100_000_000 * q

-- a slope that isn't too weak to carry a curve: at least 0.05 m/s² (own)
abbrev pub IsStrongSlope : ℕ → ℤ → Type 0
IsStrongSlope q slope = pos (least_slope q) ≤ℤ slope

-- the slopes by band and cell that a slope map stands for (own)
abbrev pub meaning_of : SlopeMap → Slopes
meaning_of m = record {
  q = m.q;
  uppers = m.uppers;
  slope =
      λ band cell. slice_index m.slopes (band * length m.starts + segment_of m.starts cell);
}

-- the most speed bands of a train (own)
abbrev pub most_bands : ℕ
most_bands = 10

-- in one band no slope may be more than so many times another, where there are so many bands: sixteen times with up to
-- eight bands, eight times with nine or ten (own)
abbrev pub variation : ℕ → ℕ
variation bands = if nat_le bands 8 then 16 else 8

-- how many bands there are: one more than there are upper speeds (own)
abbrev pub bands_of : List ℕ → ℕ
bands_of uppers = suc (length uppers)

-- slopes that the laws of curves hold for: above 0, in bands that are few enough and rise, in each of which they
-- differ no more than they may (own)
pub record IsUsable (on : Slopes) : Type 0 where
  pub unit : 0 < on.q
  pub few : bands_of on.uppers ≤ most_bands
  pub rising : (i j : ℕ) → i ≤ j → j < length on.uppers → slice_index on.uppers i ≤ slice_index on.uppers j
  pub positive : (band : ℕ) → band ≤ length on.uppers → (c : ℤ) → 0 < on.slope band c
  pub even : (band : ℕ) → band ≤ length on.uppers → (c c' : ℤ) →
      on.slope band c ≤ variation (bands_of on.uppers) * on.slope band c'
