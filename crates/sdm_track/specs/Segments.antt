-- The gradients under a train as segments: stretches of cells of the front end in which they stay the same (own form
-- of SUBSET-026-3 3.13.4.2).
use Rattle.std.specs.Prelude.{◌≡◌, ◌≢◌, ℕ, ℤ, pos, neg_ℤ, List, All, length, slice_index_or, ◌+◌, ◌*◌, ◌<◌, ◌≤◌, ◌+ℤ◌}
use Rattle.std.specs.Prelude.{◌≤ℤ◌, ◌<ℤ◌}
use Rattle.sdm_rules.specs.Cells.{value_at}
use Rattle.sdm_rules.specs.Ranges.{steepest, most_gradients, longest_track, longest_train}
use Rattle.sdm_track.specs.declared.under_train.Segment.{Segment}
use Rattle.sdm_track.specs.Steps.{IsFromZero, IsRising}

-- the gradient of a front end in the cell, in tenths of a per mille: of the last segment whose start is at most the
-- cell, before all of them of the first one (own)
abbrev pub segment_gradient : List Segment → ℤ → ℤ
segment_gradient segments cell = value_at (λ s. s.start) (λ s. s.value) (pos 0) segments cell

-- a segment starts at cell 0 or later, before the longest train has left the longest track; the gradient is in tenths
-- of a per mille (own)
pub record IsSegment (s : Segment) : Type 0 where
  pub not_before : pos 0 ≤ℤ s.start
  pub not_past : s.start <ℤ (pos longest_track +ℤ pos longest_train)
  pub downhill : neg_ℤ steepest ≤ℤ s.value
  pub uphill : s.value ≤ℤ steepest

-- at least one segment, of which neighbours differ (own)
pub record AreSegments (segments : List Segment) : Type 0 where
  pub some : 1 ≤ length segments
  pub few : length segments < 2 * most_gradients
  pub each : All IsSegment segments
  pub from_zero : IsFromZero (λ s. s.start) segments
  pub rise : IsRising (λ s. s.start) segments
  pub differ : (i : ℕ) (d : Segment) → i + 1 < length segments →
      (slice_index_or segments i d).value ≢ (slice_index_or segments (i + 1) d).value

-- the segments `new` are `old` up to the segment's start, and from there on have its gradient (own)
pub record GoOnWith (s : Segment) (old new : List Segment) : Type 0 where
  pub before : (c : ℤ) → c <ℤ s.start → segment_gradient new c ≡ segment_gradient old c
  pub after : (c : ℤ) → s.start ≤ℤ c → segment_gradient new c ≡ s.value
  pub begun : All (λ t. t.start ≤ℤ s.start) new
  pub by_one : length new ≤ length old + 1
