-- The cells of the front end where what lies under the train may change, and the segments of track that begin there
-- (own).
use Rattle.std.specs.Prelude.{◌≡◌, ℕ, ℤ, pos, List, [], ◌∷◌, map, All, length, slice_index_or, unsigned_abs, ◌+◌, ◌≤◌}
use Rattle.std.specs.Prelude.{◌+ℤ◌, ◌≤ℤ◌}
use Rattle.std.specs.Int.{int_max}
use Rattle.std.specs.List.{flat_map}
use Rattle.sdm_rules.specs.declared.data.Area.{Area}
use Rattle.sdm_rules.specs.Data.{TrackData}
use Rattle.sdm_rules.specs.Decelerations.{under_train}
use Rattle.sdm_rules.specs.Ranges.{longest_track, longest_train}
use Rattle.sdm_rules.specs.Slopes.{segment_of}
use Rattle.sdm_track.specs.declared.under_train.Segment.{Segment}
use Rattle.sdm_track.specs.Segments.{AreSegments, segment_gradient}
use Rattle.sdm_curve.specs.Maps.{AreStarts}

-- the gradients under a train of a length in cm, as segments (SUBSET-026-3 3.13.4.2; own form)
pub record AreGradientsUnder (track : TrackData) (length_cm : ℕ) (segments : List Segment) : Type 0 where
  pub in_range : AreSegments segments
  pub at : (c : ℤ) → segment_gradient segments c ≡ (under_train track (pos length_cm) c).grad

-- where the gradient under the train may change
abbrev pub gradient_starts : List Segment → List ℕ
gradient_starts segments = map (λ s. unsigned_abs s.start) segments

-- where each area of a list comes into force, and where the rear end has left it
abbrev pub area_ends : ℕ → List Area → List ℕ
area_ends length_cm areas = flat_map (λ a. unsigned_abs a.start ∷ unsigned_abs (a.end +ℤ pos length_cm) ∷ []) areas

-- the first cells of the segments of track in each of which the same lies under the train; what lies under it before
-- cell 0 is taken as at cell 0
pub record AreStretches (track : TrackData) (length_cm : ℤ) (cells : List ℤ) : Type 0 where
  pub starts : AreStarts cells
  pub few : length cells ≤ 2_000
  pub near : All (λ s. s ≤ℤ pos (longest_track + longest_train)) cells
  pub same : (c : ℤ) → under_train track length_cm (int_max c (pos 0))
      ≡ under_train track length_cm (slice_index_or cells (segment_of cells c) (pos 0))
