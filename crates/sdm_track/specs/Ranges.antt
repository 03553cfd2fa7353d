-- What holds for every accepted track (ranges own).
use Rattle.std.specs.Prelude.{ℕ, ℤ, pos, neg_ℤ, List, All, length, slice_index_or, ◌<◌, ◌≤◌, ◌≤ℤ◌, ◌<ℤ◌}
use Rattle.sdm_rules.specs.declared.data.Gradient.{Gradient}
use Rattle.sdm_rules.specs.declared.data.SpeedStep.{SpeedStep}
use Rattle.sdm_rules.specs.declared.data.Area.{Area}
use Rattle.sdm_rules.specs.Data.{TrackData}
use Rattle.sdm_rules.specs.Ranges.{longest_track, most_areas, most_gradients, most_speeds, steepest, top_kmh}
use Rattle.sdm_track.specs.Steps.{IsFromZero, IsRising}

-- an entry of the gradients starts on a track of this length, in cm; the gradient is in tenths of a per mille (own)
pub record IsGradient (length_cm : ℤ) (e : Gradient) : Type 0 where
  pub not_before : pos 0 ≤ℤ e.start
  pub on_track : e.start <ℤ length_cm
  pub downhill : neg_ℤ steepest ≤ℤ e.grad
  pub uphill : e.grad ≤ℤ steepest

-- an entry of the static speed profile starts on the track; the speed is in km/h (own)
pub record IsSpeedStep (length_cm : ℤ) (e : SpeedStep) : Type 0 where
  pub not_before : pos 0 ≤ℤ e.start
  pub on_track : e.start <ℤ length_cm
  pub least : pos 1 ≤ℤ e.speed
  pub greatest : e.speed ≤ℤ pos top_kmh

-- an area lies on the track and has a cell, in cm (own)
pub record IsArea (length_cm : ℤ) (a : Area) : Type 0 where
  pub not_before : pos 0 ≤ℤ a.start
  pub some_cell : a.start <ℤ a.end
  pub on_track : a.end ≤ℤ length_cm

-- the gradients of a track: none mean a level track (own)
pub record AreGradients (length_cm : ℤ) (entries : List Gradient) : Type 0 where
  pub few : length entries ≤ most_gradients
  pub each : All (IsGradient length_cm) entries
  pub from_zero : IsFromZero (λ e. e.start) entries
  pub rise : IsRising (λ e. e.start) entries

-- the static speed profile of a track (own)
pub record AreSpeeds (length_cm : ℤ) (entries : List SpeedStep) : Type 0 where
  pub some : 1 ≤ length entries
  pub few : length entries ≤ most_speeds
  pub each : All (IsSpeedStep length_cm) entries
  pub from_zero : IsFromZero (λ e. e.start) entries
  pub rise : IsRising (λ e. e.start) entries

-- a list of areas of a track: each ends before a later one starts, or where it starts (own)
pub record AreAreas (length_cm : ℤ) (areas : List Area) : Type 0 where
  pub few : length areas ≤ most_areas
  pub each : All (IsArea length_cm) areas
  pub apart : (i j : ℕ) (d : Area) → i < j → j < length areas →
      (slice_index_or areas i d).end ≤ℤ (slice_index_or areas j d).start

-- a track within its ranges (own)
pub record IsTrack (t : TrackData) : Type 0 where
  pub shortest : pos 1 ≤ℤ t.length_cm
  pub longest : t.length_cm ≤ℤ pos longest_track
  pub gradients : AreGradients t.length_cm t.gradients
  pub speeds : AreSpeeds t.length_cm t.speeds
  pub areas : AreAreas t.length_cm t.areas
  pub no_special : AreAreas t.length_cm t.no_special

-- the data of a track of these lists, with its length in cm (own)
abbrev pub track_data : ℕ → List Gradient → List SpeedStep → List Area → List Area → TrackData
track_data length_cm gradients speeds areas no_special = record {
  length_cm = pos length_cm;
  gradients = gradients;
  speeds = speeds;
  areas = areas;
  no_special = no_special;
}
