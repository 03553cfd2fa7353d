-- A speed profile: what it is made of, and the MRSP that it gives.
use Rattle.std.specs.Prelude.{ℕ, ℤ, pos, Bool, List, ◌++◌, map, refl, ◌≤◌, ◌≤ℤ◌}
use Rattle.std.specs.Coded.{Coded, code_by, coded×, coded_ℕ, coded_ℤ, coded_bool, coded_list}
use Rattle.std.specs.Ordering.{nat_cmp}
use Rattle.std.specs.FinMap as finite
use Rattle.sdm_rules.specs.declared.data.SpeedStep.{SpeedStep}
use Rattle.sdm_rules.specs.declared.restrictions.Restriction.{Restriction}
use Rattle.sdm_rules.specs.Data.{TrackData}
use Rattle.sdm_speed.specs.Codes.{coded_restrictions}
use Rattle.sdm_rules.specs.Profile.{Zone, lowest_limit, zones_of_track, zone_of}
use Rattle.sdm_rules.specs.Records.{most_restrictions}
use Rattle.sdm_rules.specs.Ranges.{longest_track, longest_train}
use Rattle.sdm_track.specs.Ranges.{AreSpeeds}
use Rattle.sdm_speed.specs.Zones.{IsLimit}

-- the maximum train speed in km/h, the lengths of train and track in cm, the static speed profile, and the temporary
-- restrictions in force by identity (SUBSET-026-3 3.13.7)
pub record ProfileData : Type 0 where
  pub max_speed : ℕ
  pub length_cm : ℤ
  pub track_cm : ℤ
  pub speeds : List SpeedStep
  pub restrictions : finite.FinMap nat_cmp Restriction

-- the profile of a track for a train of a maximum speed and a length: no restriction is in force (own)
abbrev pub new_profile : TrackData → ℕ → ℕ → ProfileData
new_profile track max_speed length_cm = record {
  max_speed = max_speed;
  length_cm = pos length_cm;
  track_cm = track.length_cm;
  speeds = track.speeds;
  restrictions = finite.empty;
}

-- the speed limits of a profile: of the static speed profile, and of the temporary restrictions (SUBSET-026-3 3.13.7;
-- own cell form)
abbrev pub zones_of : ProfileData → List Zone
zones_of p = zones_of_track p.length_cm p.speeds ++ map (zone_of p.length_cm) (finite.values p.restrictions)

-- the MRSP of a cell in km/h: that of the definition for a train of this maximum speed and length, a track of this
-- static speed profile, and these restrictions (SUBSET-026-3 3.13.7; own cell form)
abbrev pub mrsp_of : ProfileData → ℤ → ℕ
mrsp_of p cell = lowest_limit p.max_speed cell (zones_of p)

-- the speed of a cell in km/h with no restriction in force (SUBSET-026-3 3.13.7; own cell form)
abbrev pub static_of : ProfileData → ℤ → ℕ
static_of p cell = lowest_limit p.max_speed cell (zones_of_track p.length_cm p.speeds)

-- a profile within its ranges (ranges own)
pub record IsProfile (p : ProfileData) : Type 0 where
  pub top : IsLimit p.max_speed
  pub shortest_train : pos 1 ≤ℤ p.length_cm
  pub longest_train : p.length_cm ≤ℤ pos longest_train
  pub longest_track : p.track_cm ≤ℤ pos longest_track
  pub speeds : AreSpeeds p.track_cm p.speeds
  pub few : finite.len p.restrictions ≤ most_restrictions

-- entries of a static speed profile as tuples of numbers (own)
abbrev pub coded_step : Coded SpeedStep
coded_step =
    code_by ((ℤ × ℤ) × Bool) (coded× (coded× coded_ℤ coded_ℤ) coded_bool)
    (λ e. ((e.start, e.speed), e.delayed))
    (λ p. record { start = p.0.0; speed = p.0.1; delayed = p.1 })
    (λ _. refl)

-- profiles as such tuples (own)
abbrev pub coded_profile : Coded ProfileData
coded_profile =
    code_by ((ℕ × (ℤ × ℤ)) × (List SpeedStep × finite.FinMap nat_cmp Restriction))
    (coded× (coded× coded_ℕ (coded× coded_ℤ coded_ℤ)) (coded× (coded_list coded_step) coded_restrictions))
    (λ p. ((p.max_speed, (p.length_cm, p.track_cm)), (p.speeds, p.restrictions)))
    (λ p. record { max_speed = p.0.0; length_cm = p.0.1.0; track_cm = p.0.1.1; speeds = p.1.0; restrictions = p.1.1 })
    (λ _. refl)
