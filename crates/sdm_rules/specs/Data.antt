-- The data of a journey: the train, the national values, and the track (SUBSET-026-3 3.13.2).
use Rattle.std.specs.Prelude.{◌≡◌, ℤ, pos, Bool, List, [], ◌∷◌, Option, Some, None, ◌≤◌, ◌<ℤ◌, length, take}
use Rattle.sdm_rules.specs.declared.data.Band.{Band}
use Rattle.sdm_rules.specs.declared.data.Gradient.{Gradient}
use Rattle.sdm_rules.specs.declared.data.SpeedStep.{SpeedStep}
use Rattle.sdm_rules.specs.declared.data.Area.{Area}
use Rattle.sdm_rules.specs.declared.data.TrainFields.{TrainFields}
use Rattle.sdm_rules.specs.declared.data.NationalFields.{NationalFields}
use Rattle.sdm_rules.specs.Slopes.{most_bands}

-- train data (SUBSET-026-3 3.13.2.2)
pub record TrainData : Type 0 where
  pub length_cm : ℤ
  pub max_speed : ℤ  -- km/h
  pub rotating_mass : Option ℤ  -- percent, where it is known
  pub cut_off_time : ℤ  -- ds
  pub cut_off_interface : Bool
  pub emergency_time : ℤ  -- ds
  pub service_time : ℤ  -- ds
  pub service_brake : Bool
  pub bands : List Band

-- the train of these fields: its bands are the first `band_count` of the array (own)
abbrev pub train_of : TrainFields → TrainData
train_of f = record {
  length_cm = f.length;
  max_speed = f.max_speed;
  rotating_mass = f.rotating_mass;
  cut_off_time = f.traction_cutoff_time;
  cut_off_interface = f.traction_cutoff_interface;
  emergency_time = f.emergency_time;
  service_time = f.service_time;
  service_brake = f.service_brake;
  bands = take f.band_count f.bands;
}

-- Each band but the last has an upper speed, in km/h, above that of the band before it, which is `above`; the last has
-- none (own).
abbrev pub AreBands : ℤ → List Band → Type 0
AreBands above [] = ⊥
AreBands above (b ∷ []) = b.upper ≡ None
AreBands above (b ∷ next ∷ more) =
    (upper : ℤ) × (b.upper ≡ Some upper) × (above <ℤ upper) × AreBands upper (next ∷ more)

-- the bands of a train: at least one, not too many, and in their order (own)
pub record HasBands (bands : List Band) : Type 0 where
  pub few : length bands ≤ most_bands
  pub in_order : AreBands (pos 0) bands

-- the track: its length, and lists by place (SUBSET-026-3 3.13.4, 3.11.3, 3.12; own: areas without the special brake)
pub record TrackData : Type 0 where
  pub length_cm : ℤ
  pub gradients : List Gradient
  pub speeds : List SpeedStep
  pub areas : List Area  -- of reduced adhesion
  pub no_special : List Area  -- in which the special brake is not used

-- the train, the national values and the track of a journey (SUBSET-026-3 3.13.2)
pub record TrainAndTrack : Type 0 where
  pub train : TrainData
  pub national : NationalFields  -- the national values (SUBSET-026-3 3.13.2.3, A.3.2)
  pub track : TrackData
