-- The journeys of the worked examples: one train, level track, and changes to them.
use Rattle.std.specs.Prelude.{ℕ, ℤ, pos, true, false, List, [], ◌∷◌, Option, None}
use Rattle.sdm_num.specs.Readings.{OdometerReading}
use Rattle.sdm_rules.specs.declared.data.Band.{Band}
use Rattle.sdm_rules.specs.declared.data.Gradient.{Gradient}
use Rattle.sdm_rules.specs.declared.data.Area.{Area}
use Rattle.sdm_rules.specs.declared.data.NationalFields.{NationalFields}
use Rattle.sdm_rules.specs.Data.{TrainAndTrack}

-- 1 m/s² for each brake
unfoldable pub plain_band : Band
plain_band = record {
  upper = None;
  emergency = pos 100;
  service = pos 100;
  normal = pos 100;
  kdry = pos 1000;
  kwet = pos 1000;
  kn_up =
      pos 0;
  kn_down = pos 0;
  emergency_reduced = None;
}

-- the service brake in use for targets, no guidance curve, and no early release
unfoldable pub plain_national : NationalFields
plain_national = record {
  avadh = pos 20;
  adhesion_max = pos 70;
  guidance = false;
  service_in_target = true;
  early_release =
      false;
  inhibit_under_reading = false;
}

-- a train of a length in cm, with a rotating mass, one band, gradients in tenths of a per mille and areas of
-- reduced adhesion; 160 km/h, no times, the special brake is used everywhere
unfoldable pub plain_train_and_track : ℤ → Option ℤ → Band → List Gradient → List Area → TrainAndTrack
plain_train_and_track length_cm mass band gradients areas = record {
  train = record {
    length_cm = length_cm;
    max_speed = pos 160;
    rotating_mass = mass;
    cut_off_time = pos 0;
    cut_off_interface =
        false;
    emergency_time = pos 0;
    service_time = pos 0;
    service_brake = true;
    bands = band ∷ [];
  };
  national = plain_national;
  track = record {
    length_cm = pos 200_000;
    gradients = gradients;
    speeds = record {
      start = pos 0;
      speed = pos 160;
      delayed = true;
    } ∷ [];
    areas = areas;
    no_special = [];
  };
}

-- a reading with three equal front ends
unfoldable pub reading_at : ℕ → ℤ → ℕ → OdometerReading
reading_at time place v = record {
  time = time;
  est = place;
  min = place;
  max = place;
  speed = v;
  accel = pos 0;
  under = 0;
}
