-- A train that stands, and whose brakes work at once: the least motion there is, which ends where it begins. So what
-- promises a stop before that place says something false of it.
use Rattle.std.proofs.Common.{ℤ, pos, true, false, [], ◌∷◌, ◌<ℤ◌, refl, arith}
use Rattle.std.proofs.lemmas.Int.{ints}
use Rattle.std.specs.Prelude.{None, Some}
use Rattle.sdm_rules.specs.declared.motions.Start.{Start}
use Rattle.sdm_rules.specs.Data.{TrainAndTrack}
use Rattle.sdm_rules.specs.Slopes.{Slopes}
use Rattle.sdm_rules.specs.Motion.{Motion}
use Rattle.sdm_rules.specs.Stop.{IsMotionOn, StopsBy}

-- a train of 1 m that brakes at 10 m/s² at once, on a level track of 2 km
unfoldable pub short_train : TrainAndTrack
short_train = record {
  train = record {
    length_cm = pos 100;
    max_speed = pos 160;
    rotating_mass = Some (pos 0);
    cut_off_time = pos 0;
    cut_off_interface = false;
    emergency_time = pos 0;
    service_time = pos 0;
    service_brake = true;
    bands = record {
      upper = None;
      emergency = pos 1000;
      service = pos 100;
      normal = pos 100;
      kdry = pos 1000;
      kwet = pos 1000;
      kn_up = pos 0;
      kn_down = pos 0;
      emergency_reduced = None;
    } ∷ [];
  };
  national = record {
    avadh = pos 20;
    adhesion_max = pos 70;
    guidance = false;
    service_in_target = true;
    early_release = false;
    inhibit_under_reading = false;
  };
  track = record {
    length_cm = pos 200_000;
    gradients = [];
    speeds = record { start = pos 0; speed = pos 160; delayed = true } ∷ [];
    areas = [];
    no_special = [];
  };
}

-- it stands with its front end at a place, in grains
abbrev pub standing_at : ℤ → Start
standing_at p = record {
  front = p;
  speed = 0;
  accel1 = 0;
  accel2 = 0;
  traction = 0;
  berem = 0;
}

-- standing there
abbrev standing : ℤ → Motion
standing p = record {
  scale = 1;
  place = p;
  speed = 0;
  slices = [];
  first = record { place = p; square = 0 };
  more = [];
}

-- is a motion
stands : (on : Slopes) (p : ℤ) → IsMotionOn on (standing_at p) (standing p)
stands on p = (
  omega arith,
  record {
    place = omega (arith, ints);
    speed = omega arith;
    motion = record {
      reaction = record {
        traction = [];
        build = [];
        split = refl;
        in_traction = λ k d l. absurd (omega arith);
        in_build = λ k d l. absurd (omega arith);
        traction_time = refl;
        build_time = refl;
        slices = tt;
      };
      begins = refl;
      braking = refl;
    };
  },
)

-- so the train stops by no place before
pub no_stop_before : (on : Slopes) (p place : ℤ) → place <ℤ p → StopsBy on (standing_at p) place → ⊥
no_stop_before on p place before h =
    let k = h (standing p) (stands on p) 0 (record { place = p; square = 0 }) (omega arith) in
    omega (arith, ints, k, before)
