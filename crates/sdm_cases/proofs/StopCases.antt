-- The stop that a covered reading promises is met by a motion, and by one to the grain: a train of 100 m with 1 m/s²
-- in each brake and an emergency brake that works after 2 s runs at 20 m/s, with its front end at 760 m, towards an
-- SvL at 1000 m.
use Rattle.std.proofs.Common.{◌≡◌, refl, ap, ◌*◌, arith}
use Rattle.std.proofs.lemmas.Int.{ints}
use Rattle.std.proofs.Math.Path.{fun_ext}
use Rattle.std.specs.Prelude.{ℕ, zero, suc, ℤ, pos, negsuc, unsigned_abs, Bool, true, false, List, [], ◌∷◌, Some, None}
use Rattle.sdm_num.specs.Units.{millimetre}
use Rattle.sdm_num.specs.Readings.{OdometerReading}
use Rattle.sdm_rules.specs.declared.data.SlopeKind.TheVariants.{Safe}
use Rattle.sdm_rules.specs.declared.motions.Phase.TheVariants.{Build}
use Rattle.sdm_rules.specs.declared.motions.Point.{Point}
use Rattle.sdm_rules.specs.declared.motions.Slice.{Slice}
use Rattle.sdm_rules.specs.Slopes.{Slopes}
use Rattle.sdm_rules.specs.Data.{TrainAndTrack}
use Rattle.sdm_rules.specs.Decelerations.{slope_at, slopes_of}
use Rattle.sdm_rules.specs.Motion.{AreSlices, BrakesAtLeast, IsBraking, IsIn, IsInBand, IsStep, Motion}
use Rattle.sdm_rules.specs.Reaction.{reaction_times, reaction_start}
use Rattle.sdm_rules.specs.Stop.{IsMotionOn}
use Rattle.sdm_cases.proofs.Journeys.{plain_band, plain_national, plain_train_and_track, reading_at}

-- ---- the start of motions

-- a train with a cut-off of 2 s at an interface, an emergency brake of 3 s and a service brake of 4 s
timed_line : Bool → TrainAndTrack
timed_line inhibited =
    let line = plain_train_and_track (pos 20_000) None plain_band [] [] in
    record line {
      train = record (line.train)
          { cut_off_time = pos 20; cut_off_interface = true; emergency_time = pos 30; service_time = pos 40 };
      national = record (line.national) { inhibit_under_reading = inhibited };
    }

-- 40 m/s, gaining 0.5 m/s², with 0.5 m/s of under-reading and the max safe front end at 3305 m
gaining_reading : OdometerReading
gaining_reading = record {
  time = 0;
  est = pos (3_300_000 * millimetre);
  min = pos (3_295_000 * millimetre);
  max =
      pos (3_305_000 * millimetre);
  speed = 2_160_000;
  accel = pos 50;
  under = 27_000;
}

-- the under-reading amount adds to the speed; after the cut-off at most 0.4 m/s² are gained; the traction is off
-- within the 2 s from the warning and the 4 s of the service brake, so the whole 3 s are the emergency brake's
start_with_under_reading : reaction_start (timed_line false) gaining_reading ≡ record {
  front = pos 1_784_700_000_000_000;
  speed = 2_187_000;
  accel1 = 50;
  accel2 = 40;
  traction = 0;
  berem = 30;
}
unfolding timed_line plain_train_and_track plain_national gaining_reading reaction_times
start_with_under_reading = refl

-- where the compensation is inhibited it doesn't
start_without_under_reading : reaction_start (timed_line true) gaining_reading ≡ record {
  front = pos 1_784_700_000_000_000;
  speed = 2_160_000;
  accel1 = 50;
  accel2 = 40;
  traction = 0;
  berem = 30;
}
unfolding timed_line plain_train_and_track plain_national gaining_reading reaction_times
start_without_under_reading = refl

-- without an interface the traction pushes for its whole 2 s, and 1 s of the brake's 3 s is left
start_without_interface :
    reaction_start (record (timed_line false)
    { train = record ((timed_line false).train) { cut_off_interface = false } }) gaining_reading
    ≡ record {
      front = pos 1_784_700_000_000_000;
      speed = 2_187_000;
      accel1 = 50;
      accel2 = 40;
      traction = 20;
      berem = 10;
    }
unfolding timed_line plain_train_and_track plain_national gaining_reading reaction_times
start_without_interface = refl

-- ---- a motion from a reading

-- a train of 100 m, with an emergency brake that works after 2 s
unfoldable pub braked_line : TrainAndTrack
braked_line =
    let line = plain_train_and_track (pos 10_000) (Some (pos 0)) plain_band [] [] in
    record line { train = record (line.train) { emergency_time = pos 20 } }

unfoldable pub reading_at_760_m : OdometerReading
reading_at_760_m = reading_at 0 (pos 410_400_000_000_000) 1_080_000

-- 1 m/s² in the one band
unfoldable pub plain_slope : ℕ → ℤ → ℕ
plain_slope zero cell = 200_000_000_000
plain_slope (suc band) cell = 0

unfoldable pub plain_slopes : Slopes
plain_slopes = record { q = 100; uppers = []; slope = plain_slope }

each_slope : (band : ℕ) (cell : ℤ) → unsigned_abs (slope_at Safe braked_line band cell) ≡ plain_slope band cell
unfolding braked_line plain_train_and_track plain_national plain_band slope_at plain_slope
each_slope zero (pos cell) = refl
each_slope zero (negsuc cell) = refl
each_slope (suc band) (pos cell) = refl
each_slope (suc band) (negsuc cell) = refl

safe_slopes : slopes_of Safe braked_line ≡ plain_slopes
unfolding braked_line plain_train_and_track plain_band slopes_of plain_slopes
safe_slopes =
    ap (λ f. record { q = 100; uppers = []; slope = f }) (fun_ext (λ band. fun_ext (λ cell. each_slope band cell)))

-- 40 m while the brake builds up
unfoldable pub before_braking : List Slice
before_braking =
    record { phase = Build; time = 10; to = 1_080_000; length = 10_800_000_000_000 }
    ∷ record { phase = Build; time = 5; to = 1_080_000; length = 5_400_000_000_000 }
    ∷ record { phase = Build; time = 5; to = 1_080_000; length = 5_400_000_000_000 }
    ∷ []

unfoldable pub at_800_m : Point
at_800_m = record { place = pos 432_000_000_000_000; square = 1_166_400_000_000 }

-- and then 50, 50 and 100 m at 1 m/s², to the SvL itself
unfoldable pub braking : List Point
braking =
    record { place = pos 459_000_000_000_000; square = 874_800_000_000 }
    ∷ record { place = pos 486_000_000_000_000; square = 583_200_000_000 }
    ∷ record { place = pos 540_000_000_000_000; square = 0 }
    ∷ []

all_build : IsIn Build before_braking
unfolding before_braking
all_build zero d l = refl
all_build (suc zero) d l = refl
all_build (suc (suc zero)) d l = refl
all_build (suc (suc (suc k))) d l = absurd (omega arith)

pub in_the_band : (u : ℕ) → IsInBand plain_slopes 1 0 u
unfolding plain_slopes
in_the_band u = record { known = omega arith; above = omega arith; below = λ lt. absurd (omega arith) }

-- a step in the one band, by the fall of the square
pub a_step : (x y : Point) → BrakesAtLeast plain_slopes 200_000_000_000 x.place x.square y.place y.square →
    IsStep plain_slopes 1 x y
unfolding plain_slopes plain_slope
a_step x y brakes = record {
  band = 0;
  slope = 200_000_000_000;
  from_band = in_the_band x.square;
  to_band = in_the_band y.square;
  one_slope =
      λ cell part. refl;
  brakes = brakes;
}

the_slices : AreSlices (reaction_start braked_line reading_at_760_m) 1_080_000 before_braking
unfolding braked_line plain_train_and_track plain_national reading_at_760_m reading_at reaction_times before_braking
the_slices = (
  record { gains = omega arith; moves = omega arith },
  (record { gains = omega arith; moves = omega arith }, (record { gains = omega arith; moves = omega arith }, tt)),
)

the_braking : IsBraking plain_slopes 1 at_800_m braking
unfolding at_800_m braking plain_slopes
the_braking = (
  a_step _ _ (record { forward = omega (arith, ints); slower = omega arith; enough = omega (arith, ints) }),
  (
    a_step _ _ (record { forward = omega (arith, ints); slower = omega arith; enough = omega (arith, ints) }),
    (a_step _ _ (record { forward = omega (arith, ints); slower = omega arith; enough = omega (arith, ints) }), refl),
  ),
)

abbrev pub to_the_svl : Motion
to_the_svl = record {
  scale = 1;
  place = pos 410_400_000_000_000;
  speed = 1_080_000;
  slices = before_braking;
  first = at_800_m;
  more = braking;
}

-- it stops at the SvL to the grain
pub stops_at_the_svl : IsMotionOn (slopes_of Safe braked_line) (reaction_start braked_line reading_at_760_m) to_the_svl
unfolding braked_line plain_train_and_track plain_national reading_at_760_m reading_at reaction_times before_braking
    at_800_m
stops_at_the_svl = rw safe_slopes (
  omega arith,
  record {
    place = omega (arith, ints);
    speed = omega arith;
    motion = record {
      reaction = record {
        traction = [];
        build = before_braking;
        split = refl;
        in_traction = λ k d l. absurd (omega arith);
        in_build = all_build;
        traction_time = refl;
        build_time = refl;
        slices = the_slices;
      };
      begins = refl;
      braking = the_braking;
    };
  },
)

-- a train that stands, at scale 2, a quarter of a grain before where the front end is at most
unfoldable pub standing : Slice
standing = record { phase = Build; time = 40; to = 0; length = 0 }

unfoldable pub where_it_stands : Point
where_it_stands = record { place = pos 1_641_599_999_999_999; square = 0 }

abbrev pub before_the_front : Motion
before_the_front = record {
  scale = 2;
  place = pos 1_641_599_999_999_999;
  speed = 0;
  slices = standing ∷ [];
  first = where_it_stands;
  more = [];
}

-- it is a motion from the reading
pub stands_before_the_front :
    IsMotionOn (slopes_of Safe braked_line) (reaction_start braked_line reading_at_760_m) before_the_front
unfolding braked_line plain_train_and_track plain_national reading_at_760_m reading_at reaction_times standing
    where_it_stands
stands_before_the_front = (
  omega arith,
  record {
    place = omega (arith, ints);
    speed = omega arith;
    motion = record {
      reaction = record {
        traction = [];
        build = record { phase = Build; time = 40; to = 0; length = 0 } ∷ [];
        split = refl;
        in_traction = λ k d l. absurd (omega arith);
        in_build = λ k d l. first_only k d l;
        traction_time = refl;
        build_time = refl;
        slices = (record { gains = omega arith; moves = omega arith }, tt);
      };
      begins = refl;
      braking = refl;
    };
  },
)
  where
    first_only : IsIn Build (record { phase = Build; time = 40; to = 0; length = 0 } ∷ [])
    first_only zero d l = refl
    first_only (suc k) d l = absurd (omega arith)

-- a train that runs on for 1 s, and whose speed then drops before its brake works
unfoldable pub stopping : List Slice
stopping =
    record { phase = Build; time = 10; to = 1_080_000; length = 10_800_000_000_000 }
    ∷ record { phase = Build; time = 10; to = 0; length = 0 }
    ∷ []

all_stopping : IsIn Build stopping
unfolding stopping
all_stopping zero d l = refl
all_stopping (suc zero) d l = refl
all_stopping (suc (suc k)) d l = absurd (omega arith)

unfoldable pub at_780_m : Point
at_780_m = record { place = pos 421_200_000_000_000; square = 0 }

abbrev pub to_780_m : Motion
to_780_m = record {
  scale = 1;
  place = pos 410_400_000_000_000;
  speed = 1_080_000;
  slices = stopping;
  first = at_780_m;
  more = [];
}

-- it is a motion from the reading, too
pub stops_before_braking :
    IsMotionOn (slopes_of Safe braked_line) (reaction_start braked_line reading_at_760_m) to_780_m
unfolding braked_line plain_train_and_track plain_national reading_at_760_m reading_at reaction_times stopping at_780_m
stops_before_braking = (
  omega arith,
  record {
    place = omega (arith, ints);
    speed = omega arith;
    motion = record {
      reaction = record {
        traction = [];
        build = stopping;
        split = refl;
        in_traction = λ k d l. absurd (omega arith);
        in_build = all_stopping;
        traction_time = refl;
        build_time = refl;
        slices = (
          record { gains = omega arith; moves = omega arith },
          (record { gains = omega arith; moves = omega arith }, tt),
        );
      };
      begins = refl;
      braking = refl;
    };
  },
)
