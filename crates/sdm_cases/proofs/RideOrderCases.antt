-- What the other laws of rides say at numbers: of orders by the SvL, of a computer's order, of the rows of a ride, and of
-- the rides that the motions of a reading are.
use Rattle.std.proofs.Common.{◌≡◌, zero, suc, pos, Bool, true, false, List, [], ◌∷◌, ◌*◌, refl, sym, ap}
use Rattle.std.proofs.Common.{◌∙◌, arith}
use Rattle.std.specs.Prelude.{All, None, Ok, not, ◌||◌}
use Rattle.std.proofs.lemmas.Int.{ints}
use Rattle.sdm_num.specs.Readings.{OdometerReading}
use Rattle.sdm_rules.specs.declared.data.SlopeKind.TheVariants.{Safe}
use Rattle.sdm_rules.specs.declared.motions.Phase.TheVariants.{Traction, Build}
use Rattle.sdm_rules.specs.declared.motions.Point.{Point}
use Rattle.sdm_rules.specs.declared.motions.Slice.{Slice}
use Rattle.sdm_rules.specs.declared.records.Event.{Event}
use Rattle.sdm_rules.specs.declared.records.Event.TheVariants as record_kinds
use Rattle.sdm_rules.specs.Curves.{place_at, corner, arc, stepped, arc_back, back}
use Rattle.sdm_rules.specs.Decelerations.{slope_at, slopes_of}
use Rattle.sdm_rules.specs.Limits.{limits_of, release_start}
use Rattle.sdm_rules.specs.Motion.{Motion}
use Rattle.sdm_rules.specs.Reaction.{reaction_start, reaction_times}
use Rattle.sdm_rules.specs.Records.{step}
use Rattle.sdm_rules.specs.Stop.{IsMotionOn}
use Rattle.sdm_rules.specs.Supervision.{row_of}
use Rattle.sdm_rules.specs.Within.{is_within_svl}
use Rattle.sdm_ride.specs.Happenings.{Happening, Record, Overdue, Tick}
use Rattle.sdm_ride.specs.Moments.{Moment, after, by_rows}
use Rattle.sdm_ride.specs.MotionRides.{LawOfMotionRides, is_tick, last_moment, promised_at}
use Rattle.sdm_ride.specs.Orders.{Computer, GoesOn, LawOfOrders, OrdersAs}
use Rattle.sdm_ride.specs.Rides.{IsByClock, IsRide, point_of}
use Rattle.sdm_ride.specs.RideLaws.{LawOfRiddenRows, LawOfSvlOrders, rows_on}
use Rattle.sdm_cases.proofs.Journeys.{plain_band, plain_national, plain_train_and_track, reading_at}
use Rattle.sdm_cases.proofs.RideLawCases.{before, line, reading, start, to_the_end}
use Rattle.sdm_cases.proofs.RideTrain.{ride_train, step_on, train_open, train_slopes}
use Rattle.sdm_cases.proofs.StopCases.{plain_slopes}

-- ---- orders by the SvL

-- at the SvL, at 0.2 m/s
abbrev at_the_svl : OdometerReading
at_the_svl = reading_at 0 (pos 5_400_000_000_000) 10_800

isn't_within : is_within_svl before at_the_svl ≡ false
unfolding ride_train to_the_end plain_train_and_track plain_national plain_band reading_at is_within_svl limits_of
    release_start reaction_times slopes_of slope_at stepped place_at corner arc arc_back back
isn't_within = refl

or_true : (b c : Bool) → c ≡ false → (b || not c) ≡ true
or_true true c e = refl
or_true false c e = ap not e

-- by the law its row commands the emergency brake
commanded_by_law : LawOfSvlOrders → (row_of before at_the_svl).held.eb ≡ true
unfolding reading_at
commanded_by_law law =
    sym (law before at_the_svl 1000 1000 refl (omega arith)) ∙ or_true (row_of before at_the_svl).held.eb _ isn't_within

-- ---- a computer's order

-- by the law a computer that goes on as a ride does brakes a tick after a reading that is missing
ordered_by_law : LawOfOrders → (m : Moment) (c d e : Computer) → OrdersAs (record m { order = None }) c →
    GoesOn by_rows c Overdue d → GoesOn by_rows d (Tick 27_000 24_300_000_000) e → e.orders_brake ≡ true
unfolding after
ordered_by_law law m c d e same first second =
    (law by_rows (record m { order = None }) c (Overdue ∷ Tick 27_000 24_300_000_000 ∷ []) (d ∷ e ∷ []) same
    (first, (second, tt))).1.0.ordered refl

-- ---- the rows of a ride

rows_by_law : LawOfRiddenRows Event →
    rows_on by_rows start (Record (record_kinds.Read reading) ∷ Tick 27_000 24_300_000_000 ∷ Overdue ∷ [])
    ≡ row_of before reading ∷ []
unfolding step
rows_by_law law =
    sym (law (λ n e. Ok e) 1 by_rows start (record_kinds.Read reading ∷ [])
    (Record (record_kinds.Read reading) ∷ Tick 27_000 24_300_000_000 ∷ Overdue ∷ []) tt refl)

-- ---- a motion as a ride

-- the ride of RideLawCases as a motion: two slices, and one step of braking
abbrev gaining : List Slice
gaining =
    record { phase = Traction; time = 6; to = 54_000; length = 226_800_000_000 }
    ∷ record { phase = Build; time = 4; to = 62_640; length = 233_280_000_000 } ∷ []

abbrev at_the_brake : Point
at_the_brake = record { place = pos 21_236_687_999_999; square = 62_640 * 62_640 }

abbrev where_it_stands : Point
where_it_stands = record { place = pos 21_599_999_999_999; square = 0 }

abbrev motion : Motion
motion = record {
  scale = 2;
  place = pos 20_776_607_999_999;
  speed = 21_600;
  slices = gaining;
  first = at_the_brake;
  more = where_it_stands ∷ [];
}

first_only : (x : Slice) (P : Slice → Type 0) → P x → All P (x ∷ [])
first_only x P is zero d l = is
first_only x P is (suc k) d l = absurd (omega arith)

is_motion : IsMotionOn (slopes_of Safe line) (reaction_start line reading) motion
unfolding ride_train plain_train_and_track plain_national reading reaction_times plain_slopes
is_motion = (
  omega arith,
  record {
    place = omega (arith, ints);
    speed = omega arith;
    motion = record {
      reaction = record {
        traction = record { phase = Traction; time = 6; to = 54_000; length = 226_800_000_000 } ∷ [];
        build = record { phase = Build; time = 4; to = 62_640; length = 233_280_000_000 } ∷ [];
        split = refl;
        in_traction = first_only _ (λ x. x.phase ≡ Traction) refl;
        in_build = first_only _ (λ x. x.phase ≡ Build) refl;
        traction_time = refl;
        build_time = refl;
        slices = (
          record { gains = omega arith; moves = omega arith },
          (record { gains = omega arith; moves = omega arith }, tt),
        );
      };
      begins = refl;
      braking = (
        step_on _ (train_slopes (pos 100) to_the_end (pos 3) (pos 5) (pos 0) Safe) 4 _ _
            (record { forward = omega (arith, ints); slower = omega arith; enough = omega (arith, ints) }),
        refl,
      );
    };
  },
)

-- by the law a ride by the clock, of ticks alone, comes to where it ends
comes_by_law : LawOfMotionRides →
    let from = promised_at before reading (pos 20_776_607_999_999) 21_600 in
    (hs : List Happening) × All (λ h. is_tick h ≡ true) hs × IsRide by_rows (IsByClock 2) 2 from hs
    × (point_of (last_moment by_rows from hs) ≡ where_it_stands)
comes_by_law law =
    let comes = law by_rows before reading motion
    (train_open (pos 100) to_the_end (pos 3) (pos 5) (pos 0) (before.authority)) is_motion in
    (comes.happenings, comes.ticks, comes.ride, comes.ends)
