-- The train of examples/live, whose client hands in a reading each 0.5 s, from 500 m on at 30 m/s: it is the train of
-- README, with the emergency brake that works within 1 s. The first two rows are covered and leave the brakes off. The
-- third one isn't covered, so the brake is ordered, and works from 0.5 s after it on: so the train stops at 995 m, 5 m
-- before the SvL. What the three rows are is taken as `run` writes it.
use Rattle.std.proofs.Common.{◌≡◌, ℕ, zero, suc, pos, true, false, List, [], ◌∷◌, ◌++◌, ◌+◌, ◌-◌, ◌*◌, ◌∙◌, refl}
use Rattle.std.proofs.Common.{◌≤ℤ◌, subst, sym, ap, arith}
use Rattle.std.specs.Prelude.{Some, None}
use Rattle.std.proofs.lemmas.Int.{ints}
use Rattle.sdm_num.specs.Readings.{OdometerReading}
use Rattle.sdm_rules.specs.declared.authorities.Authority.{Authority}
use Rattle.sdm_rules.specs.declared.authorities.Authority.TheVariants.{Stop}
use Rattle.sdm_rules.specs.declared.data.SlopeKind.TheVariants.{Safe}
use Rattle.sdm_rules.specs.declared.records.Event.TheVariants as record_kinds
use Rattle.sdm_rules.specs.Data.{TrainAndTrack}
use Rattle.sdm_rules.specs.Reaction.{reaction_times}
use Rattle.sdm_rules.specs.Supervision.{Supervision, after_reading, opening, row_of}
use Rattle.sdm_ride.specs.Happenings.{Happening, Record, Overdue, Tick}
use Rattle.sdm_ride.specs.Moments.{Moment, Promise, after, by_rows}
use Rattle.sdm_ride.specs.MotionRides.{last_moment}
use Rattle.sdm_ride.specs.Rides.{Delays, HoldsDelays, IsByTimelyOrders, IsRide}
use Rattle.sdm_ride.specs.RideLaws.{IsAsCovered, KeepsPromise, LawOfRides}
use Rattle.sdm_cases.proofs.Journeys.{plain_national, plain_train_and_track, reading_at}
use Rattle.sdm_cases.proofs.RideLawCases.{to_the_end}
use Rattle.sdm_cases.proofs.RideSteps.{IsGiven, IsOrdering, IsRenewed, at_the_end, promised, rides, rides_then}
use Rattle.sdm_cases.proofs.RideSteps.{to_given, to_ordering, to_renewed}
use Rattle.sdm_cases.proofs.TickTests.{aged_by, begins, by_orders, orders_show, stands}
use Rattle.sdm_cases.proofs.RideTrain.{ride_train, train_open, train_slopes}
use Rattle.sdm_cases.proofs.StopCases.{plain_slopes}

-- ---- the train and its readings

abbrev line : TrainAndTrack
line = ride_train (pos 10_000) to_the_end (pos 0) (pos 10) (pos 0)

abbrev authority : Authority
authority = Stop 100_000 100_000 0

-- a reading each 0.5 s, orders that stand at once, and a brake that works 0.5 s later
abbrev delays : Delays
delays = record { period = 5; latency = 0; cut_off = 0; build_up = 5 }

-- at 500, 515 and 530 m
abbrev first : OdometerReading
first = reading_at 0 (pos 270_000_000_000_000) 1_620_000

abbrev second : OdometerReading
second = reading_at 5 (pos 278_100_000_000_000) 1_620_000

abbrev third : OdometerReading
third = reading_at 10 (pos 286_200_000_000_000) 1_620_000

abbrev before : Supervision
before = opening line authority

abbrev at_500_m : Supervision
at_500_m = after_reading before first

abbrev at_515_m : Supervision
at_515_m = after_reading at_500_m second

abbrev at_530_m : Supervision
at_530_m = after_reading at_515_m third

-- the rows, by their columns of `covered` and of the emergency brake; the third is in target speed monitoring
record AreItsRows : Type 0 where
  first_covered : (row_of before first).covered ≡ true
  first_free : (row_of before first).held.eb ≡ false
  second_covered : (row_of at_500_m second).covered ≡ true
  second_free : (row_of at_500_m second).held.eb ≡ false
  third_uncovered : (row_of at_515_m third).covered ≡ false
  third_braked : (row_of at_515_m third).held.eb ≡ true

-- ---- what happens

-- 0.5 s at 30 m/s
abbrev runs : Happening
runs = Tick 1_620_000 1_620_000_000_000

abbrev half_a_second : List Happening
half_a_second = runs ∷ runs ∷ runs ∷ runs ∷ runs ∷ []

-- 0.5 s of braking with 1 m/s², and a missing reading
abbrev brakes : ℕ → List Happening → List Happening
brakes v rest =
    Tick (v - 5_400) (500_000 * (v + (v - 5_400))) ∷ Tick (v - 10_800) (500_000 * ((v - 5_400) + (v - 10_800)))
    ∷ Tick (v - 16_200) (500_000 * ((v - 10_800) + (v - 16_200))) ∷ Tick (v - 21_600) (500_000 * ((v - 16_200) + (v - 21_600)))
    ∷ Tick (v - 27_000) (500_000 * ((v - 21_600) + (v - 27_000))) ∷ Overdue ∷ rest

-- so many times 0.5 s of it
abbrev braking : ℕ → ℕ → List Happening
braking zero v = []
braking (suc n) v = brakes v (braking n (v - 27_000))

abbrev from_third : List Happening
from_third = half_a_second ++ Overdue ∷ braking 60 1_620_000

abbrev happenings : List Happening
happenings =
    Record (record_kinds.Read first) ∷ (half_a_second ++ Record (record_kinds.Read second)
    ∷ (half_a_second ++ Record (record_kinds.Read third) ∷ from_third))

abbrev start : Moment
start = begins before (pos 270_000_000_000_000) 1_620_000 None

held : (under : Supervision) (r : OdometerReading) → under.train_and_track ≡ line → r.accel ≡ pos 0 →
    HoldsDelays delays (promised under r)
unfolding ride_train plain_train_and_track plain_national reaction_times
held under r d slow = rw (d, slow) (record { traction = λ lower. absurd (omega (arith, lower)); emergency = omega arith })

-- ---- the ride

abbrev rule : Promise → Moment → ℕ → ℕ → Type 0
rule = IsByTimelyOrders delays 1

first_given : AreItsRows → IsGiven by_rows before first
first_given rows = record {
  is_open = train_open (pos 10_000) to_the_end (pos 0) (pos 10) (pos 0) authority;
  is_first = refl;
  promises = rows.first_covered;
  orders = rw (rows.first_covered, rows.first_free) refl;
}

second_renewed : AreItsRows → IsRenewed by_rows at_500_m second
unfolding after_reading reading_at
second_renewed rows = record {
  in_time = refl;
  promises = rows.second_covered;
  orders = rw (rows.second_covered, rows.second_free) refl;
}

third_ordering : AreItsRows → IsOrdering by_rows at_515_m third
unfolding after_reading reading_at
third_ordering rows = record {
  in_time = refl;
  promises = rows.third_uncovered;
  orders = rw (rows.third_braked) refl;
}

-- before the second and before the third reading, and the last moment
abbrev before_second : Moment
before_second = stands (promised before first) at_500_m (pos 278_100_000_000_000) 1_620_000 5 5 None

abbrev before_third : Moment
before_third = stands (promised at_500_m second) at_515_m (pos 286_200_000_000_000) 1_620_000 5 5 None

abbrev at_995_m : Moment
at_995_m = stands (promised at_500_m second) at_530_m (pos 537_300_000_000_000) 0 0 310 (Some 305)

module _ (rows : AreItsRows) where
  from_the_third : IsRide by_rows rule 1 before_third (Record (record_kinds.Read third) ∷ from_third)
  unfolding after_reading reading_at ride_train plain_train_and_track plain_national reaction_times plain_slopes
  from_the_third =
      let c = promised at_500_m second in
      let e = to_ordering by_rows c at_515_m third (pos 286_200_000_000_000) 1_620_000 5 5 None (third_ordering rows) in (
        λ promises. record { front = omega (arith, ints); speed = omega arith },
        subst (λ (m : Moment). IsRide by_rows rule 1 m from_third) (sym e)
            (rides by_rows rule 1 (by_orders delays 1) c
            (orders_show delays 1 c (train_slopes (pos 10_000) to_the_end (pos 0) (pos 10) (pos 0) Safe) (held at_500_m second refl refl))
            from_third at_530_m (pos 286_200_000_000_000) 1_620_000 0 5 (Some 0) refl),
      )

  from_the_second : IsRide by_rows rule 1 before_second
      (Record (record_kinds.Read second) ∷ (half_a_second ++ Record (record_kinds.Read third) ∷ from_third))
  unfolding after after_reading reading_at ride_train plain_train_and_track plain_national reaction_times plain_slopes
  from_the_second =
      let c = promised at_500_m second in
      let rest = Record (record_kinds.Read third) ∷ from_third in
      let m = stands c at_515_m (pos 278_100_000_000_000) 1_620_000 0 0 None in
      let e = to_renewed by_rows (promised before first) at_500_m second (pos 278_100_000_000_000) 1_620_000 5 5 None
      (second_renewed rows) in (
        λ promises. record { front = omega (arith, ints); speed = omega arith },
        subst (λ (m : Moment). IsRide by_rows rule 1 m (half_a_second ++ rest)) (sym e)
            (rides_then by_rows rule 1 half_a_second m rest
            (rides by_rows rule 1 (by_orders delays 1) c
            (orders_show delays 1 c (train_slopes (pos 10_000) to_the_end (pos 0) (pos 10) (pos 0) Safe) (held at_500_m second refl refl))
            half_a_second at_515_m (pos 278_100_000_000_000) 1_620_000 0 0 None refl) from_the_third),
      )

  -- A RIDE: all that the law of rides asks for is true of it
  a_ride : IsRide by_rows rule 1 start happenings
  unfolding after reading_at ride_train plain_train_and_track plain_national reaction_times plain_slopes
  a_ride =
      let c = promised before first in
      let rest = Record (record_kinds.Read second) ∷ (half_a_second ++ Record (record_kinds.Read third) ∷ from_third) in
      let m = stands c at_500_m (pos 270_000_000_000_000) 1_620_000 0 0 None in
      let e = to_given by_rows before first (pos 270_000_000_000_000) 1_620_000 None (first_given rows) in (
        λ promises. record { front = omega (arith, ints); speed = omega arith },
        subst (λ (m : Moment). IsRide by_rows rule 1 m (half_a_second ++ rest)) (sym e)
            (rides_then by_rows rule 1 half_a_second m rest
            (rides by_rows rule 1 (by_orders delays 1) c
            (orders_show delays 1 c (train_slopes (pos 10_000) to_the_end (pos 0) (pos 10) (pos 0) Safe) (held before first refl refl))
            half_a_second at_500_m (pos 270_000_000_000_000) 1_620_000 0 0 None refl) from_the_second),
      )

  ends : last_moment by_rows start happenings ≡ at_995_m
  unfolding after
  ends =
      ap (λ (m : Moment). last_moment by_rows m (half_a_second ++ Record (record_kinds.Read second)
      ∷ (half_a_second ++ Record (record_kinds.Read third) ∷ from_third)))
      (to_given by_rows before first (pos 270_000_000_000_000) 1_620_000 None (first_given rows))
      ∙ ap (λ (m : Moment). last_moment by_rows m (half_a_second ++ Record (record_kinds.Read third) ∷ from_third))
      (to_renewed by_rows (promised before first) at_500_m second (pos 278_100_000_000_000) 1_620_000 5 5 None
      (second_renewed rows))
      ∙ ap (λ (m : Moment). last_moment by_rows m from_third)
      (to_ordering by_rows (promised at_500_m second) at_515_m third (pos 286_200_000_000_000) 1_620_000 5 5 None
      (third_ordering rows))
      ∙ refl

  -- and by the law it ends at or before the SvL of the second reading, at 1000 m
  stops_by_law : LawOfRides → pos 537_300_000_000_000 ≤ℤ pos 540_000_000_000_000
  unfolding after_reading
  stops_by_law law =
      let P = KeepsPromise IsAsCovered 1 in
      let all = law.rows delays 1 start happenings (omega arith)
      (record { is_open = train_open (pos 10_000) to_the_end (pos 0) (pos 10) (pos 0) authority; none = refl })
      a_ride in
      let kept = subst P ends (at_the_end by_rows P start (Record (record_kinds.Read first)) (half_a_second
      ++ Record (record_kinds.Read second) ∷ (half_a_second ++ Record (record_kinds.Read third) ∷ from_third)) all)
      (aged_by (promised at_500_m second) 310) refl in
      let by = kept.stops 100_000 100_000 0 refl in
      omega (arith, ints, by)
