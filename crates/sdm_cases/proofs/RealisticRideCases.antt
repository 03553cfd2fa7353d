-- The train of examples/realistic runs over its gradients at 40 m/s, with a reading each 2.5 s. Its two rows are covered
-- and leave the brakes off; what they are is taken as `run` writes it. Then a reading is missing, and the brake is
-- ordered: by then the promise has stood for 2.5 s, and the brake works within 0.5 s.
use Rattle.std.proofs.Common.{◌≡◌, ℕ, zero, suc, pos, true, false, List, [], ◌∷◌, ◌++◌, ◌∙◌, refl, subst, sym, ap}
use Rattle.std.proofs.Common.{◌≤ℤ◌, arith}
use Rattle.std.specs.Prelude.{Some, None}
use Rattle.std.proofs.lemmas.Int.{ints}
use Rattle.sdm_num.specs.Readings.{OdometerReading, reading_of}
use Rattle.sdm_rules.specs.declared.records.Event.TheVariants as record_kinds
use Rattle.sdm_rules.specs.Reaction.{reaction_times}
use Rattle.sdm_rules.specs.Supervision.{Supervision, after_reading, opening, row_of}
use Rattle.sdm_ride.specs.Happenings.{Happening, Record, Overdue, Tick}
use Rattle.sdm_ride.specs.Moments.{Moment, Promise, after, by_rows}
use Rattle.sdm_ride.specs.MotionRides.{last_moment}
use Rattle.sdm_ride.specs.Rides.{Delays, HoldsDelays, IsByTimelyOrders, IsRide}
use Rattle.sdm_ride.specs.RideLaws.{IsAsCovered, KeepsPromise, LawOfRides}
use Rattle.sdm_cases.proofs.OverGradientCases.{realistic_end, realistic_line, realistic_open}
use Rattle.sdm_cases.proofs.RideSteps.{IsGiven, IsRenewed, at_the_end, promised, rides, rides_then, to_given}
use Rattle.sdm_cases.proofs.RideSteps.{to_renewed}
use Rattle.sdm_cases.proofs.TickTests.{aged_by, begins, stands, unbraked, unbraked_shows}

-- ---- the readings

-- the front ends are known to 5 m, the speed to 0.5 m/s
unfoldable first : OdometerReading
first = reading_of 0 (pos 3_300_000) (pos 3_295_000) (pos 3_305_000) 40_000 (pos 0) 500

unfoldable second : OdometerReading
second = reading_of 25 (pos 3_400_000) (pos 3_395_000) (pos 3_405_000) 40_000 (pos 0) 500

abbrev before : Supervision
before = opening realistic_line realistic_end

abbrev between : Supervision
between = after_reading before first

abbrev later : Supervision
later = after_reading between second

-- the rows, by their columns of `covered` and of the emergency brake
record AreItsRows : Type 0 where
  first_covered : (row_of before first).covered ≡ true
  first_free : (row_of before first).held.eb ≡ false
  second_covered : (row_of between second).covered ≡ true
  second_free : (row_of between second).held.eb ≡ false

-- ---- what happens

-- a reading each 2.5 s, orders that stand after 0.1 s, and a brake that works 0.4 s later: the 3 s of `emergency_time`
abbrev delays : Delays
delays = record { period = 25; latency = 1; cut_off = 1; build_up = 4 }

-- a ds at 40 m/s
abbrev runs : ℕ → List Happening → List Happening
runs zero rest = rest
runs (suc n) rest = Tick 2_160_000 2_160_000_000_000 ∷ runs n rest

abbrev from_second : List Happening
from_second = runs 25 (Overdue ∷ runs 5 [])

abbrev happenings : List Happening
happenings = Record (record_kinds.Read first) ∷ (runs 25 [] ++ Record (record_kinds.Read second) ∷ from_second)

-- the true front end is at the estimated one
abbrev start : Moment
start = begins before (pos 1_782_000_000_000_000) 2_160_000 None

held : (under : Supervision) (r : OdometerReading) → under.train_and_track ≡ realistic_line → r.accel ≡ pos 0 →
    HoldsDelays delays (promised under r)
unfolding realistic_line reaction_times
held under r d slow = rw (d, slow) (record { traction = λ lower. absurd (omega (arith, lower)); emergency = omega arith })

-- ---- the ride

abbrev rule : Promise → Moment → ℕ → ℕ → Type 0
rule = IsByTimelyOrders delays 1

first_given : AreItsRows → IsGiven by_rows before first
first_given rows = record {
  is_open = realistic_open;
  is_first = refl;
  promises = rows.first_covered;
  orders = rw (rows.first_covered, rows.first_free) refl;
}

second_renewed : AreItsRows → IsRenewed by_rows between second
unfolding after_reading first second
second_renewed rows = record {
  in_time = refl;
  promises = rows.second_covered;
  orders = rw (rows.second_covered, rows.second_free) refl;
}

abbrev before_second : Moment
before_second = stands (promised before first) between (pos 1_836_000_000_000_000) 2_160_000 25 25 None

-- 0.5 s after the order, 120 m further on
abbrev at_the_brake : Moment
at_the_brake = stands (promised between second) later (pos 1_900_800_000_000_000) 2_160_000 5 30 (Some 5)

module _ (rows : AreItsRows) where
  from_the_second : IsRide by_rows rule 1 before_second (Record (record_kinds.Read second) ∷ from_second)
  unfolding after_reading second realistic_line reaction_times
  from_the_second =
      let c = promised between second in
      let e = to_renewed by_rows (promised before first) between second (pos 1_836_000_000_000_000) 2_160_000 25 25 None
      (second_renewed rows) in (
        λ promises. record { front = omega (arith, ints); speed = omega arith },
        subst (λ (m : Moment). IsRide by_rows rule 1 m from_second) (sym e)
            (rides by_rows rule 1 (unbraked delays 1) c (unbraked_shows delays 1 c (held between second refl refl)) from_second
            later (pos 1_836_000_000_000_000) 2_160_000 0 0 None refl),
      )

  -- A RIDE: all that the law of rides asks for is true of it
  a_ride : IsRide by_rows rule 1 start happenings
  unfolding after first realistic_line reaction_times
  a_ride =
      let c = promised before first in
      let rest = Record (record_kinds.Read second) ∷ from_second in
      let m = stands c between (pos 1_782_000_000_000_000) 2_160_000 0 0 None in
      let e = to_given by_rows before first (pos 1_782_000_000_000_000) 2_160_000 None (first_given rows) in (
        λ promises. record { front = omega (arith, ints); speed = omega arith },
        subst (λ (m : Moment). IsRide by_rows rule 1 m (runs 25 [] ++ rest)) (sym e)
            (rides_then by_rows rule 1 (runs 25 []) m rest
            (rides by_rows rule 1 (unbraked delays 1) c (unbraked_shows delays 1 c (held before first refl refl)) (runs 25 [])
            between (pos 1_782_000_000_000_000) 2_160_000 0 0 None refl) from_the_second),
      )

  ends : last_moment by_rows start happenings ≡ at_the_brake
  unfolding after
  ends =
      ap (λ (m : Moment). last_moment by_rows m (runs 25 [] ++ Record (record_kinds.Read second) ∷ from_second))
      (to_given by_rows before first (pos 1_782_000_000_000_000) 2_160_000 None (first_given rows))
      ∙ ap (λ (m : Moment). last_moment by_rows m from_second)
      (to_renewed by_rows (promised before first) between second (pos 1_836_000_000_000_000) 2_160_000 25 25 None
      (second_renewed rows))
      ∙ refl

  -- and by the law it is then at or before the SvL of the second reading, at 5050 m
  kept_by_law : LawOfRides → pos 1_900_800_000_000_000 ≤ℤ pos 2_727_000_000_000_000
  unfolding after_reading
  kept_by_law law =
      let P = KeepsPromise IsAsCovered 1 in
      let all = law.rows delays 1 start happenings (omega arith) (record { is_open = realistic_open; none = refl }) a_ride in
      let kept = subst P ends (at_the_end by_rows P start (Record (record_kinds.Read first)) (runs 25 []
      ++ Record (record_kinds.Read second) ∷ from_second) all) (aged_by (promised between second) 30) refl in
      let by = kept.stops 500_000 505_000 0 refl in
      omega (arith, ints, by)
