-- What the laws of rides beside a computer say of the ride of RideLawCases, which is at scale 2.
use Rattle.std.proofs.Common.{pos, true, List, ◌≤ℤ◌, refl, subst, arith}
use Rattle.std.specs.Prelude.{All, Some}
use Rattle.std.proofs.lemmas.Int.{ints}
use Rattle.sdm_rules.specs.declared.data.SlopeKind.TheVariants.{Safe}
use Rattle.sdm_rules.specs.declared.records.Event.TheVariants as record_kinds
use Rattle.sdm_rules.specs.Cells.{place_of_cell}
use Rattle.sdm_rules.specs.Motion.{IsBy}
use Rattle.sdm_ride.specs.ComputerRides.{AreKeptBeside, IsRideBeside, LawOfComputerPlaces, LawOfComputerRides}
use Rattle.sdm_ride.specs.ComputerRides.{StaysBeforeBeside}
use Rattle.sdm_ride.specs.Happenings.{Record}
use Rattle.sdm_ride.specs.Moments.{Judging, Moment, by_free_rows, by_rows, by_svl}
use Rattle.sdm_ride.specs.Orders.{Computer}
use Rattle.sdm_ride.specs.Rides.{IsByTimelyOrders, point_of}
use Rattle.sdm_ride.specs.RideLaws.{EndsBy, IsAsCovered, IsAsFree, IsByItsSvl, IsNeverPast, KeepsPromise, Promised}
use Rattle.sdm_cases.proofs.ComputerSteps.{all_go_on, all_hold, from_reading, holds, moments_are, rides_beside}
use Rattle.sdm_cases.proofs.RideLawCases.{at_the_svl, before, braking, delays, ends_by, first_promise}
use Rattle.sdm_cases.proofs.RideLawCases.{gaining, given_by_free_rows, given_by_rows, given_by_svl, held, is_start, is_true}
use Rattle.sdm_cases.proofs.RideLawCases.{its_promise, may_stop, reading, start, to_the_end, to_the_svl, up_to_the_svl}
use Rattle.sdm_cases.proofs.RideSteps.{IsGiven, at_the_end, never_past}
use Rattle.sdm_cases.proofs.TickTests.{aged_by, by_orders, orders_show}
use Rattle.sdm_cases.proofs.RideTrain.{train_slopes}

abbrev computers : List Computer
computers = from_reading before reading (gaining braking)

-- where the train stands, by the law of rides beside a computer, and by the law of places
module _ (j : Judging) (given : IsGiven j before reading) where
  beside_it : IsRideBeside j (IsByTimelyOrders delays 2) 2 start up_to_the_svl computers
  beside_it =
      rides_beside j (IsByTimelyOrders delays 2) 2 (by_orders delays 2) before reading (pos 20_776_607_999_999) 21_600 (Some 3)
      (gaining braking) given is_true
      (orders_show delays 2 its_promise (train_slopes (pos 100) to_the_end (pos 3) (pos 5) (pos 0) Safe) held) may_stop

  kept_at_the_svl : (what : Promised) → AreKeptBeside j what → what 2 before reading (point_of at_the_svl)
  kept_at_the_svl what law =
      let P = KeepsPromise what 2 in
      let all = law delays 2 start (holds before true) up_to_the_svl computers (omega arith) is_start refl
      (all_go_on j (by_orders delays 2) before reading (pos 20_776_607_999_999) 21_600 (gaining braking) given may_stop)
      beside_it in
      let same = moments_are j (by_orders delays 2) before reading (pos 20_776_607_999_999) 21_600 (Some 3)
      (gaining braking) given may_stop in
      subst P (to_the_svl j given)
      (at_the_end j P start (Record (record_kinds.Read reading)) (gaining braking)
      (subst (λ (ms : List Moment). All P ms) same all)) (aged_by its_promise 22) refl

  placed_at_the_svl : StaysBeforeBeside j → IsBy 2 (place_of_cell (pos 1000)) (point_of at_the_svl)
  placed_at_the_svl law =
      let all = law delays 2 1000 start (holds before true) up_to_the_svl computers (omega arith) is_start refl
      (all_go_on j (by_orders delays 2) before reading (pos 20_776_607_999_999) 21_600 (gaining braking) given may_stop)
      beside_it
      (all_hold (λ s. EndsBy 1000 s.authority) before reading (gaining braking) (omega arith, refl) ends_by) in
      let same = moments_are j (by_orders delays 2) before reading (pos 20_776_607_999_999) 21_600 (Some 3)
      (gaining braking) given may_stop in
      subst (λ (n : Moment). IsBy 2 (place_of_cell (pos 1000)) (point_of n)) (to_the_svl j given)
      (never_past j 2 1000 start (Record (record_kinds.Read reading)) (gaining braking) its_promise (first_promise j given)
      (subst (λ (ms : List Moment). IsNeverPast 2 1000 ms) same all))

stops_beside_by_rows : LawOfComputerRides → at_the_svl.place ≤ℤ pos 21_600_000_000_000
stops_beside_by_rows law =
    let by = (kept_at_the_svl by_rows given_by_rows IsAsCovered law.rows).stops 1000 1000 0 refl in omega (arith, ints, by)

stops_beside_by_free_rows : LawOfComputerRides → at_the_svl.place ≤ℤ pos 21_600_000_000_000
stops_beside_by_free_rows law =
    let kept = kept_at_the_svl by_free_rows given_by_free_rows IsAsFree law.free_rows in
    let by = kept.covered.stops 1000 1000 0 refl in omega (arith, ints, by)

stops_beside_by_svl : LawOfComputerRides → at_the_svl.place ≤ℤ pos 21_600_000_000_000
stops_beside_by_svl law =
    let by = kept_at_the_svl by_svl given_by_svl IsByItsSvl law.svl 1000 1000 0 refl in omega (arith, ints, by)

never_past_beside : LawOfComputerPlaces → at_the_svl.place ≤ℤ pos 21_600_000_000_000
never_past_beside law =
    let rows = placed_at_the_svl by_rows given_by_rows law.rows in
    let free = placed_at_the_svl by_free_rows given_by_free_rows law.free_rows in
    let svl = placed_at_the_svl by_svl given_by_svl law.svl in
    omega (arith, ints, rows, free, svl)
