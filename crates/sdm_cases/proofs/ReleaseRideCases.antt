-- There are rides in release speed monitoring: EOA at 9.6 m, SvL at 10 m, a release speed of 1 km/h. With readings of at
-- most 7 cm the trip place is at 9.67 m, for which 2 km/h are calculated, so the train may be 1 km/h faster than it is
-- read to run. It is, from 9.67 m on, is tripped at the next reading, and stands 0.9 cm before the SvL.
use Rattle.std.proofs.Common.{◌≡◌, ℕ, ℤ, suc, pos, Bool, true, false, List, [], ◌∷◌, ◌+◌, ◌*◌, ◌<◌, ◌≤◌, ◌+ℤ◌}
use Rattle.std.proofs.Common.{◌≤ℤ◌, refl, subst, sym, ap, ◌∙◌, arith}
use Rattle.std.specs.Prelude.{All, map, IsTrue, Ok, Option, Some, None, ⊤, not, ◌&&◌, ◌||◌}
use Rattle.std.specs.Prelude.{if◌then◌else◌}
use Rattle.std.proofs.lemmas.Bool.{false≢true}
use Rattle.std.proofs.lemmas.Int.{ints}
use Rattle.std.proofs.lemmas.Option.{none-some, same_Some}
use Rattle.std.proofs.lemmas.List.Elements.{All-nil, All-cons}
use Rattle.sdm_num.specs.Readings.{OdometerReading}
use Rattle.sdm_rules.specs.declared.authorities.Authority.{Authority}
use Rattle.sdm_rules.specs.declared.authorities.Authority.TheVariants.{Stop}
use Rattle.sdm_rules.specs.declared.data.SlopeKind.TheVariants.{Safe}
use Rattle.sdm_rules.specs.declared.records.Event.TheVariants as record_kinds
use Rattle.sdm_rules.specs.Cells.{place_of_cell}
use Rattle.sdm_rules.specs.Commands.{commands_after, emergency_after, nothing_held}
use Rattle.sdm_rules.specs.Curves.{place_at, corner, arc, stepped, arc_back, back}
use Rattle.sdm_rules.specs.Data.{TrainAndTrack}
use Rattle.sdm_rules.specs.Decelerations.{slope_at, slopes_of}
use Rattle.sdm_rules.specs.Limits.{computed, limits_of, release_start}
use Rattle.sdm_rules.specs.declared.motions.Point.{Point}
use Rattle.sdm_rules.specs.Motion.{BrakesAtLeast, IsStep}
use Rattle.sdm_rules.specs.Profile.{mrsp}
use Rattle.sdm_rules.specs.Reaction.{reaction_times}
use Rattle.sdm_rules.specs.Records.{step}
use Rattle.sdm_rules.specs.Release.{fits, t_be}
use Rattle.sdm_rules.specs.Supervision.{Supervision, after_reading, commands_in, is_covered_in, opening, row_in, row_of}
use Rattle.sdm_rules.specs.Supervision.{state_in}
use Rattle.sdm_rules.specs.Targets.{targets_of}
use Rattle.sdm_rules.specs.Triggers.{triggers_of}
use Rattle.sdm_ride.specs.Happenings.{Happening, Record, Overdue, Tick}
use Rattle.sdm_ride.specs.Moments.{by_rows, Judging, Moment, Promise, after, after_record, is_ordered}
use Rattle.sdm_ride.specs.Moments.{moments}
use Rattle.sdm_ride.specs.Orders.{judged_in}
use Rattle.sdm_ride.specs.Rides.{IsByOrders, IsByTimelyOrders, IsRide, IsTick, IsTrueReading, MayHappen}
use Rattle.sdm_ride.specs.Rides.{TickRule}
use Rattle.sdm_ride.specs.RideLaws.{IsNeverPast, KeepsPromise}
use Rattle.sdm_release_ride.specs.TripPlaces.{by_guarded, HasTripPlace, IsWithinBounds, TripBounds, by_release}
use Rattle.sdm_release_ride.specs.TripPlaces.{is_untripped, promises_svl}
use Rattle.sdm_release_ride.specs.ReleaseRideLaws.{AllJudged, EndsWithTripBy, IsGuardedRide, IsReleaseRide, KeepsBounds}
use Rattle.sdm_release_ride.specs.ReleaseRideLaws.{unpromised}
use Rattle.sdm_release_ride.specs.ReleaseRideLaws.{IsAsByRelease, LawOfCalculatedStops, LawOfGuardedPlaces}
use Rattle.sdm_release_ride.specs.ReleaseRideLaws.{LawOfReleasePlaces}
use Rattle.sdm_release_ride.specs.ReleaseRideLaws.{LawOfReleaseRides, LawOfSameTrains, LawOfTrips, StopsBefore}
use Rattle.sdm_release_ride.proofs.ReleaseEnds.{gives_promise}
use Rattle.sdm_release_ride.proofs.Trips.{not_past_eoa}
use Rattle.sdm_release_ride.proofs.TripSpeeds.{fits_within}
use Rattle.sdm_cases.proofs.Journeys.{plain_band, plain_national, plain_train_and_track}
use Rattle.sdm_cases.proofs.Openings.{opening_situation, situation_in, situation_with}
use Rattle.sdm_cases.proofs.RideLine.{braking_step, delays, delays_held, line_open_under, ride_line}
use Rattle.sdm_cases.proofs.StopCases.{plain_slopes}

abbrev pub line : TrainAndTrack
line = ride_line (pos 2) (pos 0)

abbrev pub ending : Authority
ending = Stop 960 1000 1

abbrev pub bounds : TripBounds
bounds = record { width = 7; excess = 15_000 }

-- ---- the trip place

two_fit : fits computed (slopes_of Safe line) (t_be line) (place_of_cell (pos 1000)) (place_of_cell (pos 967)) 2 ≡ true
unfolding ride_line plain_train_and_track plain_national plain_band slopes_of slope_at stepped place_at corner arc
    arc_back back
two_fit = refl

pub in_time : (reaction_times line).traction ≤ t_be line
unfolding ride_line plain_train_and_track plain_national reaction_times
in_time = omega arith

pub trip_place : HasTripPlace bounds line 960 1000 1
trip_place =
    let two = fits_within line 1000 967 2 (omega arith) two_fit in
    record { trip = 967; after_eoa = omega arith; by_svl = omega arith; slow = omega arith; in_time = in_time }

pub ends_by : EndsWithTripBy bounds line 1000 ending
ends_by = (omega arith, λ _. trip_place)

-- ---- readings at 1 km/h, which may be 1 km/h more

-- from the EOA to 7 cm past it
unfoldable pub first : OdometerReading
first = record {
  time = 0;
  est = pos 5_200_200_000_000;
  min = pos 5_184_000_000_000;
  max = pos 5_221_800_000_000;
  speed = 15_000;
  accel = pos 0;
  under = 15_000;
}

-- one of 8 cm, a centimetre more
unfoldable pub wide : OdometerReading
wide = record first { max = pos 5_227_200_000_000 }

-- one that may be 11 km/h more
unfoldable pub fast : OdometerReading
fast = record first { under = 165_000 }

-- from 1 cm to 41 cm past it
unfoldable pub second : OdometerReading
second = record {
  time = 1;
  est = pos 5_227_200_000_000;
  min = pos 5_189_400_000_000;
  max = pos 5_405_400_000_000;
  speed = 15_000;
  accel = pos 0;
  under = 15_000;
}

abbrev pub before_on : TrainAndTrack → Supervision
before_on d = opening d ending

abbrev pub between_on : TrainAndTrack → OdometerReading → Supervision
between_on d r = after_reading (before_on d) r

abbrev pub before : Supervision
before = before_on line

abbrev pub between : OdometerReading → Supervision
between r = between_on line r

first_untripped : is_untripped (row_of before first) ≡ true
unfolding ride_line plain_train_and_track plain_national plain_band first row_in situation_with targets_of mrsp
    is_covered_in state_in commands_in commands_after emergency_after triggers_of limits_of release_start
    reaction_times slopes_of slope_at stepped place_at corner arc arc_back back
first_untripped =
    ap (λ now. is_untripped (row_in line nothing_held first now)) (opening_situation line ending first) ∙ refl

pub first_within : IsWithinBounds bounds line first
unfolding ride_line plain_train_and_track plain_national first reaction_times
first_within = record { width = omega (arith, ints); excess = omega arith }

pub first_promises : promises_svl bounds before first ≡ true
first_promises =
    gives_promise bounds 1000 before first ends_by (λ _. first_within) first_untripped

-- and no brake is ordered
pub first_free : is_ordered (row_of before first) ≡ false
unfolding ride_line plain_train_and_track plain_national plain_band first row_in situation_with targets_of mrsp
    is_covered_in state_in commands_in commands_after emergency_after triggers_of limits_of release_start
    reaction_times slopes_of slope_at stepped place_at corner arc arc_back back
first_free = ap (λ now. is_ordered (row_in line nothing_held first now)) (opening_situation line ending first) ∙ refl

-- after any reading the second one is tripped
pub second_uncovered : (r : OdometerReading) → (row_of (between r) second).covered ≡ false
unfolding ride_line plain_train_and_track plain_national plain_band second row_in situation_with targets_of mrsp
    is_covered_in limits_of release_start reaction_times slopes_of slope_at stepped place_at corner arc arc_back back
    after_reading
second_uncovered r = ap (λ now. is_covered_in line second now) (situation_in (between r) second refl) ∙ refl

pub true_unless : (b : Bool) → (b ≡ false → ⊥) → b ≡ true
true_unless true h = refl
true_unless false h = absurd (h refl)

pub second_tripped : (r : OdometerReading) → (row_of (between r) second).held.eb ≡ true
unfolding after_reading second
second_tripped r = true_unless _ (λ eb.
    let low = not_past_eoa (between r) second 960 1000 1 refl eb in absurd (omega (arith, ints, low)))

pub no_promise : (covered state eb bounds trip : Bool) → covered ≡ false → eb ≡ true →
    (covered || (state && not eb && bounds && trip)) ≡ false
no_promise covered true eb bounds trip e f = rw (e, f) refl
no_promise covered false eb bounds trip e f = rw e refl

pub an_order : (eb rest : Bool) → eb ≡ true → (eb || rest) ≡ true
an_order eb rest e = rw e refl

-- ---- what happens

-- a ds at a speed in notches; from 30,000 on, 2 km/h, braking with 1 m/s²
abbrev pub runs : ℕ → Happening
runs v = Tick v (1_000_000 * v)

abbrev pub braked : List Happening
braked =
    Tick 24_600 27_300_000_000 ∷ Overdue ∷ Tick 19_200 21_900_000_000 ∷ Overdue ∷ Tick 13_800 16_500_000_000 ∷ Overdue
    ∷ Tick 8_400 11_100_000_000 ∷ Overdue ∷ Tick 3_000 5_700_000_000 ∷ Overdue ∷ Tick 0 833_333_333 ∷ []

abbrev pub happenings : OdometerReading → ℕ → List Happening → List Happening
happenings r v rest =
    Record (record_kinds.Read r) ∷ runs v ∷ Record (record_kinds.Read second) ∷ runs v ∷ Overdue ∷ runs v ∷ Overdue
    ∷ rest

-- a step of braking with 1 m/s² is one on the slopes of A_safe
abbrev pub Brakes : TrainAndTrack → Type 0
Brakes d =
    (x y : Point) → BrakesAtLeast plain_slopes 200_000_000_000 x.place x.square y.place y.square →
    IsStep (slopes_of Safe d) 1 x y

-- the promise of a reading, so many ticks ago
abbrev pub promised : TrainAndTrack → OdometerReading → ℕ → Promise
promised d r age = record { under = before_on d; reading = r; age = age }

-- what the orders make the train do is all that a rule asks while that promise stands
abbrev pub Allows : TrainAndTrack → OdometerReading → ℕ → TickRule → Type 0
Allows d r b rule =
    (age : ℕ) (m : Moment) (to length : ℕ) → IsByOrders (delays b) 1 (promised d r age) m to length →
    rule (promised d r age) m to length

-- from a train that brakes with 1 m/s² a ride of a judging, with a reading at a place that gives the first promise, and
-- a brake that works so many ds after its order stands at the interface
module _ (d : TrainAndTrack) (brakes : Brakes d) (j : Judging) (r : OdometerReading) (b : ℕ) (p : ℤ) (v : ℕ) where
  abbrev pub start : Moment
  start = record {
    supervision = before_on d;
    place = p;
    speed = v;
    silence = 0;
    order = None;
    promise = None;
  }

  -- a moment after the first reading
  abbrev pub moment : Supervision → ℤ → ℕ → ℕ → ℕ → Option ℕ → Moment
  moment s place speed silence age order = record {
    supervision = s;
    place = place;
    speed = speed;
    silence = silence;
    order = order;
    promise = Some (record { under = before_on d; reading = r; age = age });
  }

  abbrev later : Supervision
  later = after_reading (between_on d r) second

  -- happenings with the moments that they lead to
  abbrev pub AreSteps : Moment → List Happening → List Moment → Type 0
  AreSteps m [] [] = ⊤
  AreSteps m [] (n ∷ ns) = ⊥
  AreSteps m (h ∷ hs) [] = ⊥
  AreSteps m (h ∷ hs) (n ∷ ns) = (after j m h ≡ n) × AreSteps n hs ns

  abbrev pub AreHolding : (Moment → Happening → Type 0) → Moment → List Happening → List Moment → Type 0
  AreHolding P m [] ns = ⊤
  AreHolding P m (h ∷ hs) [] = ⊥
  AreHolding P m (h ∷ hs) (n ∷ ns) = P m h × AreHolding P n hs ns

  pub are_moments : (m : Moment) (hs : List Happening) (ns : List Moment) → AreSteps m hs ns → moments j m hs ≡ ns
  are_moments m [] [] steps = refl
  are_moments m (h ∷ hs) (n ∷ ns) steps =
      ap (λ (x : Moment). x ∷ moments j x hs) steps.0 ∙ ap (λ (xs : List Moment). n ∷ xs) (are_moments n hs ns steps.1)
  are_moments m [] (n ∷ ns) steps = absurd steps
  are_moments m (h ∷ hs) [] steps = absurd steps

  -- the moments
  abbrev on : ℤ → ℤ
  on q = q +ℤ pos (1_000_000 * v)

  abbrev q1 : ℤ → ℤ
  q1 q = q +ℤ pos 27_300_000_000

  abbrev q2 : ℤ → ℤ
  q2 q = q1 q +ℤ pos 21_900_000_000

  abbrev q3 : ℤ → ℤ
  q3 q = q2 q +ℤ pos 16_500_000_000

  abbrev q4 : ℤ → ℤ
  q4 q = q3 q +ℤ pos 11_100_000_000

  abbrev q5 : ℤ → ℤ
  q5 q = q4 q +ℤ pos 5_700_000_000

  abbrev q6 : ℤ → ℤ
  q6 q = q5 q +ℤ pos 833_333_333

  abbrev pub halts : Supervision → ℤ → ℕ → ℕ → List Moment
  halts s q age o =
      moment s (q1 q) 24_600 1 (suc age) (Some (suc o))
      ∷ moment s (q1 q) 24_600 0 (suc age) (Some (suc o))
      ∷ moment s (q2 q) 19_200 1 (suc (suc age)) (Some (suc (suc o)))
      ∷ moment s (q2 q) 19_200 0 (suc (suc age)) (Some (suc (suc o)))
      ∷ moment s (q3 q) 13_800 1 (suc (suc (suc age))) (Some (suc (suc (suc o))))
      ∷ moment s (q3 q) 13_800 0 (suc (suc (suc age))) (Some (suc (suc (suc o))))
      ∷ moment s (q4 q) 8_400 1 (suc (suc (suc (suc age)))) (Some (suc (suc (suc (suc o)))))
      ∷ moment s (q4 q) 8_400 0 (suc (suc (suc (suc age)))) (Some (suc (suc (suc (suc o)))))
      ∷ moment s (q5 q) 3_000 1 (suc (suc (suc (suc (suc age))))) (Some (suc (suc (suc (suc (suc o))))))
      ∷ moment s (q5 q) 3_000 0 (suc (suc (suc (suc (suc age))))) (Some (suc (suc (suc (suc (suc o))))))
      ∷ moment s (q6 q) 0 1 (suc (suc (suc (suc (suc (suc age)))))) (Some (suc (suc (suc (suc (suc (suc o)))))))
      ∷ []

  abbrev pub to_the_stop : ℤ → ℕ → ℕ → List Moment
  to_the_stop q age o = halts later q age o

  abbrev pub to_the_brake : List Moment → List Moment
  to_the_brake rest =
      moment (between_on d r) p v 0 0 None
      ∷ moment (between_on d r) (on p) v 1 1 None
      ∷ moment later (on p) v 0 1 (Some 0)
      ∷ moment later (on (on p)) v 1 2 (Some 1)
      ∷ moment later (on (on p)) v 0 2 (Some 1)
      ∷ moment later (on (on (on p))) v 1 3 (Some 2)
      ∷ moment later (on (on (on p))) v 0 3 (Some 2)
      ∷ rest

  -- what the readings do
  pub record AreJudged : Type 0 where
    pub taken : step (between_on d r) (record_kinds.Read second) ≡ Ok later
    pub gives : j.promises (before_on d) r ≡ true
    pub free : j.orders (before_on d) r ≡ false
    pub none : j.promises (between_on d r) second ≡ false
    pub orders : j.orders (between_on d r) second ≡ true

  pub halting : (s : Supervision) (q : ℤ) (age o : ℕ) →
      AreSteps (moment s q 30_000 0 age (Some o)) braked (halts s q age o)
  unfolding after
  halting s q age o = (refl, (refl, (refl, (refl, (refl, (refl, (refl, (refl, (refl, (refl, (refl, tt)))))))))))

  pub braking_steps : (q : ℤ) (age o : ℕ) →
      AreSteps (moment later q 30_000 0 age (Some o)) braked (to_the_stop q age o)
  braking_steps q age o = halting later q age o

  pub to_first : AreJudged → after j start (Record (record_kinds.Read r)) ≡ moment (between_on d r) p v 0 0 None
  unfolding after step
  to_first h =
      ap (λ (c : Bool). record {
        supervision = between_on d r;
        place = p;
        speed = v;
        silence = 0;
        order = if j.orders (before_on d) r then Some 0 else None;
        promise = if c then Some (record { under = before_on d; reading = r; age = 0 })
            else if j.orders (before_on d) r then None else None;
      }) h.gives
      ∙ ap (λ (c : Bool). moment (between_on d r) p v 0 0 (if c then Some 0 else None)) h.free

  to_second : AreJudged → after j (moment (between_on d r) (on p) v 1 1 None) (Record (record_kinds.Read second))
      ≡ moment later (on p) v 0 1 (Some 0)
  unfolding after
  to_second h =
      ap (λ t. after_record j (moment (between_on d r) (on p) v 1 1 None) (record_kinds.Read second) t) h.taken
      ∙ ap (λ (c : Bool). record {
        supervision = later;
        place = on p;
        speed = v;
        silence = 0;
        order = if j.orders (between_on d r) second then Some 0 else None;
        promise = if c then Some (record { under = between_on d r; reading = second; age = 0 })
            else if j.orders (between_on d r) second then Some (record { under = before_on d; reading = r; age = 1 })
            else None;
      }) h.none
      ∙ ap (λ (c : Bool). record {
        supervision = later;
        place = on p;
        speed = v;
        silence = 0;
        order = if c then Some 0 else None;
        promise = if c then Some (record { under = before_on d; reading = r; age = 1 }) else None;
      }) h.orders

  -- all the steps of the ride
  steps : AreJudged → (rest : List Happening) (ns : List Moment) →
      AreSteps (moment later (on (on (on p))) v 0 3 (Some 2)) rest ns →
      AreSteps start (happenings r v rest) (to_the_brake ns)
  unfolding after
  steps h rest ns later_on = (to_first h, (refl, (to_second h, (refl, (refl, (refl, (refl, later_on)))))))

  pub not_yet : (o : ℕ) → None ≡ Some o → o < 1 + b
  not_yet o e = absurd (none-some o e)

  pub still : (n : ℕ) → n < 1 + b → (o : ℕ) → Some n ≡ Some o → o < 1 + b
  still n lt o e = subst (λ k. k < 1 + b) (same_Some n o e) lt

  -- the readings are true
  pub record AreTrue : Type 0 where
    pub one : IsTrueReading 1 start r
    pub two : IsTrue (j.promises (between_on d r) second) →
        IsTrueReading 1 (moment (between_on d r) (on p) v 1 1 None) second

  -- by a rule that asks no more than the orders do
  module _ (rule : TickRule) (allows : Allows d r b rule) where
    abbrev pub May : Moment → Happening → Type 0
    May m h = MayHappen j rule 1 m h

    pub is_ride : (m : Moment) (hs : List Happening) (ns : List Moment) → AreSteps m hs ns → AreHolding May m hs ns →
        IsRide j rule 1 m hs
    is_ride m [] ns steps may = tt
    is_ride m (h ∷ hs) [] steps may = absurd may
    is_ride m (h ∷ hs) (n ∷ ns) steps may = (
      may.0,
      subst (λ (x : Moment). IsRide j rule 1 x hs) (sym steps.0)
          (is_ride n hs ns steps.1 may.1),
    )

    -- a tick of running, (before_on d) the brake works
    pub running : (s : Supervision) (q : ℤ) (age : ℕ) (order : Option ℕ) → ((o : ℕ) → order ≡ Some o → o < 1 + b) →
        May (moment s q v 0 age order) (runs v)
    running s q age order early = λ c e.
        subst (λ (c : Promise). rule c (moment s q v 0 age order) v (1_000_000 * v))
        (same_Some _ c e) (allows age _ _ _ (record {
          in_time = omega arith;
          traction = record { gains = omega arith; moves = omega arith };
          cut_off = λ o is long. record { gains = omega arith; moves = omega arith };
          brakes = λ o is long. absurd (omega (arith, early o is));
        }))

    -- a tick of braking
    braking : (s : Supervision) (q : ℤ) (v to length age : ℕ) (order : Option ℕ) → to ≤ v → IsTick 0 v to length →
        BrakesAtLeast plain_slopes 200_000_000_000 q (v * v) (q +ℤ pos length) (to * to) →
        May (moment s q v 0 age order) (Tick to length)
    braking s q v to length age order slower tick enough = λ c e.
        let moves = tick.moves in
        subst (λ (c : Promise). rule c (moment s q v 0 age order) to length)
        (same_Some _ c e) (allows age _ _ _ (record {
          in_time = omega arith;
          traction = record { gains = omega arith; moves = moves };
          cut_off = λ o is long. record { gains = omega arith; moves = moves };
          brakes = λ o is long. ([], brakes _ _ enough);
        }))

    pub halting_may : (s : Supervision) (q : ℤ) (age o : ℕ) → AreHolding May (moment s q 30_000 0 age (Some o)) braked
        (halts s q age o)
    unfolding plain_slopes
    halting_may s q age o = (
      braking s q 30_000 24_600 27_300_000_000 age (Some o) (omega arith)
          (record { gains = omega arith; moves = omega arith })
          (record { forward = omega (arith, ints); slower = omega arith; enough = omega (arith, ints) }),
      (
        tt,
        (
          braking s (q1 q) 24_600 19_200 21_900_000_000 (suc age) (Some (suc o)) (omega arith)
              (record { gains = omega arith; moves = omega arith })
              (record { forward = omega (arith, ints); slower = omega arith; enough = omega (arith, ints) }),
          (
            tt,
            (
              braking s (q2 q) 19_200 13_800 16_500_000_000 (suc (suc age)) (Some (suc (suc o))) (omega arith)
                  (record { gains = omega arith; moves = omega arith })
                  (record { forward = omega (arith, ints); slower = omega arith; enough = omega (arith, ints) }),
              (
                tt,
                (
                  braking s (q3 q) 13_800 8_400 11_100_000_000 (suc (suc (suc age))) (Some (suc (suc (suc o)))) (omega
                      arith)
                      (record { gains = omega arith; moves = omega arith })
                      (record { forward = omega (arith, ints); slower = omega arith; enough = omega (arith, ints) }),
                  (
                    tt,
                    (
                      braking s (q4 q) 8_400 3_000 5_700_000_000 (suc (suc (suc (suc age)))) (Some (suc (suc (suc (suc
                          o))))) (omega arith)
                          (record { gains = omega arith; moves = omega arith })
                          (record {
                            forward = omega (arith, ints);
                            slower = omega arith;
                            enough = omega (arith, ints);
                          }),
                      (
                        tt,
                        (
                          braking s (q5 q) 3_000 0 833_333_333 (suc (suc (suc (suc (suc age))))) (Some (suc (suc (suc
                              (suc (suc o)))))) (omega arith)
                              (record { gains = omega arith; moves = omega arith })
                              (record {
                                forward = omega (arith, ints);
                                slower = omega arith;
                                enough = omega (
                                  arith,
                                  ints,
                                );
                              }),
                          tt,
                        ),
                      ),
                    ),
                  ),
                ),
              ),
            ),
          ),
        ),
      ),
    )

    pub braking_may : (q : ℤ) (age o : ℕ) →
        AreHolding May (moment later q 30_000 0 age (Some o)) braked (to_the_stop q age o)
    braking_may q age o = halting_may later q age o

    may : AreTrue → 0 < b → (rest : List Happening) (ns : List Moment) →
        AreHolding May (moment later (on (on (on p))) v 0 3 (Some 2)) rest ns →
        AreHolding May start (happenings r v rest) (to_the_brake ns)
    may told b_pos rest ns later_on = (
      λ promises. told.one,
      (
        running (between_on d r) p 0 None not_yet,
        (
          told.two,
          (
            running later (on p) 1 (Some 0) (still 0 (omega arith)),
            (tt, (running later (on (on p)) 2 (Some 1) (still 1 (omega arith)), (tt, later_on))),
          ),
        ),
      ),
    )

    -- the ride, and its moments
    pub record IsWorked (rest : List Happening) (ns : List Moment) : Type 0 where
      pub steps_are : AreSteps start (happenings r v rest) (to_the_brake ns)
      pub moments_are : moments j start (happenings r v rest) ≡ to_the_brake ns
      pub ride : IsRide j rule 1 start (happenings r v rest)

    pub worked : AreJudged → AreTrue → 0 < b → (rest : List Happening) (ns : List Moment) →
        AreSteps (moment later (on (on (on p))) v 0 3 (Some 2)) rest ns →
        AreHolding May (moment later (on (on (on p))) v 0 3 (Some 2)) rest ns →
        IsWorked rest ns
    worked h told b_pos rest ns rest_steps rest_may =
        let all = steps h rest ns rest_steps in
        record {
          steps_are = all;
          moments_are = are_moments start (happenings r v rest) (to_the_brake ns) all;
          ride = is_ride start (happenings r v rest) (to_the_brake ns) all (may told b_pos rest ns rest_may);
        }

-- ---- the ride

-- the last of moments
abbrev pub last_of : List Moment → Moment → Moment
last_of [] m = m
last_of (n ∷ ns) m = last_of ns n

pub line_brakes : Brakes line
line_brakes x y brakes = braking_step (pos 2) (pos 0) x y brakes

-- by orders that work in time: the times that were handed in hold the delays
abbrev pub timely : TickRule
timely = IsByTimelyOrders (delays 1) 1

pub by_timely : (r : OdometerReading) → Allows line r 1 timely
by_timely r age m to length by = record { times = delays_held (pos 0) ending r age; orders = by }

abbrev pub here : ℤ
here = pos 5_221_800_000_000

pub second_true : (r : OdometerReading) → IsTrueReading 1
    (moment line line_brakes (by_release bounds) r 1 here 30_000 (between r) (pos 5_251_800_000_000) 30_000 1 1 None)
    second
unfolding after_reading ride_line plain_train_and_track plain_national second
second_true r = record { front = omega (arith, ints); speed = omega arith }

pub first_true : IsTrueReading 1 (start line line_brakes (by_release bounds) first 1 here 30_000) first
unfolding ride_line plain_train_and_track plain_national first
first_true = record { front = omega (arith, ints); speed = omega arith }

pub second_taken : step (between first) (record_kinds.Read second) ≡ Ok (after_reading (between first) second)
unfolding step after_reading first second
second_taken = refl

not_is : (b : Bool) → b ≡ true → not b ≡ false
not_is true e = refl
not_is false e = absurd (false≢true e)

pub or_right : (a b : Bool) → b ≡ true → (a || b) ≡ true
or_right true b e = refl
or_right false b e = e

pub judged : AreJudged line line_brakes (by_release bounds) first 1 here 30_000
judged = record {
  taken = second_taken;
  gives = or_right _ _ first_promises;
  free = first_free;
  none = no_promise _ _ _ _ _ (second_uncovered first) (second_tripped first);
  orders = an_order _ _ (second_tripped first);
}

abbrev pub its_start : Moment
its_start = start line line_brakes (by_release bounds) first 1 here 30_000

-- a moment of the ride
abbrev pub at_moment : Supervision → ℤ → ℕ → ℕ → ℕ → Option ℕ → Moment
at_moment = moment line line_brakes (by_release bounds) first 1 here 30_000

abbrev its_stop : List Moment
its_stop = to_the_stop line line_brakes (by_release bounds) first 1 here 30_000 (pos 5_311_800_000_000) 3 2

abbrev its_moments : List Moment
its_moments = to_the_brake line line_brakes (by_release bounds) first 1 here 30_000 its_stop

abbrev its_happenings : List Happening
its_happenings = happenings first 30_000 braked

it_is : IsWorked line line_brakes (by_release bounds) first 1 here 30_000 timely (by_timely first) braked its_stop
it_is =
    worked line line_brakes (by_release bounds) first 1 here 30_000 timely (by_timely first) judged (record {
      one = first_true;
      two = λ
          promises. second_true first;
    })
    (omega arith) braked its_stop (braking_steps line line_brakes (by_release bounds) first 1 here 30_000 (pos
    5_311_800_000_000) 3 2)
    (braking_may line line_brakes (by_release bounds) first 1 here 30_000 timely (by_timely first) (pos
    5_311_800_000_000) 3 2)

-- every authority is the first one
abbrev pub Ends : Moment → Type 0
Ends n = EndsWithTripBy bounds n.supervision.train_and_track 1000 n.supervision.authority

abbrev AllOf : (Moment → Type 0) → List Moment → Type 0
AllOf P [] = ⊤
AllOf P (n ∷ ns) = P n × AllOf P ns

pub all_of : (P : Moment → Type 0) (ns : List Moment) → AllOf P ns → All P ns
all_of P [] h = All-nil P
all_of P (n ∷ ns) h = All-cons P n ns h.0 (all_of P ns h.1)

its_authorities : All Ends (its_start ∷ moments (by_release bounds) its_start its_happenings)
unfolding after_reading
its_authorities =
    subst (λ (ns : List Moment). All Ends (its_start ∷ ns)) (sym it_is.moments_are)
    (all_of Ends (its_start ∷ its_moments) (
      ends_by,
      (
        ends_by,
        (
          ends_by,
          (
            ends_by,
            (
              ends_by,
              (
                ends_by,
                (
                  ends_by,
                  (
                    ends_by,
                    (
                      ends_by,
                      (
                        ends_by,
                        (
                          ends_by,
                          (
                            ends_by,
                            (
                              ends_by,
                              (
                                ends_by,
                                (
                                  ends_by,
                                  (
                                    ends_by,
                                    (
                                      ends_by,
                                      (
                                        ends_by,
                                        (ends_by, tt),
                                      ),
                                    ),
                                  ),
                                ),
                              ),
                            ),
                          ),
                        ),
                      ),
                    ),
                  ),
                ),
              ),
            ),
          ),
        ),
      ),
    ))

-- the first reading keeps the bounds, and no other one finds an untripped train
abbrev pub KeepsIn : Supervision → Happening → Type 0
KeepsIn s h = (r : OdometerReading) → judged_in s h ≡ Some r → KeepsBounds bounds s r

abbrev Keeps : Moment → Happening → Type 0
Keeps m h = KeepsIn m.supervision h

pub first_keeps : KeepsIn before (Record (record_kinds.Read first))
unfolding step
first_keeps = λ r e untripped. subst (λ (x : OdometerReading). IsWithinBounds bounds line x) (same_Some _ _ e)
    first_within

tripped_not : (state eb : Bool) → eb ≡ true → (state && not eb) ≡ true → ⊥
tripped_not state false e is = false≢true e
tripped_not true true e is = false≢true is
tripped_not false true e is = false≢true is

second_keeps : KeepsIn (between first) (Record (record_kinds.Read second))
unfolding step first second after_reading
second_keeps = λ r e untripped. absurd (tripped_not _ _ (second_tripped first)
    (subst (λ (x : OdometerReading). is_untripped (row_of (between first) x) ≡ true) (sym (same_Some _ _ e)) untripped))

pub keep_all : (m : Moment) (hs : List Happening) (ns : List Moment) → AreSteps line line_brakes (by_release bounds)
    first 1 here 30_000 m hs ns →
    AreHolding line line_brakes (by_release bounds) first 1 here 30_000 Keeps m hs ns → AllJudged (by_release bounds)
    (KeepsBounds bounds) m hs
keep_all m [] ns steps keeps = tt
keep_all m (h ∷ hs) [] steps keeps = absurd steps
keep_all m (h ∷ hs) (n ∷ ns) steps keeps = (
  keeps.0,
  subst (λ (x : Moment). AllJudged (by_release bounds) (KeepsBounds bounds) x hs) (sym steps.0) (keep_all
      n hs ns steps.1 keeps.1),
)

its_readings : AllJudged (by_release bounds) (KeepsBounds bounds) its_start its_happenings
its_readings =
    keep_all its_start its_happenings its_moments it_is.steps_are (
      first_keeps,
      (
        (λ r is untripped. absurd (none-some r is)),
        (
          second_keeps,
          (
            (λ r is untripped. absurd (none-some
                r is)),
            (
              (λ r is untripped. absurd (none-some r is)),
              (
                (λ r is untripped. absurd (none-some r is)),
                (
                  (λ r is
                      untripped. absurd (none-some r is)),
                  (
                    (λ r is untripped. absurd (none-some r is)),
                    (
                      (λ r is untripped. absurd
                          (none-some r is)),
                      (
                        (λ r is untripped. absurd (none-some r is)),
                        (
                          (λ r is untripped. absurd (none-some r is)),
                          (
                            (λ r is untripped. absurd (none-some r is)),
                            (
                              (λ r is untripped. absurd (none-some r is)),
                              (
                                (λ r is untripped.
                                    absurd (none-some r is)),
                                (
                                  (λ r is untripped. absurd (none-some r is)),
                                  (
                                    (λ r is untripped. absurd (none-some r
                                        is)),
                                    (
                                      (λ r is untripped. absurd (none-some r is)),
                                      (
                                        (λ r is untripped. absurd (none-some r is)),
                                        tt,
                                      ),
                                    ),
                                  ),
                                ),
                              ),
                            ),
                          ),
                        ),
                      ),
                    ),
                  ),
                ),
              ),
            ),
          ),
        ),
      ),
    )

-- A RIDE before 1000 cm: all that the law of places asks for is true of it
a_ride : IsReleaseRide bounds (delays 1) 1 1000 its_start its_happenings
a_ride = record {
  start = record { is_open = line_open_under (pos 2) (pos 0) ending; none = refl };
  ride = it_is.ride;
  authorities = its_authorities;
  readings = its_readings;
}

-- by the law its last moment, the nineteenth, is at or before 1000 cm
stops_by_law : LawOfReleasePlaces → (last_of its_moments its_start).place ≤ℤ pos 5_400_000_000_000
stops_by_law law =
    let all = subst (λ (ns : List Moment). IsNeverPast 1 1000 ns) it_is.moments_are
    (law bounds (delays 1) 1 1000 its_start its_happenings (omega arith) a_ride) in
    all 17 its_start (omega arith)

-- where it stands, 0.9 cm before the SvL
its_end : ((last_of its_moments its_start).place ≡ pos 5_395_133_333_333) × ((last_of its_moments its_start).speed ≡ 0)
its_end = (refl, refl)

-- by the law of rides that moment is as its promise says
kept_by_law : LawOfReleaseRides → (last_of its_moments its_start).place ≤ℤ pos 5_400_000_000_000
kept_by_law law =
    let all = subst (λ (ns : List Moment). All (KeepsPromise IsAsByRelease 1) ns) it_is.moments_are
    (law.by_orders bounds (delays 1) 1 its_start its_happenings (omega arith) a_ride.start it_is.ride) in
    let by = (all 17 its_start (omega arith) _ refl).stops 960 1000 1 refl in
    omega (arith, ints, by)

-- by the rows the ride has the same moments, but for what is promised
same_by_law : LawOfSameTrains →
    map unpromised (moments by_rows its_start its_happenings) ≡ map unpromised its_moments
same_by_law law =
    law bounds its_start its_happenings ∙ ap (λ (ns : List Moment). map unpromised ns) it_is.moments_are

-- at a train 41 cm past the EOA the second reading, of 40 cm, commands the emergency brake
tripped_by_law : LawOfTrips → (row_of (between first) second).held.eb ≡ true
unfolding after_reading second ride_line plain_train_and_track plain_national
tripped_by_law law =
    let m = record its_start { supervision = between first; place = pos 5_405_400_000_000 } in
    let told : IsTrueReading 1 m second = record { front = omega (arith, ints); speed = omega arith } in
    (law 1 m second 960 1000 1 refl told).place 40 (omega (arith, ints)) (omega (arith, ints))

-- after the record of a stop with a trip place at 9.67 m its release speed has one for readings of 7 cm
calculated_by_law : LawOfCalculatedStops → (t : Supervision) →
    step before (record_kinds.Calculated 960 1000 967) ≡ Ok t →
    (release : ℕ) × (t.authority ≡ Stop 960 1000 release)
    × HasTripPlace (record { width = 7; excess = 0 }) t.train_and_track 960 1000 release
calculated_by_law law t e =
    let h = law before t 960 1000 967 in_time e in (h.release, h.authority, h.has_trip 7 (omega arith))

-- GUARDED: the same ride
guarded_judged : AreJudged line line_brakes (by_guarded bounds) first 1 here 30_000
guarded_judged = record {
  taken = second_taken;
  gives = or_right _ _ first_promises;
  free = rw first_free (not_is _ (or_right _ _ first_promises));
  none = no_promise _ _ _ _ _ (second_uncovered first) (second_tripped first);
  orders = an_order _ _ (an_order _ _ (second_tripped first));
}

abbrev guarded_stop : List Moment
guarded_stop = to_the_stop line line_brakes (by_guarded bounds) first 1 here 30_000 (pos 5_311_800_000_000) 3 2

guarded_is : IsWorked line line_brakes (by_guarded bounds) first 1 here 30_000 timely (by_timely first) braked
    guarded_stop
guarded_is =
    worked line line_brakes (by_guarded bounds) first 1 here 30_000 timely (by_timely first) guarded_judged
    (record { one = first_true; two = λ promises. second_true first }) (omega arith) braked guarded_stop
    (braking_steps line line_brakes (by_guarded bounds) first 1 here 30_000 (pos 5_311_800_000_000) 3 2)
    (braking_may line line_brakes (by_guarded bounds) first 1 here 30_000 timely (by_timely first) (pos
    5_311_800_000_000) 3 2)

abbrev guarded_start : Moment
guarded_start = start line line_brakes (by_guarded bounds) first 1 here 30_000

abbrev guarded_moments : List Moment
guarded_moments = to_the_brake line line_brakes (by_guarded bounds) first 1 here 30_000 guarded_stop

abbrev Before : Moment → Type 0
Before n = StopsBefore 1000 n.supervision.authority

a_guarded_ride : IsGuardedRide bounds (delays 1) 1 1000 guarded_start its_happenings
unfolding after_reading
a_guarded_ride = record {
  start = record { is_open = line_open_under (pos 2) (pos 0) ending; none = refl };
  ride = guarded_is.ride;
  authorities =
      subst (λ (ns : List Moment). All Before (guarded_start ∷ ns)) (sym guarded_is.moments_are)
      (all_of Before (guarded_start ∷ guarded_moments) (
        omega arith,
        (
          omega arith,
          (
            omega arith,
            (
              omega arith,
              (
                omega
                    arith,
                (
                  omega arith,
                  (
                    omega arith,
                    (
                      omega arith,
                      (
                        omega arith,
                        (
                          omega arith,
                          (
                            omega arith,
                            (
                              omega arith,
                              (
                                omega
                                    arith,
                                (
                                  omega arith,
                                  (
                                    omega arith,
                                    (
                                      omega arith,
                                      (
                                        omega arith,
                                        (
                                          omega arith,
                                          (
                                            omega arith,
                                            tt,
                                          ),
                                        ),
                                      ),
                                    ),
                                  ),
                                ),
                              ),
                            ),
                          ),
                        ),
                      ),
                    ),
                  ),
                ),
              ),
            ),
          ),
        ),
      ));
}

guarded_by_law : LawOfGuardedPlaces → (last_of guarded_moments guarded_start).place ≤ℤ pos 5_400_000_000_000
guarded_by_law law =
    let all = subst (λ (ns : List Moment). IsNeverPast 1 1000 ns) guarded_is.moments_are
    (law bounds (delays 1) 1 1000 guarded_start its_happenings (omega arith) a_guarded_ride) in
    all 17 guarded_start (omega arith)
