-- A ride in release speed monitoring at scale 2, where a tick is 0.05 s: the train of `ReleaseRideCases` has its first
-- reading, and then readings are missing. It runs on at 2 km/h until the brake works, and stands 0.9 cm before the SvL.
use Rattle.std.proofs.Common.{◌≡◌, ℕ, ℤ, pos, Bool, true, false, List, [], ◌∷◌, ◌+◌, ◌*◌, ◌<◌, ◌≤◌, ◌+ℤ◌, ◌≤ℤ◌}
use Rattle.std.proofs.Common.{refl, subst, sym, ap, ◌∙◌, arith}
use Rattle.std.specs.Prelude.{All, Option, Some, None, ⊤, ◌||◌, if◌then◌else◌}
use Rattle.std.proofs.lemmas.Int.{ints}
use Rattle.std.proofs.lemmas.Option.{none-some, same_Some}
use Rattle.std.proofs.lemmas.List.Elements.{All-nil, All-cons}
use Rattle.sdm_num.specs.Readings.{OdometerReading}
use Rattle.sdm_rules.specs.declared.data.SlopeKind.TheVariants.{Safe}
use Rattle.sdm_rules.specs.declared.motions.Point.{Point}
use Rattle.sdm_rules.specs.declared.records.Event.TheVariants as record_kinds
use Rattle.sdm_rules.specs.Decelerations.{slopes_of}
use Rattle.sdm_rules.specs.Motion.{BrakesAtLeast, IsStep}
use Rattle.sdm_rules.specs.Records.{step}
use Rattle.sdm_rules.specs.Slopes.{Slopes}
use Rattle.sdm_rules.specs.Supervision.{after_reading, row_of}
use Rattle.sdm_ride.specs.Happenings.{Happening, Record, Unread, Overdue, Change, Tick}
use Rattle.sdm_ride.specs.Moments.{Moment, Promise, after, is_ordered, moments}
use Rattle.sdm_ride.specs.Orders.{judged_in}
use Rattle.sdm_ride.specs.Rides.{IsByTimelyOrders, IsRide, IsTrueReading, MayHappen}
use Rattle.sdm_ride.specs.RideLaws.{IsNeverPast}
use Rattle.sdm_release_ride.specs.TripPlaces.{IsWithinBounds, by_release, promises_svl}
use Rattle.sdm_release_ride.specs.ReleaseRideLaws.{AllJudged, EndsWithTripBy, IsReleaseRide, KeepsBounds}
use Rattle.sdm_release_ride.specs.ReleaseRideLaws.{LawOfReleasePlaces}
use Rattle.sdm_cases.proofs.Journeys.{plain_national, plain_train_and_track}
use Rattle.sdm_cases.proofs.ReleaseRideCases.{before, between, bounds, ending, ends_by, first, first_free}
use Rattle.sdm_cases.proofs.ReleaseRideCases.{first_promises, first_within, line}
use Rattle.sdm_cases.proofs.RideLine.{delays, delays_held, line_open_under, line_slopes, ride_line}
use Rattle.sdm_cases.proofs.StopCases.{plain_slope, plain_slopes}

-- ---- what happens

-- half a ds at 2 km/h, 60,000 half notches; a reading is missing each ds
abbrev runs : Happening
runs = Tick 60_000 60_000_000_000

-- from 60,000 half notches on 5,400 less in each tick, 1 m/s², until it stands
abbrev braked : List Happening
braked =
    Tick 54_600 57_300_000_000 ∷ Tick 49_200 51_900_000_000 ∷ Overdue ∷ Tick 43_800 46_500_000_000
    ∷ Tick 38_400 41_100_000_000 ∷ Overdue ∷ Tick 33_000 35_700_000_000 ∷ Tick 27_600 30_300_000_000 ∷ Overdue
    ∷ Tick 22_200 24_900_000_000 ∷ Tick 16_800 19_500_000_000 ∷ Overdue ∷ Tick 11_400 14_100_000_000
    ∷ Tick 6_000 8_700_000_000 ∷ Overdue ∷ Tick 600 3_300_000_000 ∷ Tick 0 33_333_333 ∷ []

abbrev unread : List Happening
unread = runs ∷ runs ∷ Overdue ∷ runs ∷ runs ∷ Overdue ∷ runs ∷ runs ∷ Overdue ∷ braked

abbrev happenings : List Happening
happenings = Record (record_kinds.Read first) ∷ unread

abbrev start : Moment
start = record {
  supervision = before;
  place = pos 20_887_200_000_000;
  speed = 60_000;
  silence = 0;
  order = None;
  promise = None;
}

-- so many ticks after the reading
abbrev promised : ℕ → Promise
promised age = record { under = before; reading = first; age = age }

-- a moment after the reading
abbrev moment : ℤ → ℕ → ℕ → ℕ → Option ℕ → Moment
moment place speed silence age order = record {
  supervision = between first;
  place = place;
  speed = speed;
  silence = silence;
  order = order;
  promise = Some (promised age);
}

either : (a b : Bool) → b ≡ true → (a || b) ≡ true
either true b e = refl
either false b e = e

to_first : after (by_release bounds) start (Record (record_kinds.Read first)) ≡ moment (pos 20_887_200_000_000) 60_000 0 0 None
unfolding after step
to_first =
    ap (λ (c : Bool). record {
      supervision = between first;
      place = pos 20_887_200_000_000;
      speed = 60_000;
      silence = 0;
      order = if is_ordered (row_of before first) then Some 0 else None;
      promise = if c then Some (promised 0) else if is_ordered (row_of before first) then None else None;
    }) (either (row_of before first).covered (promises_svl bounds before first) first_promises)
    ∙ ap (λ (c : Bool). moment (pos 20_887_200_000_000) 60_000 0 0 (if c then Some 0 else None)) first_free

-- ---- what may happen

a_step : (x y : Point) → BrakesAtLeast plain_slopes 200_000_000_000 x.place x.square y.place y.square →
    IsStep plain_slopes 4 x y
unfolding plain_slopes plain_slope
a_step x y brakes = record {
  band = 0;
  slope = 200_000_000_000;
  from_band = record { known = omega arith; above = omega arith; below = λ lt. absurd (omega arith) };
  to_band = record { known = omega arith; above = omega arith; below = λ lt. absurd (omega arith) };
  one_slope = λ cell part. refl;
  brakes = brakes;
}

line_step : (x y : Point) → BrakesAtLeast plain_slopes 200_000_000_000 x.place x.square y.place y.square →
    IsStep (slopes_of Safe line) 4 x y
line_step x y brakes =
    subst (λ (on : Slopes). IsStep on 4 x y) (sym (line_slopes (pos 2) (pos 0) Safe)) (a_step x y brakes)

abbrev May : Moment → Happening → Type 0
May m h = MayHappen (by_release bounds) (IsByTimelyOrders (delays 1) 2) 2 m h

not_yet : (o : ℕ) → None ≡ Some o → o < 4
not_yet o e = absurd (none-some o e)

still : (n : ℕ) → n < 4 → (o : ℕ) → Some n ≡ Some o → o < 4
still n lt o e = subst (λ k. k < 4) (same_Some n o e) lt

-- a tick of running, before the order is 4 ticks old
running : (place : ℤ) (silence age : ℕ) (order : Option ℕ) → silence < 2 → ((o : ℕ) → order ≡ Some o → o < 4) →
    May (moment place 60_000 silence age order) runs
running place silence age order in_time early = λ c e.
    subst (λ (c : Promise). IsByTimelyOrders (delays 1) 2 c (moment place 60_000 silence age order) 60_000 60_000_000_000)
    (same_Some _ c e) (record {
      times = delays_held (pos 0) ending first age;
      orders = record {
        in_time = omega (arith, in_time);
        traction = record { gains = omega arith; moves = omega arith };
        cut_off = λ o is long. record { gains = omega arith; moves = omega arith };
        brakes = λ o is long. absurd (omega (arith, early o is, long));
      };
    })

-- a tick of braking
braking : (place : ℤ) (v to length silence age : ℕ) (order : Option ℕ) → silence < 2 → to ≤ v →
    2 * length ≤ 1_000_000 * (v + to) →
    BrakesAtLeast plain_slopes 200_000_000_000 place (v * v) (place +ℤ pos length) (to * to) →
    May (moment place v silence age order) (Tick to length)
braking place v to length silence age order in_time slower moves enough = λ c e.
    subst (λ (c : Promise). IsByTimelyOrders (delays 1) 2 c (moment place v silence age order) to length)
    (same_Some _ c e) (record {
      times = delays_held (pos 0) ending first age;
      orders = record {
        in_time = omega (arith, in_time);
        traction = record { gains = omega (arith, slower); moves = moves };
        cut_off = λ o is long. record { gains = omega (arith, slower); moves = moves };
        brakes = λ o is long. ([], line_step _ _ enough);
      };
    })

rides : IsRide (by_release bounds) (IsByTimelyOrders (delays 1) 2) 2 (moment (pos 20_887_200_000_000) 60_000 0 0 None)
    unread
unfolding after plain_slopes
rides = (
  running (pos 20_887_200_000_000) 0 0 None (omega arith) not_yet,
  (
    running (pos 20_947_200_000_000) 1 1 None (omega arith) not_yet,
    (
      tt,
      (
        running (pos 21_007_200_000_000) 0 2 (Some 0) (omega arith) (still 0 (omega arith)),
        (
          running (pos 21_067_200_000_000) 1 3 (Some 1) (omega arith) (still 1 (omega arith)),
          (
            tt,
            (
              running (pos 21_127_200_000_000) 0 4 (Some 2) (omega arith) (still 2 (omega arith)),
              (
                running (pos 21_187_200_000_000) 1 5 (Some 3) (omega arith) (still 3 (omega arith)),
                (
                  tt,
                  (
                    braking (pos 21_247_200_000_000) 60_000 54_600 57_300_000_000 0 6 (Some 4) (omega arith) (omega arith) (omega arith) (record { forward = omega (arith, ints); slower = omega arith; enough = omega (arith, ints) }),
                    (
                      braking (pos 21_304_500_000_000) 54_600 49_200 51_900_000_000 1 7 (Some 5) (omega arith) (omega arith) (omega arith) (record { forward = omega (arith, ints); slower = omega arith; enough = omega (arith, ints) }),
                      (
                        tt,
                        (
                          braking (pos 21_356_400_000_000) 49_200 43_800 46_500_000_000 0 8 (Some 6) (omega arith) (omega arith) (omega arith) (record { forward = omega (arith, ints); slower = omega arith; enough = omega (arith, ints) }),
                          (
                            braking (pos 21_402_900_000_000) 43_800 38_400 41_100_000_000 1 9 (Some 7) (omega arith) (omega arith) (omega arith) (record { forward = omega (arith, ints); slower = omega arith; enough = omega (arith, ints) }),
                            (
                              tt,
                              (
                                braking (pos 21_444_000_000_000) 38_400 33_000 35_700_000_000 0 10 (Some 8) (omega arith) (omega arith) (omega arith) (record { forward = omega (arith, ints); slower = omega arith; enough = omega (arith, ints) }),
                                (
                                  braking (pos 21_479_700_000_000) 33_000 27_600 30_300_000_000 1 11 (Some 9) (omega arith) (omega arith) (omega arith) (record { forward = omega (arith, ints); slower = omega arith; enough = omega (arith, ints) }),
                                  (
                                    tt,
                                    (
                                      braking (pos 21_510_000_000_000) 27_600 22_200 24_900_000_000 0 12 (Some 10) (omega arith) (omega arith) (omega arith) (record { forward = omega (arith, ints); slower = omega arith; enough = omega (arith, ints) }),
                                      (
                                        braking (pos 21_534_900_000_000) 22_200 16_800 19_500_000_000 1 13 (Some 11) (omega arith) (omega arith) (omega arith) (record { forward = omega (arith, ints); slower = omega arith; enough = omega (arith, ints) }),
                                        (
                                          tt,
                                          (
                                            braking (pos 21_554_400_000_000) 16_800 11_400 14_100_000_000 0 14 (Some 12) (omega arith) (omega arith) (omega arith) (record { forward = omega (arith, ints); slower = omega arith; enough = omega (arith, ints) }),
                                            (
                                              braking (pos 21_568_500_000_000) 11_400 6_000 8_700_000_000 1 15 (Some 13) (omega arith) (omega arith) (omega arith) (record { forward = omega (arith, ints); slower = omega arith; enough = omega (arith, ints) }),
                                              (
                                                tt,
                                                (
                                                  braking (pos 21_577_200_000_000) 6_000 600 3_300_000_000 0 16 (Some 14) (omega arith) (omega arith) (omega arith) (record { forward = omega (arith, ints); slower = omega arith; enough = omega (arith, ints) }),
                                                  (
                                                    braking (pos 21_580_500_000_000) 600 0 33_333_333 1 17 (Some 15) (omega arith) (omega arith) (omega arith) (record { forward = omega (arith, ints); slower = omega arith; enough = omega (arith, ints) }),
                                                    tt,
                                                  ),
                                                ),
                                              ),
                                            ),
                                          ),
                                        ),
                                      ),
                                    ),
                                  ),
                                ),
                              ),
                            ),
                          ),
                        ),
                      ),
                    ),
                  ),
                ),
              ),
            ),
          ),
        ),
      ),
    ),
  ),
)

first_true : IsTrueReading 2 start first
unfolding ride_line plain_train_and_track plain_national first
first_true = record { front = omega (arith, ints); speed = omega arith }

-- the ride
it_is : IsRide (by_release bounds) (IsByTimelyOrders (delays 1) 2) 2 start happenings
it_is = (
  λ promises. first_true,
  subst (λ (m : Moment). IsRide (by_release bounds) (IsByTimelyOrders (delays 1) 2) 2 m unread) (sym to_first) rides,
)

-- ---- what stays

-- nothing but ticks and readings that are missing
abbrev AreQuiet : List Happening → Type 0
AreQuiet [] = ⊤
AreQuiet (Tick to length ∷ hs) = AreQuiet hs
AreQuiet (Overdue ∷ hs) = AreQuiet hs
AreQuiet (Record e ∷ hs) = ⊥
AreQuiet (Unread ∷ hs) = ⊥
AreQuiet (Change next ∷ hs) = ⊥

abbrev Ends : Moment → Type 0
Ends n = EndsWithTripBy bounds n.supervision.train_and_track 1000 n.supervision.authority

-- leaves the authority as it was
stay : (m : Moment) (hs : List Happening) → AreQuiet hs → Ends m → All Ends (moments (by_release bounds) m hs)
unfolding after
stay m [] quiet ends = All-nil Ends
stay m (Tick to length ∷ hs) quiet ends =
    All-cons Ends _ _ ends (stay (after (by_release bounds) m (Tick to length)) hs quiet ends)
stay m (Overdue ∷ hs) quiet ends =
    All-cons Ends _ _ ends (stay (after (by_release bounds) m Overdue) hs quiet ends)
stay m (Record e ∷ hs) quiet ends = absurd quiet
stay m (Unread ∷ hs) quiet ends = absurd quiet
stay m (Change next ∷ hs) quiet ends = absurd quiet

-- and judges no reading
none_judged : (m : Moment) (hs : List Happening) → AreQuiet hs →
    AllJudged (by_release bounds) (KeepsBounds bounds) m hs
none_judged m [] quiet = tt
none_judged m (Tick to length ∷ hs) quiet =
    ((λ r is. absurd (none-some r is)), none_judged (after (by_release bounds) m (Tick to length)) hs quiet)
none_judged m (Overdue ∷ hs) quiet =
    ((λ r is. absurd (none-some r is)), none_judged (after (by_release bounds) m Overdue) hs quiet)
none_judged m (Record e ∷ hs) quiet = absurd quiet
none_judged m (Unread ∷ hs) quiet = absurd quiet
none_judged m (Change next ∷ hs) quiet = absurd quiet

ends_between : Ends (moment (pos 20_887_200_000_000) 60_000 0 0 None)
unfolding after_reading
ends_between = ends_by

its_authorities : All Ends (start ∷ moments (by_release bounds) start happenings)
its_authorities =
    let between = moment (pos 20_887_200_000_000) 60_000 0 0 None in
    All-cons Ends start (moments (by_release bounds) start happenings) ends_by
    (subst (λ (m : Moment). All Ends (m ∷ moments (by_release bounds) m unread)) (sym to_first)
    (All-cons Ends between (moments (by_release bounds) between unread) ends_between
    (stay between unread tt ends_between)))

abbrev Keeps : Happening → Type 0
Keeps h = (r : OdometerReading) → judged_in before h ≡ Some r → KeepsBounds bounds before r

first_keeps : Keeps (Record (record_kinds.Read first))
unfolding step
first_keeps = λ r e untripped. subst (λ (x : OdometerReading). IsWithinBounds bounds line x) (same_Some _ _ e)
    first_within

its_readings : AllJudged (by_release bounds) (KeepsBounds bounds) start happenings
its_readings = (
  first_keeps,
  subst (λ (m : Moment). AllJudged (by_release bounds) (KeepsBounds bounds) m unread) (sym to_first)
      (none_judged _ unread tt),
)

-- A RIDE before 1000 cm at scale 2: all that the law of places asks for is true of it
a_ride : IsReleaseRide bounds (delays 1) 2 1000 start happenings
a_ride = record {
  start = record { is_open = line_open_under (pos 2) (pos 0) ending; none = refl };
  ride = it_is;
  authorities = its_authorities;
  readings = its_readings;
}

-- the last of moments
abbrev last_of : List Moment → Moment → Moment
last_of [] m = m
last_of (n ∷ ns) m = last_of ns n

abbrev its_end : Moment
its_end = last_of (moments (by_release bounds) (moment (pos 20_887_200_000_000) 60_000 0 0 None) unread) start

-- where it stands, 0.9 cm before the SvL
stands : (its_end.place ≡ pos 21_580_533_333_333) × (its_end.speed ≡ 0)
unfolding after
stands = (refl, refl)

-- by the law its last moment, the twenty-seventh, is at or before 1000 cm
stops_by_law : LawOfReleasePlaces → its_end.place ≤ℤ pos 21_600_000_000_000
unfolding after
stops_by_law law =
    let all = subst (λ (m : Moment). IsNeverPast 2 1000 (m ∷ moments (by_release bounds) m unread)) to_first
    (law bounds (delays 1) 2 1000 start happenings (omega arith) a_ride) in
    all 26 start (omega arith)
