-- Never past a place: each reading gives a promise or orders the brake, in release speed monitoring too, so once a
-- promise stood, one stands; and what it was given under ends by the place.
use Rattle.std.proofs.Common.{◌≡◌, ℕ, ℤ, zero, suc, pos, Bool, true, false, List, [], ◌∷◌, ◌*◌, ◌<◌, ◌≤◌, ◌*ℤ◌}
use Rattle.std.proofs.Common.{◌≤ℤ◌}
use Rattle.std.proofs.Common.{Option, Some, None, refl, subst, sym, arith, inl, inr, if◌then◌else◌, not, ◌&&◌, ◌||◌}
use Rattle.std.proofs.Common.{◌∙◌}
use Rattle.std.specs.Prelude.{⊤, All, IfOk, IsTrue, Result, Ok, Err, is_some, nat_le, nat_lt}
use Rattle.std.proofs.lemmas.Bool.{le-leb, and_from, and_parts, true≢false, false≢true}
use Rattle.std.proofs.lemmas.Int.{ints}
use Rattle.std.proofs.lemmas.Option.{none-some}
use Rattle.std.proofs.lemmas.List.Elements.{All-nil, All-cons}
use Rattle.sdm_num.specs.Readings.{OdometerReading}
use Rattle.sdm_num.proofs.Comparisons.{le_is}
use Rattle.sdm_num.proofs.Ints.{scale-≤}
use Rattle.sdm_rules.specs.declared.authorities.Authority.{Authority}
use Rattle.sdm_rules.specs.declared.authorities.Authority.TheVariants.{Stop, Limit}
use Rattle.sdm_rules.specs.declared.faults.EventCause.{EventCause}
use Rattle.sdm_rules.specs.declared.faults.TakeOverFault.{TakeOverFault}
use Rattle.sdm_rules.specs.declared.records.Event.{Event}
use Rattle.sdm_rules.specs.declared.records.Event.TheVariants as record_kinds
use Rattle.sdm_rules.specs.Cells.{place_of_cell}
use Rattle.sdm_rules.specs.Data.{TrainAndTrack}
use Rattle.sdm_rules.specs.Motion.{IsBy}
use Rattle.sdm_rules.specs.Records.{step}
use Rattle.sdm_rules.specs.Supervision.{Supervision, after_reading, release_of, row_of}
use Rattle.sdm_rules.specs.TakeOver.{change}
use Rattle.sdm_laws.proofs.Rows.Headline.{over_kinds}
use Rattle.sdm_laws.proofs.Rows.TripPlaces.{trip_places}
use Rattle.sdm_ride.specs.Happenings.{Happening, Record, Unread, Overdue, Change, Tick}
use Rattle.sdm_ride.specs.Moments.{Judging, Moment, Promise, after, after_change, after_record, after_taken, aged}
use Rattle.sdm_ride.specs.Moments.{is_ordered, is_release, moments}
use Rattle.sdm_ride.specs.Orders.{judged_in, reading_if}
use Rattle.sdm_ride.specs.Rides.{point_of}
use Rattle.sdm_ride.specs.RideLaws.{IsNeverPast, IsRideStart, KeepsPromise}
use Rattle.sdm_ride.proofs.Promises.{mapped, next_promise}
use Rattle.sdm_ride.proofs.Ends.{some_mapped, some_stays}
use Rattle.sdm_release_ride.specs.TripPlaces.{HasTripPlace, IsWithinBounds, TripBounds, by_guarded, by_release}
use Rattle.sdm_release_ride.specs.TripPlaces.{excess_of}
use Rattle.sdm_release_ride.specs.TripPlaces.{has_trip_place, promises_svl, is_untripped, is_within_bounds}
use Rattle.sdm_release_ride.specs.ReleaseRideLaws.{AllJudged, EndsWithTripBy, IsAsByRelease, KeepsBounds}
use Rattle.sdm_release_ride.specs.ReleaseRideLaws.{LawOfGuardedPlaces, LawOfReleasePlaces, StopsBefore}
use Rattle.sdm_release_ride.proofs.ReleaseRides.{guarded_rides, release_rides}
use Rattle.sdm_release_ride.proofs.Trips.{monitored}

-- ---- what the tests answer

pub le_is_test : (a b : ℕ) → a ≤ b → nat_le a b ≡ true
le_is_test a b h = le-leb a b h

passes_bounds : (b : TripBounds) (d : TrainAndTrack) (r : OdometerReading) → IsWithinBounds b d r →
    is_within_bounds b d r ≡ true
passes_bounds b d r h =
    and_from _ _ (le_is _ _ h.width) (le_is_test (excess_of d r) b.excess h.excess)

pub passes_trip : (b : TripBounds) (d : TrainAndTrack) (eoa svl release : ℕ) → HasTripPlace b d eoa svl release →
    has_trip_place b d (Stop eoa svl release) ≡ true
passes_trip b d eoa svl release h = (trip_places b d (Stop eoa svl release)).1 h

-- in release speed monitoring there is a release speed
is_positive : (front_past : Bool) (release : ℕ) →
    is_some (if nat_lt 0 release && front_past then Some release else None) ≡ true → 0 < release
is_positive front_past zero e = absurd (false≢true e)
is_positive front_past (suc n) e = omega arith

has_trip : (b : TripBounds) (d : TrainAndTrack) (place : ℕ) (a : Authority) (r : OdometerReading) →
    EndsWithTripBy b d place a → is_some (release_of d a r.max) ≡ true →
    has_trip_place b d a ≡ true
has_trip b d place (Stop eoa svl release) r h e =
    passes_trip b d eoa svl release (h.1 (is_positive _ release e))
has_trip b d place (Limit loa speed) r h e = absurd h

-- a reading of an untripped train that keeps the bounds promises the SvL
pub gives_promise : (b : TripBounds) (place : ℕ) (s : Supervision) (r : OdometerReading) →
    EndsWithTripBy b s.train_and_track place s.authority →
    (IsTrue (is_untripped (row_of s r)) → IsWithinBounds b s.train_and_track r) →
    is_untripped (row_of s r) ≡ true → promises_svl b s r ≡ true
gives_promise b place s r ends keeps e =
    let state = and_parts (is_release (row_of s r).state) (not (row_of s r).held.eb) e in
    and_from _ _ (and_from _ _ e (passes_bounds b s.train_and_track r (keeps e)))
    (has_trip b s.train_and_track place s.authority r ends (monitored s r state.0))

-- a row without promise orders the brake
orders_if : (covered eb release released : Bool) → ((release && not eb) ≡ true → released ≡ true) →
    (covered || released) ≡ false → (eb || (not covered && not release)) ≡ true
orders_if true eb release released h e = absurd (true≢false e)
orders_if false true release released h e = refl
orders_if false false false released h e = refl
orders_if false false true released h e = absurd (true≢false (sym (h refl) ∙ e))

-- each reading gives a promise or orders the brake
orders_else : (b : TripBounds) (place : ℕ) (s : Supervision) (r : OdometerReading) →
    EndsWithTripBy b s.train_and_track place s.authority →
    (IsTrue (is_untripped (row_of s r)) → IsWithinBounds b s.train_and_track r) →
    (by_release b).promises s r ≡ false → (by_release b).orders s r ≡ true
orders_else b place s r ends keeps e =
    orders_if (row_of s r).covered (row_of s r).held.eb (is_release (row_of s r).state) (promises_svl b s r)
    (gives_promise b place s r ends keeps) e

-- ---- a promise stands

-- a place before an SvL that lies by it
by_place : (s place : ℕ) (a : Authority) (x : ℤ) → StopsBefore place a →
    ((eoa svl release : ℕ) → a ≡ Stop eoa svl release → x ≤ℤ (pos (s * s) *ℤ place_of_cell (pos svl))) →
    x ≤ℤ (pos (s * s) *ℤ place_of_cell (pos place))
by_place s place (Stop eoa svl release) x e h =
    let one = h eoa svl release refl in
    let cells : place_of_cell (pos svl) ≤ℤ place_of_cell (pos place) = omega (arith, ints, e) in
    omega (arith, ints, scale-≤ (s * s) _ _ cells)
by_place s place (Limit loa speed) x e h = absurd e

-- a reading that gives no promise orders the brake, under data and authorities of a kind, and of readings of a kind
abbrev OrdersElse : Judging → (TrainAndTrack → Authority → Type 0) → (Supervision → OdometerReading → Type 0) → Type 0
OrdersElse j Ends Near =
    (s : Supervision) (r : OdometerReading) → Ends s.train_and_track s.authority → Near s r →
    j.promises s r ≡ false → j.orders s r ≡ true

module _ (j : Judging) (place : ℕ) (Ends : TrainAndTrack → Authority → Type 0)
    (Near : Supervision → OdometerReading → Type 0)
    (before : (d : TrainAndTrack) (a : Authority) → Ends d a → StopsBefore place a)
    (orders : OrdersElse j Ends Near) where
  -- the promise that stands was given under an authority that ends by the place, by the data of its reading
  abbrev IsEnding : Moment → Type 0
  IsEnding m = (c : Promise) → m.promise ≡ Some c → Ends c.under.train_and_track c.under.authority

  -- what is kept over a happening
  record Goes (m n : Moment) : Type 0 where
    ending : IsEnding n
    stands : is_some m.promise ≡ true → is_some n.promise ≡ true

  -- where a promise stands, the train is at or before the place
  kept_by : (s : ℕ) (m : Moment) (o : Option Promise) → m.promise ≡ o → is_some o ≡ true → IsEnding m →
      KeepsPromise IsAsByRelease s m →
      IsBy s (place_of_cell (pos place)) (point_of m)
  kept_by s m (Some c) is e h k =
      by_place s place c.under.authority m.place (before _ _ (h c is)) ((k c is).stops)
  kept_by s m None is e h k = absurd (false≢true e)

  -- after a reading
  read_goes : (m : Moment) (r : OdometerReading) → Ends m.supervision.train_and_track m.supervision.authority →
      IsEnding m → Near m.supervision r →
      Goes m (after_taken j m (record_kinds.Read r) (after_reading m.supervision r))
  unfolding after_reading
  read_goes m r e h near =
      let under = m.supervision in
      let new : Promise = record { under = under; reading = r; age = 0 } in
      record {
        ending = λ c is. elim (next_promise (j.promises under r) (j.orders under r) new m.promise c is) [
          | inl x ↦ subst (λ (y : Promise). Ends y.under.train_and_track y.under.authority) (sym x.1) e
          | inr x ↦ h c x
        ];
        stands = some_stays (j.promises under r) (j.orders under r) new m.promise (orders under r e near);
      }

  -- after a record
  taken_goes : (m : Moment) (e : Event) → Ends m.supervision.train_and_track m.supervision.authority → IsEnding m →
      IfOk (step m.supervision e) (λ t.
      ((r : OdometerReading) → e ≡ record_kinds.Read r → Near m.supervision r) → Goes m (after_taken j m e t))
  taken_goes m e by h =
      over_kinds (λ e t.
      ((r : OdometerReading) → e ≡ record_kinds.Read r → Near m.supervision r) → Goes m (after_taken j m e t))
      m.supervision
      (λ r near. read_goes m r by h (near r refl))
      (λ a near. record { ending = h; stands = λ s. s })
      (λ eoa svl trip none near. record { ending = h; stands = λ s. s })
      (λ r near. record { ending = h; stands = λ s. s })
      (λ id near. record { ending = h; stands = λ s. s }) e

  -- a record that is a reading and is taken is judged
  is_judged : (e : Event) (t : Supervision) (r : OdometerReading) → e ≡ record_kinds.Read r →
      reading_if e (Ok t) ≡ Some r
  is_judged e t r is = rw is refl

  record_goes : (m : Moment) (e : Event) (t : Result Supervision EventCause) → IsEnding m →
      IfOk t (λ t.
      ((r : OdometerReading) → e ≡ record_kinds.Read r → Near m.supervision r) → Goes m (after_taken j m e t)) →
      ((r : OdometerReading) → reading_if e t ≡ Some r → Near m.supervision r) →
      Goes m (after_record j m e t)
  record_goes m e (Ok t) h k near = k (λ r is. near r (is_judged e t r is))
  record_goes m e (Err cause) h k near = record { ending = h; stands = λ s. s }

  -- over a change of data the promise keeps its own
  change_goes : (m : Moment) (t : Result Supervision TakeOverFault) → IsEnding m → Goes m (after_change m t)
  change_goes m (Ok t) h = record { ending = h; stands = λ s. s }
  change_goes m (Err fault) h = record { ending = h; stands = λ s. s }

  -- after whatever happens
  goes : (m : Moment) (h : Happening) → Ends m.supervision.train_and_track m.supervision.authority → IsEnding m →
      ((r : OdometerReading) → judged_in m.supervision h ≡ Some r → Near m.supervision r) →
      Goes m (after j m h)
  unfolding after
  goes m (Record e) by h near = record_goes m e (step m.supervision e) h (taken_goes m e by h) near
  goes m Unread by h near = record { ending = h; stands = λ s. s }
  goes m Overdue by h near = record { ending = h; stands = λ s. s }
  goes m (Change next) by h near = change_goes m (change next m.supervision) h
  goes m (Tick to length) by h near = record {
    ending = λ c is.
        let x = mapped aged m.promise c is in
        subst (λ (y : Promise). Ends y.under.train_and_track y.under.authority) (sym x.2) (h x.0 x.1);
    stands = some_mapped aged m.promise;
  }

  abbrev IsAt : ℕ → Moment → Type 0
  IsAt s n = IsBy s (place_of_cell (pos place)) (point_of n)

  abbrev AllEnd : List Moment → Type 0
  AllEnd ms = All (λ n. Ends n.supervision.train_and_track n.supervision.authority) ms

  -- once a promise stands, the train is by the place at each later moment
  all_by : (s : ℕ) (m : Moment) (hs : List Happening) → is_some m.promise ≡ true → IsEnding m →
      AllEnd (m ∷ moments j m hs) → AllJudged j Near m hs →
      All (KeepsPromise IsAsByRelease s) (moments j m hs) →
      All (IsAt s) (moments j m hs)
  all_by s m [] stands h by near kept = All-nil (IsAt s)
  all_by s m (x ∷ xs) stands h by near kept =
      let n = after j m x in
      let g = goes m x (by 0 m (omega arith)) h near.0 in
      All-cons (IsAt s) n (moments j n xs)
      (kept_by s n n.promise refl (g.stands stands) g.ending (kept 0 n (omega arith)))
      (all_by s n xs (g.stands stands) g.ending (λ k d lt. by (suc k) d (omega arith)) near.1
      (λ k d lt. kept (suc k) d (omega arith)))

  -- before one stands, nothing is said
  since_first : (s : ℕ) (m : Moment) (ms : List Moment) → (is_some m.promise ≡ true → All (IsAt s) (m ∷ ms)) →
      IsNeverPast s place ms → IsNeverPast s place (m ∷ ms)
  since_first s m ms yet rest = split (is_some m.promise) refl
    where
      split : (b : Bool) → is_some m.promise ≡ b → IsNeverPast s place (m ∷ ms)
      split true e = rw e (yet e)
      split false e = rw e rest

  all_since : (s : ℕ) (m : Moment) (hs : List Happening) → IsEnding m → AllEnd (m ∷ moments j m hs) →
      AllJudged j Near m hs → All (KeepsPromise IsAsByRelease s) (moments j m hs) →
      IsNeverPast s place (moments j m hs)
  all_since s m [] h by near kept = All-nil (IsAt s)
  all_since s m (x ∷ xs) h by near kept =
      let n = after j m x in
      let g = goes m x (by 0 m (omega arith)) h near.0 in
      let by_later : AllEnd (n ∷ moments j n xs) = λ k d lt. by (suc k) d (omega arith) in
      let kept_later : All (KeepsPromise IsAsByRelease s) (moments j n xs) = λ k d lt. kept (suc k) d (omega arith) in
      since_first s n (moments j n xs)
      (λ stands. All-cons (IsAt s) n (moments j n xs)
      (kept_by s n n.promise refl stands g.ending (kept 0 n (omega arith)))
      (all_by s n xs stands g.ending by_later near.1 kept_later))
      (all_since s n xs g.ending by_later near.1 kept_later)

  -- from the start of a ride that keeps its promises
  from_start : (s : ℕ) (m : Moment) (hs : List Happening) → IsRideStart m →
      AllEnd (m ∷ moments j m hs) → AllJudged j Near m hs → All (KeepsPromise IsAsByRelease s) (moments j m hs) →
      IsNeverPast s place (moments j m hs)
  from_start s m hs start by near kept =
      all_since s m hs
      (λ c is. absurd (none-some c (subst (λ (o : Option Promise). o ≡ Some c) start.none is))) by near kept

-- ---- the laws

ends_before : (b : TripBounds) (d : TrainAndTrack) (place : ℕ) (a : Authority) → EndsWithTripBy b d place a →
    StopsBefore place a
ends_before b d place (Stop eoa svl release) h = h.0
ends_before b d place (Limit loa speed) h = h

-- the law of places with release speeds
pub release_places : LawOfReleasePlaces
release_places b w s place m hs s_pos h =
    from_start (by_release b) place (λ d a. EndsWithTripBy b d place a) (KeepsBounds b)
    (λ d a ends. ends_before b d place a ends) (λ s r ends near. orders_else b place s r ends near) s m hs h.start
    h.authorities h.readings (release_rides.by_orders b w s m hs s_pos h.start h.ride)

-- nothing is asked of readings
any_reading : (j : Judging) (m : Moment) (hs : List Happening) → AllJudged j (λ s r. ⊤) m hs
any_reading j m [] = tt
any_reading j m (h ∷ hs) = ((λ r is. tt), any_reading j (after j m h) hs)

or_not : (ordered promises : Bool) → promises ≡ false → (ordered || not promises) ≡ true
or_not true promises e = refl
or_not false promises e = rw e refl

-- the law of guarded rides
pub guarded_places : LawOfGuardedPlaces
guarded_places b w s place m hs s_pos h =
    from_start (by_guarded b) place (λ d a. StopsBefore place a) (λ s r. ⊤) (λ d a by. by)
    (λ s r ends near none. or_not (is_ordered (row_of s r)) ((by_release b).promises s r) none) s m hs h.start
    h.authorities (any_reading (by_guarded b) m hs) (guarded_rides b w s m hs s_pos h.start h.ride)
