-- Never past a place: under an authority that ends by it, each reading gives a promise or orders the brake, so once a
-- promise stood, one stands; and what it was given under ends by the place.
use Rattle.std.proofs.Common.{◌≡◌, ℕ, ℤ, suc, pos, Bool, true, false, List, [], ◌∷◌, ◌*◌, ◌*ℤ◌, ◌≤ℤ◌}
use Rattle.std.proofs.Common.{Option, Some, None, refl, subst, sym, arith, inl, inr, if◌then◌else◌, not, ◌&&◌, ◌||◌}
use Rattle.std.specs.Prelude.{All, IfOk, Result, Ok, Err, is_some, option_map}
use Rattle.std.proofs.lemmas.Int.{ints}
use Rattle.std.proofs.lemmas.Option.{none-some}
use Rattle.std.proofs.lemmas.List.Elements.{All-nil, All-cons}
use Rattle.sdm_num.specs.Readings.{OdometerReading}
use Rattle.sdm_num.proofs.Ints.{scale-≤}
use Rattle.sdm_rules.specs.declared.authorities.Authority.{Authority}
use Rattle.sdm_rules.specs.declared.authorities.Authority.TheVariants.{Stop, Limit}
use Rattle.sdm_rules.specs.declared.commands.State.{State}
use Rattle.sdm_rules.specs.declared.commands.State.TheVariants.{C, T, R}
use Rattle.sdm_rules.specs.declared.faults.EventCause.{EventCause}
use Rattle.sdm_rules.specs.declared.faults.TakeOverFault.{TakeOverFault}
use Rattle.sdm_rules.specs.declared.motions.Point.{Point}
use Rattle.sdm_rules.specs.declared.records.Event.{Event}
use Rattle.sdm_rules.specs.declared.records.Event.TheVariants as record_kinds
use Rattle.sdm_rules.specs.Cells.{place_of_cell}
use Rattle.sdm_rules.specs.Data.{TrainAndTrack}
use Rattle.sdm_rules.specs.Motion.{IsBy}
use Rattle.sdm_rules.specs.Records.{step}
use Rattle.sdm_rules.specs.Supervision.{Supervision, after_reading, release_of, row_in, row_of, situation_of, state_in}
use Rattle.sdm_rules.specs.TakeOver.{change}
use Rattle.sdm_rules.specs.Within.{is_within_svl}
use Rattle.sdm_laws.proofs.Rows.Headline.{over_kinds}
use Rattle.sdm_ride.specs.Happenings.{Happening, Record, Unread, Overdue, Change, Tick}
use Rattle.sdm_ride.specs.Moments.{Judging, Moment, Promise, after, after_change, after_record, after_taken, aged, by_free_rows}
use Rattle.sdm_ride.specs.Moments.{by_rows, by_svl, is_release, moments, promise_after}
use Rattle.sdm_ride.specs.Rides.{point_of}
use Rattle.sdm_ride.specs.RideLaws.{AreKeptByOrders, EndsBy, IsAsCovered, IsAsFree, IsByItsSvl, IsNeverPast}
use Rattle.sdm_ride.specs.RideLaws.{KeepsPromise, LawOfPlaces, Promised, StaysBeforeByOrders}
use Rattle.sdm_ride.proofs.Promises.{mapped, next_promise}
use Rattle.sdm_ride.proofs.Orders.{rides}

-- ---- each reading gives a promise or orders the brake

-- under an authority that ends by a place, a reading that gives no promise orders the emergency brake
abbrev OrdersElse : Judging → Type 0
OrdersElse j = (place : ℕ) (s : Supervision) (r : OdometerReading) → EndsBy place s.authority →
    j.promises s r ≡ false → j.orders s r ≡ true

-- without a release speed there is no release speed monitoring
no_release : (place : ℕ) (d : TrainAndTrack) (a : Authority) (front : ℤ) → EndsBy place a → release_of d a front ≡ None
no_release place d (Stop eoa svl release) front e =
    subst (λ (v : ℕ). release_of d (Stop eoa svl v) front ≡ None) (sym e.1) refl
no_release place d (Limit loa speed) front e = absurd e

not_released : (release : Option ℕ) (indicated : Bool) → release ≡ None →
    (if is_some release then R else if indicated then T else C) ≡ R → ⊥
not_released None true e is = let both : T ≡ R = is in cc
not_released None false e is = let both : C ≡ R = is in cc
not_released (Some v) indicated e is = cc

not_in_release : (place : ℕ) (s : Supervision) (r : OdometerReading) → EndsBy place s.authority →
    (row_of s r).state ≡ R → ⊥
unfolding row_in state_in situation_of
not_in_release place s r e is = not_released _ _ (no_release place s.train_and_track s.authority r.max e) is

-- so the brake is ordered where a row isn't free
ordered_if : (eb covered : Bool) (state : State) → (state ≡ R → ⊥) → (covered && not eb) ≡ false →
    (eb || (not covered && not (is_release state))) ≡ true
ordered_if true covered state free e = refl
ordered_if false true state free e = absurd cc
ordered_if false false C free e = refl
ordered_if false false T free e = refl
ordered_if false false R free e = absurd (free refl)

not_both : (covered eb : Bool) → covered ≡ false → (covered && not eb) ≡ false
not_both covered eb e = rw e refl

rows_else : OrdersElse by_rows
rows_else place s r e covered =
    let row = row_of s r in
    ordered_if row.held.eb row.covered row.state (not_in_release place s r e) (not_both row.covered row.held.eb covered)

free_rows_else : OrdersElse by_free_rows
free_rows_else place s r e free =
    let row = row_of s r in ordered_if row.held.eb row.covered row.state (not_in_release place s r e) free

or_not : (eb within : Bool) → within ≡ false → (eb || not within) ≡ true
or_not true within e = refl
or_not false within e = rw e refl

svl_else : OrdersElse by_svl
svl_else place s r e within = or_not (row_of s r).held.eb (is_within_svl s r) within

-- ---- a promise stands

pub some_stays : (promises orders : Bool) (new : Promise) (last : Option Promise) → (promises ≡ false → orders ≡ true) →
    is_some last ≡ true → is_some (promise_after promises orders new last) ≡ true
some_stays true orders new last h e = refl
some_stays false true new last h e = e
some_stays false false new last h e = let k : false ≡ true = h refl in absurd cc

pub some_mapped : (f : Promise → Promise) (o : Option Promise) → is_some o ≡ true → is_some (option_map f o) ≡ true
some_mapped f (Some c) e = refl
some_mapped f None e = e

-- the promise that stands was given under an authority that ends by the place
abbrev IsEnding : ℕ → Moment → Type 0
IsEnding place m = (c : Promise) → m.promise ≡ Some c → EndsBy place c.under.authority

-- what is kept over a happening
record Goes (place : ℕ) (m n : Moment) : Type 0 where
  ending : IsEnding place n
  stands : is_some m.promise ≡ true → is_some n.promise ≡ true

-- a place before an SvL that lies by it
by_place : (s place : ℕ) (a : Authority) (x : ℤ) → EndsBy place a →
    ((eoa svl release : ℕ) → a ≡ Stop eoa svl release → x ≤ℤ (pos (s * s) *ℤ place_of_cell (pos svl))) →
    x ≤ℤ (pos (s * s) *ℤ place_of_cell (pos place))
by_place s place (Stop eoa svl release) x e h =
    let one = h eoa svl release refl in
    let le = e.0 in
    let cells : place_of_cell (pos svl) ≤ℤ place_of_cell (pos place) = omega (arith, ints) in
    omega (arith, ints, scale-≤ (s * s) _ _ cells)
by_place s place (Limit loa speed) x e h = absurd e

-- where a promise of the SvL stands, the train is at or before the place
kept_by : (s place : ℕ) (m : Moment) (o : Option Promise) → m.promise ≡ o → is_some o ≡ true → IsEnding place m →
    KeepsPromise IsByItsSvl s m →
    IsBy s (place_of_cell (pos place)) (point_of m)
kept_by s place m (Some c) is e h k = by_place s place c.under.authority m.place (h c is) (k c is)
kept_by s place m None is e h k = absurd cc

module _ (j : Judging) (orders_else : OrdersElse j) (place : ℕ) where
  -- after a reading
  read_goes : (m : Moment) (r : OdometerReading) → EndsBy place m.supervision.authority → IsEnding place m →
      Goes place m (after_taken j m (record_kinds.Read r) (after_reading m.supervision r))
  read_goes m r e h =
      let under = m.supervision in
      let promises = j.promises under r in
      let orders = j.orders under r in
      let new : Promise = record { under = under; reading = r; age = 0 } in
      record {
        ending = λ c is. elim (next_promise promises orders new m.promise c is) [
          | inl x ↦ subst (λ (y : Promise). EndsBy place y.under.authority) (sym x.1) e
          | inr x ↦ h c x
        ];
        stands = some_stays promises orders new m.promise (orders_else place under r e);
      }

  -- after a record
  taken_goes : (m : Moment) (e : Event) → EndsBy place m.supervision.authority → IsEnding place m →
      IfOk (step m.supervision e) (λ t. Goes place m (after_taken j m e t))
  taken_goes m e by h =
      over_kinds (λ e t. Goes place m (after_taken j m e t)) m.supervision
      (λ r. read_goes m r by h)
      (λ a. record { ending = h; stands = λ s. s })
      (λ eoa svl trip none. record { ending = h; stands = λ s. s })
      (λ r. record { ending = h; stands = λ s. s })
      (λ id. record { ending = h; stands = λ s. s }) e

  record_goes : (m : Moment) (e : Event) (t : Result Supervision EventCause) → IsEnding place m →
      IfOk t (λ t. Goes place m (after_taken j m e t)) →
      Goes place m (after_record j m e t)
  record_goes m e (Ok t) h k = k
  record_goes m e (Err cause) h k = record { ending = h; stands = λ s. s }

  change_goes : (m : Moment) (t : Result Supervision TakeOverFault) → IsEnding place m → Goes place m (after_change m t)
  change_goes m (Ok t) h = record { ending = h; stands = λ s. s }
  change_goes m (Err fault) h = record { ending = h; stands = λ s. s }

  -- after whatever happens
  goes : (m : Moment) (h : Happening) → EndsBy place m.supervision.authority → IsEnding place m →
      Goes place m (after j m h)
  unfolding after
  goes m (Record e) by h = record_goes m e (step m.supervision e) h (taken_goes m e by h)
  goes m Unread by h = record { ending = h; stands = λ s. s }
  goes m Overdue by h = record { ending = h; stands = λ s. s }
  goes m (Change next) by h = change_goes m (change next m.supervision) h
  goes m (Tick to length) by h = record {
    ending = λ c is.
        let x = mapped aged m.promise c is in
        subst (λ (y : Promise). EndsBy place y.under.authority) (sym x.2) (h x.0 x.1);
    stands = some_mapped aged m.promise;
  }

  -- once a promise stands, the train is by the place at each later moment
  all_by : (s : ℕ) (m : Moment) (hs : List Happening) → is_some m.promise ≡ true → IsEnding place m →
      All (λ n. EndsBy place n.supervision.authority) (m ∷ moments j m hs) →
      All (KeepsPromise IsByItsSvl s) (moments j m hs) →
      All (λ n. IsBy s (place_of_cell (pos place)) (point_of n)) (moments j m hs)
  all_by s m [] stands h by kept = All-nil (λ (n : Moment). IsBy s (place_of_cell (pos place)) (point_of n))
  all_by s m (x ∷ xs) stands h by kept =
      let n = after j m x in
      let g = goes m x (by 0 m (omega arith)) h in
      All-cons (λ n. IsBy s (place_of_cell (pos place)) (point_of n)) n (moments j n xs)
      (kept_by s place n n.promise refl (g.stands stands) g.ending (kept 0 n (omega arith)))
      (all_by s n xs (g.stands stands) g.ending (λ k d lt. by (suc k) d (omega arith))
      (λ k d lt. kept (suc k) d (omega arith)))

  -- before one stands, nothing is said
  since_first : (s : ℕ) (m : Moment) (ms : List Moment) →
      (is_some m.promise ≡ true → All (λ n. IsBy s (place_of_cell (pos place)) (point_of n)) (m ∷ ms)) →
      IsNeverPast s place ms → IsNeverPast s place (m ∷ ms)
  since_first s m ms yet rest = split (is_some m.promise) refl
    where
      split : (b : Bool) → is_some m.promise ≡ b → IsNeverPast s place (m ∷ ms)
      split true e = rw e (yet e)
      split false e = rw e rest

  all_since : (s : ℕ) (m : Moment) (hs : List Happening) → IsEnding place m →
      All (λ n. EndsBy place n.supervision.authority) (m ∷ moments j m hs) →
      All (KeepsPromise IsByItsSvl s) (moments j m hs) → IsNeverPast s place (moments j m hs)
  all_since s m [] h by kept = All-nil (λ (n : Moment). IsBy s (place_of_cell (pos place)) (point_of n))
  all_since s m (x ∷ xs) h by kept =
      let n = after j m x in
      let g = goes m x (by 0 m (omega arith)) h in
      let by_later : All (λ n. EndsBy place n.supervision.authority) (n ∷ moments j n xs) = λ k d lt.
      by (suc k) d (omega arith) in
      let kept_later : All (KeepsPromise IsByItsSvl s) (moments j n xs) = λ k d lt. kept (suc k) d (omega arith) in
      since_first s n (moments j n xs)
      (λ stands. All-cons (λ n. IsBy s (place_of_cell (pos place)) (point_of n)) n (moments j n xs)
      (kept_by s place n n.promise refl stands g.ending (kept 0 n (omega arith)))
      (all_by s n xs stands g.ending by_later kept_later))
      (all_since s n xs g.ending by_later kept_later)

-- what promises the SvL, and orders the brake else, stays before the place
stays_before : (j : Judging) (what : Promised) → OrdersElse j → AreKeptByOrders j what →
    ((s : ℕ) (under : Supervision) (r : OdometerReading) (x : Point) → what s under r x → IsByItsSvl s under r x) →
    StaysBeforeByOrders j
stays_before j what orders_else kept stops w s place m hs s_pos h =
    let all = kept w s m hs s_pos h.start h.ride in
    all_since j orders_else place s m hs
    (λ c is. absurd (none-some c (subst (λ (o : Option Promise). o ≡ Some c) h.start.none is))) h.authorities
    (λ k d lt c is. stops s c.under c.reading _ (all k d lt c is))

-- the law of places
pub places : LawOfPlaces
places = record {
  rows = stays_before by_rows IsAsCovered rows_else rides.rows (λ s under r x h. h.stops);
  free_rows = stays_before by_free_rows IsAsFree free_rows_else rides.free_rows (λ s under r x h. h.covered.stops);
  svl = stays_before by_svl IsByItsSvl svl_else rides.svl (λ s under r x h. h);
}
