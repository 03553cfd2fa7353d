-- Beside a computer that goes on as a ride does the order at the interface is at least as old as the order of the ride. So
-- what the older order makes the train do the ride's order makes it do, and the moments are those of the ride but for it.
use Rattle.std.proofs.Common.{◌≡◌, ◌∙◌, ℕ, suc, pos, Bool, true, false, List, [], ◌∷◌, ◌≤◌, Option, Some, None}
use Rattle.std.proofs.Common.{refl, subst, sym, ap, arith, if◌then◌else◌}
use Rattle.std.specs.Prelude.{All, Result, Ok, Err, is_some, option_map, ⊤}
use Rattle.std.proofs.lemmas.Option.{same_Some}
use Rattle.std.proofs.lemmas.List.Elements.{All-nil, All-cons}
use Rattle.sdm_rules.specs.declared.faults.EventCause.{EventCause}
use Rattle.sdm_rules.specs.declared.faults.TakeOverFault.{TakeOverFault}
use Rattle.sdm_rules.specs.declared.records.Event.{Event}
use Rattle.sdm_rules.specs.declared.records.Event.TheVariants as record_kinds
use Rattle.sdm_rules.specs.Cells.{place_of_cell}
use Rattle.sdm_rules.specs.Motion.{IsBy}
use Rattle.sdm_rules.specs.Records.{step}
use Rattle.sdm_rules.specs.Supervision.{Supervision}
use Rattle.sdm_rules.specs.TakeOver.{change}
use Rattle.sdm_ride.specs.Happenings.{Happening, Record, Unread, Overdue, Change, Tick}
use Rattle.sdm_ride.specs.Moments.{Judging, Moment, Promise, after, after_change, after_record, by_free_rows, by_rows}
use Rattle.sdm_ride.specs.Moments.{by_svl, moments, ordered}
use Rattle.sdm_ride.specs.Rides.{Delays, IsByOrders, IsByTimelyOrders, IsRide, IsTrueRecord, MayHappen, point_of}
use Rattle.sdm_ride.specs.RideLaws.{AreKeptByOrders, EndsBy, IsAsCovered, IsAsFree, IsByItsSvl, IsNeverPast, IsRideStart}
use Rattle.sdm_ride.specs.RideLaws.{KeepsPromise, Promised, StaysBeforeByOrders, since_promised}
use Rattle.sdm_ride.specs.Orders.{AllGoOn, Computer, OrdersAs}
use Rattle.sdm_ride.specs.ComputerRides.{AreKeptBeside, IsRideBeside, LawOfComputerPlaces, LawOfComputerRides}
use Rattle.sdm_ride.specs.ComputerRides.{StaysBeforeBeside, after_beside, at_interface, counted, moments_beside}
use Rattle.sdm_ride.proofs.Computers.{orders_on}
use Rattle.sdm_ride.proofs.Orders.{rides}
use Rattle.sdm_ride.proofs.Ends.{places}

-- ---- ages

-- an order is no older than another one
abbrev IsNoOlder : Option ℕ → Option ℕ → Type 0
IsNoOlder None x = ⊤
IsNoOlder (Some k) None = ⊥
IsNoOlder (Some k) (Some l) = k ≤ l

still : (o x : Option ℕ) → IsNoOlder o x → IsNoOlder o (ordered x)
still None x h = tt
still (Some k) None h = absurd h
still (Some k) (Some l) h = h

given : (o x : Option ℕ) → IsNoOlder o x → IsNoOlder (ordered o) (ordered x)
given None None h = omega arith
given None (Some l) h = omega arith
given (Some k) None h = absurd h
given (Some k) (Some l) h = h

given_if : (b : Bool) (o x : Option ℕ) → IsNoOlder o x → IsNoOlder (if b then ordered o else None) (ordered x)
given_if true o x h = given o x h
given_if false o x h = tt

later : (o x : Option ℕ) → IsNoOlder o x →
    IsNoOlder (option_map (λ o. suc o) o) (ordered (option_map (λ o. suc o) x))
later None x h = tt
later (Some k) None h = absurd h
later (Some k) (Some l) h = let le : k ≤ l = h in omega arith

after_record_older : (j : Judging) (m : Moment) (e : Event) (t : Result Supervision EventCause) (x : Option ℕ) →
    IsNoOlder m.order x → IsNoOlder (after_record j m e t).order (ordered x)
after_record_older j m (record_kinds.Read r) (Ok t) x h = given_if (j.orders m.supervision r) m.order x h
after_record_older j m (record_kinds.Authority a) (Ok t) x h = still m.order x h
after_record_older j m (record_kinds.Calculated eoa svl trip) (Ok t) x h = still m.order x h
after_record_older j m (record_kinds.Restrict r) (Ok t) x h = still m.order x h
after_record_older j m (record_kinds.Revoke id) (Ok t) x h = still m.order x h
after_record_older j m e (Err cause) x h = still m.order x h

after_change_older : (m : Moment) (t : Result Supervision TakeOverFault) (x : Option ℕ) → IsNoOlder m.order x →
    IsNoOlder (after_change m t).order (ordered x)
after_change_older m (Ok t) x h = still m.order x h
after_change_older m (Err fault) x h = still m.order x h

-- after a happening, of an order that stands at the interface
after_older : (j : Judging) (m : Moment) (h : Happening) (x : Option ℕ) → IsNoOlder m.order x →
    IsNoOlder (after j m h).order (ordered (counted h x))
unfolding after
after_older j m (Record e) x h = after_record_older j m e (step m.supervision e) x h
after_older j m Unread x h = still m.order x h
after_older j m Overdue x h = given m.order x h
after_older j m (Change next) x h = after_change_older m (change next m.supervision) x h
after_older j m (Tick to length) x h = later m.order x h

-- where the ride counts an order it stands there
gated : (b : Bool) (o x : Option ℕ) → (is_some o ≡ true → b ≡ true) → IsNoOlder o x →
    IsNoOlder o (if b then x else None)
gated true o x stands h = h
gated false None x stands h = tt
gated false (Some k) x stands h = let e : false ≡ true = stands refl in absurd cc

-- ---- moments but for the order

-- one moment is the other but for the order
record IsSame (n m : Moment) : Type 0 where
  is : n ≡ record m { order = n.order }

same_record : (j : Judging) (m : Moment) (e : Event) (t : Result Supervision EventCause) (x z : Option ℕ) →
    record (after_record j (record m { order = x }) e t) { order = z } ≡ record (after_record j m e t) { order = z }
same_record j m (record_kinds.Read r) (Ok t) x z = refl
same_record j m (record_kinds.Authority a) (Ok t) x z = refl
same_record j m (record_kinds.Calculated eoa svl trip) (Ok t) x z = refl
same_record j m (record_kinds.Restrict r) (Ok t) x z = refl
same_record j m (record_kinds.Revoke id) (Ok t) x z = refl
same_record j m e (Err cause) x z = refl

same_change : (m : Moment) (t : Result Supervision TakeOverFault) (x z : Option ℕ) →
    record (after_change (record m { order = x }) t) { order = z } ≡ record (after_change m t) { order = z }
same_change m (Ok t) x z = refl
same_change m (Err fault) x z = refl

-- so are those that follow
same_after : (j : Judging) (m : Moment) (h : Happening) (x z : Option ℕ) →
    record (after j (record m { order = x }) h) { order = z } ≡ record (after j m h) { order = z }
unfolding after
same_after j m (Record e) x z = same_record j m e (step m.supervision e) x z
same_after j m Unread x z = refl
same_after j m Overdue x z = refl
same_after j m (Change next) x z = same_change m (change next m.supervision) x z
same_after j m (Tick to length) x z = refl

same_beside : (j : Judging) (n m : Moment) (h : Happening) (c : Computer) → IsSame n m →
    IsSame (after_beside j n h c) (after j m h)
same_beside j n m h c same = record {
  is = ap (λ (k : Moment). record (after j k h) { order = at_interface c h n.order }) same.is
      ∙ same_after j m h n.order (at_interface c h n.order);
}

-- of the moments one after the other
abbrev AreSame : List Moment → List Moment → Type 0
AreSame [] [] = ⊤
AreSame [] (m ∷ ms) = ⊥
AreSame (n ∷ ns) [] = ⊥
AreSame (n ∷ ns) (m ∷ ms) = IsSame n m × AreSame ns ms

-- what doesn't speak of the order holds of both
all_same : (P : Moment → Type 0) (ns ms : List Moment) → ((m : Moment) (x : Option ℕ) → P m → P (record m { order = x })) →
    AreSame ns ms → All P ms → All P ns
all_same P [] [] frees same all = All-nil P
all_same P [] (m ∷ ms) frees same all = absurd same
all_same P (n ∷ ns) [] frees same all = absurd same
all_same P (n ∷ ns) (m ∷ ms) frees same all =
    All-cons P n ns (subst P (sym same.0.is) (frees m n.order (all 0 m (omega arith))))
    (all_same P ns ms frees same.1 (λ k d lt. all (suc k) d (omega arith)))

never_past : (s place : ℕ) (ns ms : List Moment) → AreSame ns ms → IsNeverPast s place ms → IsNeverPast s place ns
never_past s place [] [] same h = h
never_past s place [] (m ∷ ms) same h = absurd same
never_past s place (n ∷ ns) [] same h = absurd same
never_past s place (n ∷ ns) (m ∷ ms) same h =
    split (is_some m.promise) refl (λ later. never_past s place ns ms same.1 later)
  where
    P : Moment → Type 0
    P = λ n. IsBy s (place_of_cell (pos place)) (point_of n)

    first : is_some n.promise ≡ is_some m.promise
    first = ap (λ (k : Moment). is_some k.promise) same.0.is

    split : (b : Bool) → is_some m.promise ≡ b → (IsNeverPast s place ms → IsNeverPast s place ns) →
        IsNeverPast s place (n ∷ ns)
    split true e rest =
        let all : All P (m ∷ ms) = subst (λ (b : Bool). All P (if b then m ∷ ms else since_promised ms)) e h in
        rw (first ∙ e) (all_same P (n ∷ ns) (m ∷ ms) (λ m x by. by) same all)
    split false e rest =
        rw (first ∙ e) (rest (subst (λ (b : Bool). All P (if b then m ∷ ms else since_promised ms)) e h))

-- ---- what may happen

true_record : (j : Judging) (s : ℕ) (m : Moment) (x : Option ℕ) (e : Event) →
    IsTrueRecord j s (record m { order = x }) e → IsTrueRecord j s m e
true_record j s m x (record_kinds.Read r) h =
    λ promises. let told = h promises in record { front = told.front; speed = told.speed }
true_record j s m x (record_kinds.Authority a) h = h
true_record j s m x (record_kinds.Calculated eoa svl trip) h = h
true_record j s m x (record_kinds.Restrict r) h = h
true_record j s m x (record_kinds.Revoke id) h = h

-- an order with one that is no younger
record IsWith (k : ℕ) (x : Option ℕ) : Type 0 where
  age : ℕ
  is : x ≡ Some age
  older : k ≤ age

with_older : (o x : Option ℕ) (k : ℕ) → IsNoOlder o x → o ≡ Some k → IsWith k x
with_older None x k h is = absurd cc
with_older (Some l) None k h is = absurd h
with_older (Some l) (Some n) k h is =
    let e : l ≡ k = same_Some l k is in
    let le : l ≤ n = h in
    record { age = n; is = refl; older = omega arith }

by_younger : (w : Delays) (s : ℕ) (c : Promise) (m : Moment) (x : Option ℕ) (to length : ℕ) → IsNoOlder m.order x →
    IsByOrders w s c (record m { order = x }) to length → IsByOrders w s c m to length
by_younger w s c m x to length older by = record {
  in_time = by.in_time;
  traction = by.traction;
  cut_off = λ o is long.
      let l = with_older m.order x o older is in
      let le = l.older in
      by.cut_off l.age l.is (omega arith);
  brakes = λ o is long.
      let l = with_older m.order x o older is in
      let le = l.older in
      by.brakes l.age l.is (omega arith);
}

may_younger : (j : Judging) (w : Delays) (s : ℕ) (m : Moment) (x : Option ℕ) (h : Happening) → IsNoOlder m.order x →
    MayHappen j (IsByTimelyOrders w s) s (record m { order = x }) h → MayHappen j (IsByTimelyOrders w s) s m h
may_younger j w s m x (Record e) older may = true_record j s m x e may
may_younger j w s m x Unread older may = tt
may_younger j w s m x Overdue older may = tt
may_younger j w s m x (Change next) older may = may
may_younger j w s m x (Tick to length) older may = λ c e.
    let by = may c e in
    record { times = by.times; orders = by_younger w s c m x to length older by.orders }

-- ---- along the ride

module _ (j : Judging) (w : Delays) (s : ℕ) where
  -- beside the computer the ride goes on by its own order
  ride_beside : (m n : Moment) (c : Computer) (hs : List Happening) (cs : List Computer) → IsSame n m → OrdersAs m c →
      IsNoOlder m.order n.order → AllGoOn j c hs cs → IsRideBeside j (IsByTimelyOrders w s) s n hs cs →
      IsRide j (IsByTimelyOrders w s) s m hs
  ride_beside m n c [] cs same like older all ride = tt
  ride_beside m n c (h ∷ hs) [] same like older all ride = absurd ride
  ride_beside m n c (h ∷ hs) (d ∷ ds) same like older all ride =
      let next = orders_on j m c h d like all.0 in (
        may_younger j w s m n.order h older
            (subst (λ (k : Moment). MayHappen j (IsByTimelyOrders w s) s k h) same.is ride.0),
        ride_beside (after j m h) (after_beside j n h d) d hs ds (same_beside j n m h d same) next
            (gated d.orders_brake (after j m h).order (ordered (counted h n.order)) next.ordered
            (after_older j m h n.order older)) all.1 ride.1,
      )

  -- its moments are those of the ride but for the order
  moments_same : (m n : Moment) (c : Computer) (hs : List Happening) (cs : List Computer) → IsSame n m →
      AllGoOn j c hs cs →
      AreSame (moments_beside j n hs cs) (moments j m hs)
  moments_same m n c [] [] same all = tt
  moments_same m n c [] (d ∷ ds) same all = absurd all
  moments_same m n c (h ∷ hs) [] same all = absurd all
  moments_same m n c (h ∷ hs) (d ∷ ds) same all =
      let next = same_beside j n m h d same in
      (next, moments_same (after j m h) (after_beside j n h d) d hs ds next all.1)

  -- what holds of what the computer's supervisor holds is so of the ride
  supervisions_same : (P : Supervision → Type 0) (m : Moment) (c : Computer) (hs : List Happening) (cs : List Computer) →
      OrdersAs m c → AllGoOn j c hs cs → All (λ d. P d.supervision) (c ∷ cs) →
      All (λ n. P n.supervision) (m ∷ moments j m hs)
  supervisions_same P m c [] cs like all ends =
      All-cons (λ (n : Moment). P n.supervision) m []
      (subst P like.supervision (ends 0 c (omega arith)))
      (All-nil (λ (n : Moment). P n.supervision))
  supervisions_same P m c (h ∷ hs) [] like all ends = absurd all
  supervisions_same P m c (h ∷ hs) (d ∷ ds) like all ends =
      All-cons (λ (n : Moment). P n.supervision) m (moments j m (h ∷ hs))
      (subst P like.supervision (ends 0 c (omega arith)))
      (supervisions_same P (after j m h) d hs ds (orders_on j m c h d like all.0) all.1
      (λ k e lt. ends (suc k) e (omega arith)))

-- the ride begins with no order
abbrev pub unordered : Moment → Moment
unordered m = record m { order = None }

starts_as : (m : Moment) (c : Computer) → c.supervision ≡ m.supervision → OrdersAs (unordered m) c
starts_as m c same = record { supervision = same; ordered = λ is. absurd cc }

starts_same : (m : Moment) → IsSame m (unordered m)
starts_same m = record { is = refl }

-- at its start nothing is promised there either
pub starts_unordered : (m : Moment) → IsRideStart m → IsRideStart (unordered m)
starts_unordered m start = record { is_open = start.is_open; none = start.none }

module _ (j : Judging) (w : Delays) (s : ℕ) (m : Moment) (c : Computer) (hs : List Happening) (cs : List Computer)
    (same : c.supervision ≡ m.supervision) (all : AllGoOn j c hs cs) where
  -- a ride beside a computer is one by its own order
  pub own_ride : IsRideBeside j (IsByTimelyOrders w s) s m hs cs → IsRide j (IsByTimelyOrders w s) s (unordered m) hs
  own_ride ride = ride_beside j w s (unordered m) m c hs cs (starts_same m) (starts_as m c same) tt all ride

  -- in which the supervisor holds what the computer's does
  pub own_supervisions : (P : Supervision → Type 0) → All (λ d. P d.supervision) (c ∷ cs) →
      All (λ n. P n.supervision) (unordered m ∷ moments j (unordered m) hs)
  own_supervisions P holds = supervisions_same j w s P (unordered m) c hs cs (starts_as m c same) all holds

  -- and in which the train is where it is beside the computer
  pub beside_own : (P : Moment → Type 0) → ((m : Moment) (x : Option ℕ) → P m → P (record m { order = x })) →
      All P (moments j (unordered m) hs) → All P (moments_beside j m hs cs)
  beside_own P frees holds =
      all_same P (moments_beside j m hs cs) (moments j (unordered m) hs) frees
      (moments_same j w s (unordered m) m c hs cs (starts_same m) all) holds

  pub never_past_own : (place : ℕ) → IsNeverPast s place (moments j (unordered m) hs) →
      IsNeverPast s place (moments_beside j m hs cs)
  never_past_own place h =
      never_past s place (moments_beside j m hs cs) (moments j (unordered m) hs)
      (moments_same j w s (unordered m) m c hs cs (starts_same m) all) h

-- what is kept by the orders is kept beside a computer
pub kept_beside : (j : Judging) (what : Promised) → AreKeptByOrders j what → AreKeptBeside j what
kept_beside j what kept w s m c hs cs s_pos start same all ride =
    beside_own j w s m c hs cs same all (KeepsPromise what s) (λ m x k. k)
    (kept w s (unordered m) hs s_pos (starts_unordered m start) (own_ride j w s m c hs cs same all ride))

-- so is what is never past a place
pub stays_beside : (j : Judging) → StaysBeforeByOrders j → StaysBeforeBeside j
stays_beside j stays w s place m c hs cs s_pos start same all ride ends =
    never_past_own j w s m c hs cs same all place (stays w s place (unordered m) hs s_pos (record {
      start = starts_unordered m start;
      ride = own_ride j w s m c hs cs same all ride;
      authorities = own_supervisions j w s m c hs cs same all (λ t. EndsBy place t.authority) ends;
    }))

-- the laws of rides beside a computer
pub computer_rides : LawOfComputerRides
computer_rides = record {
  rows = kept_beside by_rows IsAsCovered rides.rows;
  free_rows = kept_beside by_free_rows IsAsFree rides.free_rows;
  svl = kept_beside by_svl IsByItsSvl rides.svl;
}

pub computer_places : LawOfComputerPlaces
computer_places = record {
  rows = stays_beside by_rows places.rows;
  free_rows = stays_beside by_free_rows places.free_rows;
  svl = stays_beside by_svl places.svl;
}
