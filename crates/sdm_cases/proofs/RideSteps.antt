-- Worked rides: from a reading on that gives its promise, ticks and missing readings, of which a test shows that they
-- may happen, at any scale and for any judging. The train's slopes are 1 m/s² everywhere.
use Rattle.std.proofs.Common.{◌≡◌, ℕ, ℤ, suc, pos, Bool, true, false, List, [], ◌∷◌, ◌++◌}
use Rattle.std.proofs.Common.{◌+ℤ◌, subst, sym, ap, ◌∙◌, arith}
use Rattle.std.specs.Prelude.{All, Option, Some, None, ◌&&◌, is_some}
use Rattle.std.specs.Prelude.{if◌then◌else◌, option_map}
use Rattle.std.proofs.lemmas.Bool.{and_parts, false≢true}
use Rattle.std.proofs.lemmas.List.Elements.{All-nil, All-cons}
use Rattle.std.proofs.lemmas.Option.{same_Some}
use Rattle.sdm_num.specs.Readings.{OdometerReading}
use Rattle.sdm_rules.specs.declared.records.Event.TheVariants as record_kinds
use Rattle.sdm_rules.specs.Cells.{place_of_cell}
use Rattle.sdm_rules.specs.Motion.{IsBy}
use Rattle.sdm_rules.specs.Opening.{IsOpen}
use Rattle.sdm_rules.specs.Records.{step, time_cause, time_fault, unless}
use Rattle.sdm_rules.specs.Supervision.{Supervision, after_reading}
use Rattle.sdm_ride.specs.Happenings.{Happening, Record, Unread, Overdue, Change, Tick}
use Rattle.sdm_ride.specs.Moments.{Judging, Moment, Promise, after, after_record, moments, ordered, promise_after}
use Rattle.sdm_ride.specs.MotionRides.{last_moment}
use Rattle.sdm_ride.specs.Rides.{IsRide, TickRule, point_of}
use Rattle.sdm_ride.specs.Rides.{IsTrueReading}
use Rattle.sdm_ride.specs.RideLaws.{IsNeverPast, since_promised}
use Rattle.sdm_cases.proofs.TickTests.{aged_by, begins, stands, Shows, TickTest}

-- ---- what may happen

-- ticks and missing readings, each of which may happen
abbrev pub may_go : TickTest → Promise → ℤ → ℕ → ℕ → ℕ → Option ℕ → List Happening → Bool
may_go test c p v silence age order [] = true
may_go test c p v silence age order (Record e ∷ hs) = false
may_go test c p v silence age order (Unread ∷ hs) = false
may_go test c p v silence age order (Overdue ∷ hs) = may_go test c p v 0 age (ordered order) hs
may_go test c p v silence age order (Change next ∷ hs) = false
may_go test c p v silence age order (Tick to length ∷ hs) =
    test (aged_by c age) p v silence order to length
    && may_go test c (p +ℤ pos length) to (suc silence) (suc age) (option_map (λ o. suc o) order) hs

pub rides : (j : Judging) (rule : TickRule) (s : ℕ) (test : TickTest) (c : Promise) → Shows test rule c →
    (hs : List Happening) (t : Supervision) (p : ℤ) (v silence age : ℕ) (order : Option ℕ) →
    may_go test c p v silence age order hs ≡ true → IsRide j rule s (stands c t p v silence age order) hs
unfolding after
rides j rule s test c shows [] t p v silence age order may = tt
rides j rule s test c shows (Record e ∷ hs) t p v silence age order may = absurd (false≢true may)
rides j rule s test c shows (Unread ∷ hs) t p v silence age order may = absurd (false≢true may)
rides j rule s test c shows (Overdue ∷ hs) t p v silence age order may =
    (tt, rides j rule s test c shows hs t p v 0 age (ordered order) may)
rides j rule s test c shows (Change next ∷ hs) t p v silence age order may = absurd (false≢true may)
rides j rule s test c shows (Tick to length ∷ hs) t p v silence age order may =
    let parts = and_parts (test (aged_by c age) p v silence order to length) _ may in (
      λ d e. subst (λ (d : Promise). rule d (stands c t p v silence age order) to length) (same_Some _ d e)
          (shows t p v silence age order to length parts.0),
      rides j rule s test c shows hs t (p +ℤ pos length) to (suc silence) (suc age) (option_map (λ o. suc o) order)
          parts.1,
    )

-- the supervisor is asked nothing
abbrev pub is_quiet : List Happening → Bool
is_quiet [] = true
is_quiet (Record e ∷ hs) = false
is_quiet (Unread ∷ hs) = false
is_quiet (Overdue ∷ hs) = is_quiet hs
is_quiet (Change next ∷ hs) = false
is_quiet (Tick to length ∷ hs) = is_quiet hs

-- so what is true of its state stays so
pub stays : (j : Judging) (P : Supervision → Type 0) (hs : List Happening) (m : Moment) → is_quiet hs ≡ true →
    P m.supervision → All (λ n. P n.supervision) (moments j m hs)
unfolding after
stays j P [] m quiet is = All-nil (λ (n : Moment). P n.supervision)
stays j P (Record e ∷ hs) m quiet is = absurd (false≢true quiet)
stays j P (Unread ∷ hs) m quiet is = absurd (false≢true quiet)
stays j P (Overdue ∷ hs) m quiet is =
    let n = after j m Overdue in
    All-cons (λ n. P n.supervision) n (moments j n hs) is (stays j P hs n quiet is)
stays j P (Change next ∷ hs) m quiet is = absurd (false≢true quiet)
stays j P (Tick to length ∷ hs) m quiet is =
    let n = after j m (Tick to length) in
    All-cons (λ n. P n.supervision) n (moments j n hs) is (stays j P hs n quiet is)

-- ---- the reading

-- the reading gives its promise, and after it no brake is ordered
pub record IsGiven (j : Judging) (under : Supervision) (r : OdometerReading) : Type 0 where
  pub is_open : IsOpen under
  pub is_first : under.last_time ≡ None
  pub promises : j.promises under r ≡ true
  pub orders : j.orders under r ≡ false

abbrev pub promised : Supervision → OdometerReading → Promise
promised under r = record { under = under; reading = r; age = 0 }

-- it ends an order that stood before it
pub to_given : (j : Judging) (under : Supervision) (r : OdometerReading) (p : ℤ) (v : ℕ) (order : Option ℕ) →
    IsGiven j under r →
    after j (begins under p v order) (Record (record_kinds.Read r))
    ≡ stands (promised under r) (after_reading under r) p v 0 0 None
unfolding after step
to_given j under r p v order given =
    let m = begins under p v order in
    let c = promised under r in
    ap (λ (last : Option ℕ). after_record j m (record_kinds.Read r)
    (unless time_cause (time_fault last r.time) (after_reading under r))) given.is_first
    ∙ ap (λ (b : Bool). record m {
      supervision = after_reading under r;
      order = if j.orders under r then ordered order else None;
      promise = promise_after b (j.orders under r) c None;
    }) given.promises
    ∙ ap (λ (b : Bool). record m {
      supervision = after_reading under r;
      order = if b then ordered order else None;
      promise = Some c;
    }) given.orders

-- a further reading that gives its promise, and after which no brake is ordered
pub record IsRenewed (j : Judging) (t : Supervision) (r : OdometerReading) : Type 0 where
  pub in_time : time_fault t.last_time r.time ≡ None
  pub promises : j.promises t r ≡ true
  pub orders : j.orders t r ≡ false

pub to_renewed : (j : Judging) (c : Promise) (t : Supervision) (r : OdometerReading) (p : ℤ) (v silence age : ℕ)
    (order : Option ℕ) → IsRenewed j t r →
    after j (stands c t p v silence age order) (Record (record_kinds.Read r))
    ≡ stands (promised t r) (after_reading t r) p v 0 0 None
unfolding after step
to_renewed j c t r p v silence age order renewed =
    let m = stands c t p v silence age order in
    let last = Some (aged_by c age) in
    ap (λ fault. after_record j m (record_kinds.Read r) (unless time_cause fault (after_reading t r))) renewed.in_time
    ∙ ap (λ (b : Bool). record m {
      supervision = after_reading t r;
      silence = 0;
      order = if j.orders t r then ordered order else None;
      promise = promise_after b (j.orders t r) (promised t r) last;
    }) renewed.promises
    ∙ ap (λ (b : Bool). record m {
      supervision = after_reading t r;
      silence = 0;
      order = if b then ordered order else None;
      promise = Some (promised t r);
    }) renewed.orders

-- a further reading that gives none, and after which the brake is ordered
pub record IsOrdering (j : Judging) (t : Supervision) (r : OdometerReading) : Type 0 where
  pub in_time : time_fault t.last_time r.time ≡ None
  pub promises : j.promises t r ≡ false
  pub orders : j.orders t r ≡ true

pub to_ordering : (j : Judging) (c : Promise) (t : Supervision) (r : OdometerReading) (p : ℤ) (v silence age : ℕ)
    (order : Option ℕ) → IsOrdering j t r →
    after j (stands c t p v silence age order) (Record (record_kinds.Read r))
    ≡ stands c (after_reading t r) p v 0 age (ordered order)
unfolding after step
to_ordering j c t r p v silence age order ordering =
    let m = stands c t p v silence age order in
    let last = Some (aged_by c age) in
    ap (λ fault. after_record j m (record_kinds.Read r) (unless time_cause fault (after_reading t r))) ordering.in_time
    ∙ ap (λ (b : Bool). record m {
      supervision = after_reading t r;
      silence = 0;
      order = if j.orders t r then ordered order else None;
      promise = promise_after b (j.orders t r) (promised t r) last;
    }) ordering.promises
    ∙ ap (λ (b : Bool). record m {
      supervision = after_reading t r;
      silence = 0;
      order = if b then ordered order else None;
      promise = if b then last else None;
    }) ordering.orders

-- a ride goes on from its last moment
pub rides_then : (j : Judging) (rule : TickRule) (s : ℕ) (hs : List Happening) (m : Moment) (rest : List Happening) →
    IsRide j rule s m hs → IsRide j rule s (last_moment j m hs) rest → IsRide j rule s m (hs ++ rest)
rides_then j rule s [] m rest one other = other
rides_then j rule s (h ∷ hs) m rest one other =
    (one.0, rides_then j rule s hs (after j m h) rest one.1 other)

-- a whole ride, from just before the reading on
pub rides_on : (j : Judging) (rule : TickRule) (s : ℕ) (test : TickTest) (under : Supervision) (r : OdometerReading)
    (p : ℤ) (v : ℕ) (order : Option ℕ) (hs : List Happening) → IsGiven j under r →
    IsTrueReading s (begins under p v order) r → Shows test rule (promised under r) →
    may_go test (promised under r) p v 0 0 None hs ≡ true →
    IsRide j rule s (begins under p v order) (Record (record_kinds.Read r) ∷ hs)
rides_on j rule s test under r p v order hs given told shows may = (
  λ promises. told,
  subst (λ n. IsRide j rule s n hs) (sym (to_given j under r p v order given))
      (rides j rule s test (promised under r) shows hs (after_reading under r) p v 0 0 None may),
)

-- what is true of the supervisor's state before and after the reading is true at every moment
pub stays_from : (j : Judging) (P : Supervision → Type 0) (under : Supervision) (r : OdometerReading) (p : ℤ) (v : ℕ)
    (order : Option ℕ) (hs : List Happening) → IsGiven j under r → is_quiet hs ≡ true → P under →
    P (after_reading under r) →
    All (λ n. P n.supervision)
    (begins under p v order ∷ moments j (begins under p v order) (Record (record_kinds.Read r) ∷ hs))
stays_from j P under r p v order hs given quiet before now =
    let m = begins under p v order in
    let h = Record (record_kinds.Read r) in
    let Q = λ (n : Moment). P n.supervision in
    let e = to_given j under r p v order given in
    let is = subst Q (sym e) now in
    All-cons Q m (moments j m (h ∷ hs)) before
    (All-cons Q (after j m h) (moments j (after j m h) hs) is (stays j P hs (after j m h) quiet is))

-- ---- its last moment

-- it is the last one from the reading on
pub ends_so : (j : Judging) (under : Supervision) (r : OdometerReading) (p : ℤ) (v : ℕ) (order : Option ℕ)
    (hs : List Happening) → IsGiven j under r →
    last_moment j (begins under p v order) (Record (record_kinds.Read r) ∷ hs)
    ≡ last_moment j (stands (promised under r) (after_reading under r) p v 0 0 None) hs
ends_so j under r p v order hs given = ap (λ n. last_moment j n hs) (to_given j under r p v order given)

-- what is true at every moment is true at the last one
pub at_the_end : (j : Judging) (P : Moment → Type 0) (m : Moment) (h : Happening) (hs : List Happening) →
    All P (moments j m (h ∷ hs)) → P (last_moment j m (h ∷ hs))
at_the_end j P m h [] all = all 0 m (omega arith)
at_the_end j P m h (g ∷ hs) all =
    at_the_end j P (after j m h) g hs (λ k d lt. all (suc k) d (omega (arith, lt)))

-- and so is what is true from the first promise on
pub never_past : (j : Judging) (s place : ℕ) (m : Moment) (h : Happening) (hs : List Happening) (c : Promise) →
    (after j m h).promise ≡ Some c → IsNeverPast s place (moments j m (h ∷ hs)) →
    IsBy s (place_of_cell (pos place)) (point_of (last_moment j m (h ∷ hs)))
never_past j s place m h hs c is never =
    let n = after j m h in
    let later = moments j n hs in
    let P = λ (n : Moment). IsBy s (place_of_cell (pos place)) (point_of n) in
    at_the_end j P m h hs
    (subst (λ ns. All P ns) (ap (λ (x : Option Promise). if is_some x then n ∷ later else since_promised later) is) never)
