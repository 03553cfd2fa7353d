-- Worked rides beside a computer: the computer takes the brake away after the reading, and orders it from the first
-- missing reading on. So its order is the ride's, and its moments are those of the ride.
use Rattle.std.proofs.Common.{◌≡◌, ℕ, ℤ, suc, pos, Bool, true, false, List, [], ◌∷◌, ◌+ℤ◌, refl, subst, sym, ap, ◌∙◌}
use Rattle.std.specs.Prelude.{All, Option, Some, None, is_some, option_map}
use Rattle.std.proofs.lemmas.Bool.{and_parts, false≢true}
use Rattle.std.proofs.lemmas.Option.{none-some, same_Some}
use Rattle.std.proofs.lemmas.List.Elements.{All-nil, All-cons}
use Rattle.sdm_num.specs.Readings.{OdometerReading}
use Rattle.sdm_rules.specs.declared.records.Event.TheVariants as record_kinds
use Rattle.sdm_rules.specs.Records.{step, time_cause, time_fault, unless}
use Rattle.sdm_rules.specs.Supervision.{Supervision, after_reading}
use Rattle.sdm_ride.specs.ComputerRides.{IsRideBeside, moments_beside}
use Rattle.sdm_ride.specs.Happenings.{Happening, Record, Unread, Overdue, Change, Tick}
use Rattle.sdm_ride.specs.Moments.{Judging, Moment, Promise, after, moments, ordered}
use Rattle.sdm_ride.specs.Orders.{AllGoOn, Computer, GoesOn, reading_if, supervision_after, taken_or}
use Rattle.sdm_ride.specs.Rides.{IsTrueReading, TickRule}
use Rattle.sdm_cases.proofs.RideSteps.{IsGiven, may_go, promised, to_given}
use Rattle.sdm_cases.proofs.TickTests.{Shows, TickTest, aged_by, begins, stands}

-- ---- the computer

abbrev pub holds : Supervision → Bool → Computer
holds t order = record { supervision = t; orders_brake = order }

-- after each tick and each missing reading
abbrev pub beside : Supervision → Bool → List Happening → List Computer
beside t order [] = []
beside t order (Record e ∷ hs) = []
beside t order (Unread ∷ hs) = []
beside t order (Overdue ∷ hs) = holds t true ∷ beside t true hs
beside t order (Change next ∷ hs) = []
beside t order (Tick to length ∷ hs) = holds t order ∷ beside t order hs

pub overdue_goes_on : (j : Judging) (t : Supervision) (order : Bool) → GoesOn j (holds t order) Overdue (holds t true)
overdue_goes_on j t order = record {
  supervision = refl;
  judged = λ r is orders. refl;
  overdue = λ is. refl;
  stands = λ none stood. refl;
}

pub tick_goes_on : (j : Judging) (t : Supervision) (order : Bool) (to length : ℕ) →
    GoesOn j (holds t order) (Tick to length) (holds t order)
tick_goes_on j t order to length = record {
  supervision = refl;
  judged = λ r is orders. absurd (none-some r is);
  overdue = λ is. absurd (cc);
  stands = λ none stood. stood;
}

-- it goes on as the ride does
goes_on : (j : Judging) (test : TickTest) (c : Promise) (t : Supervision) (hs : List Happening) (p : ℤ)
    (v silence age : ℕ) (order : Option ℕ) (b : Bool) → may_go test c p v silence age order hs ≡ true →
    AllGoOn j (holds t b) hs (beside t b hs)
goes_on j test c t [] p v silence age order b may = tt
goes_on j test c t (Record e ∷ hs) p v silence age order b may = absurd (false≢true may)
goes_on j test c t (Unread ∷ hs) p v silence age order b may = absurd (false≢true may)
goes_on j test c t (Overdue ∷ hs) p v silence age order b may =
    (overdue_goes_on j t b, goes_on j test c t hs p v 0 age (ordered order) true may)
goes_on j test c t (Change next ∷ hs) p v silence age order b may = absurd (false≢true may)
goes_on j test c t (Tick to length ∷ hs) p v silence age order b may =
    let parts = and_parts (test (aged_by c age) p v silence order to length) _ may in (
      tick_goes_on j t b to length,
      goes_on j test c t hs (p +ℤ pos length) to (suc silence) (suc age) (option_map (λ o. suc o) order) b parts.1,
    )

-- what is true of the supervisor's state is true of each
hold_so : (P : Supervision → Type 0) (t : Supervision) (b : Bool) (hs : List Happening) → P t →
    All (λ d. P d.supervision) (beside t b hs)
hold_so P t b [] is = All-nil (λ (d : Computer). P d.supervision)
hold_so P t b (Record e ∷ hs) is = All-nil (λ (d : Computer). P d.supervision)
hold_so P t b (Unread ∷ hs) is = All-nil (λ (d : Computer). P d.supervision)
hold_so P t b (Overdue ∷ hs) is =
    All-cons (λ (d : Computer). P d.supervision) (holds t true) (beside t true hs) is (hold_so P t true hs is)
hold_so P t b (Change next ∷ hs) is = All-nil (λ (d : Computer). P d.supervision)
hold_so P t b (Tick to length ∷ hs) is =
    All-cons (λ (d : Computer). P d.supervision) (holds t b) (beside t b hs) is (hold_so P t b hs is)

-- ---- the ride beside it

rides_so : (j : Judging) (rule : TickRule) (s : ℕ) (test : TickTest) (c : Promise) → Shows test rule c →
    (hs : List Happening) (t : Supervision) (p : ℤ) (v silence age : ℕ) (order : Option ℕ) →
    may_go test c p v silence age order hs ≡ true →
    IsRideBeside j rule s (stands c t p v silence age order) hs (beside t (is_some order) hs)
unfolding after
rides_so j rule s test c shows [] t p v silence age order may = tt
rides_so j rule s test c shows (Record e ∷ hs) t p v silence age order may = absurd (false≢true may)
rides_so j rule s test c shows (Unread ∷ hs) t p v silence age order may = absurd (false≢true may)
rides_so j rule s test c shows (Overdue ∷ hs) t p v silence age None may =
    (tt, rides_so j rule s test c shows hs t p v 0 age (Some 0) may)
rides_so j rule s test c shows (Overdue ∷ hs) t p v silence age (Some o) may =
    (tt, rides_so j rule s test c shows hs t p v 0 age (Some o) may)
rides_so j rule s test c shows (Change next ∷ hs) t p v silence age order may = absurd (false≢true may)
rides_so j rule s test c shows (Tick to length ∷ hs) t p v silence age None may =
    let parts = and_parts (test (aged_by c age) p v silence None to length) _ may in (
      λ d e. subst (λ (d : Promise). rule d (stands c t p v silence age None) to length) (same_Some _ d e)
          (shows t p v silence age None to length parts.0),
      rides_so j rule s test c shows hs t (p +ℤ pos length) to (suc silence) (suc age) None parts.1,
    )
rides_so j rule s test c shows (Tick to length ∷ hs) t p v silence age (Some o) may =
    let parts = and_parts (test (aged_by c age) p v silence (Some o) to length) _ may in (
      λ d e. subst (λ (d : Promise). rule d (stands c t p v silence age (Some o)) to length) (same_Some _ d e)
          (shows t p v silence age (Some o) to length parts.0),
      rides_so j rule s test c shows hs t (p +ℤ pos length) to (suc silence) (suc age) (Some (suc o)) parts.1,
    )

same_moments : (j : Judging) (test : TickTest) (c : Promise) (hs : List Happening) (t : Supervision) (p : ℤ)
    (v silence age : ℕ) (order : Option ℕ) → may_go test c p v silence age order hs ≡ true →
    moments_beside j (stands c t p v silence age order) hs (beside t (is_some order) hs)
    ≡ moments j (stands c t p v silence age order) hs
unfolding after
same_moments j test c [] t p v silence age order may = refl
same_moments j test c (Record e ∷ hs) t p v silence age order may = absurd (false≢true may)
same_moments j test c (Unread ∷ hs) t p v silence age order may = absurd (false≢true may)
same_moments j test c (Overdue ∷ hs) t p v silence age None may =
    ap (λ ms. stands c t p v 0 age (Some 0) ∷ ms) (same_moments j test c hs t p v 0 age (Some 0) may)
same_moments j test c (Overdue ∷ hs) t p v silence age (Some o) may =
    ap (λ ms. stands c t p v 0 age (Some o) ∷ ms) (same_moments j test c hs t p v 0 age (Some o) may)
same_moments j test c (Change next ∷ hs) t p v silence age order may = absurd (false≢true may)
same_moments j test c (Tick to length ∷ hs) t p v silence age None may =
    let parts = and_parts (test (aged_by c age) p v silence None to length) _ may in
    let q = p +ℤ pos length in
    ap (λ ms. stands c t q to (suc silence) (suc age) None ∷ ms)
    (same_moments j test c hs t q to (suc silence) (suc age) None parts.1)
same_moments j test c (Tick to length ∷ hs) t p v silence age (Some o) may =
    let parts = and_parts (test (aged_by c age) p v silence (Some o) to length) _ may in
    let q = p +ℤ pos length in
    ap (λ ms. stands c t q to (suc silence) (suc age) (Some (suc o)) ∷ ms)
    (same_moments j test c hs t q to (suc silence) (suc age) (Some (suc o)) parts.1)

-- ---- from the reading on

-- the computer after the reading, and after what follows
abbrev pub from_reading : Supervision → OdometerReading → List Happening → List Computer
from_reading under r hs = holds (after_reading under r) false ∷ beside (after_reading under r) false hs

-- what is true of the supervisor's state before and after the reading is true of each
pub all_hold : (P : Supervision → Type 0) (under : Supervision) (r : OdometerReading) (hs : List Happening) → P under →
    P (after_reading under r) → All (λ d. P d.supervision) (holds under true ∷ from_reading under r hs)
all_hold P under r hs before now =
    let next = after_reading under r in
    let Q = λ (d : Computer). P d.supervision in
    All-cons Q (holds under true) (from_reading under r hs) before
    (All-cons Q (holds next false) (beside next false hs) now (hold_so P next false hs now))

-- a computer that brakes before the reading goes on as the ride does
pub all_go_on : (j : Judging) (test : TickTest) (under : Supervision) (r : OdometerReading) (p : ℤ) (v : ℕ)
    (hs : List Happening) → IsGiven j under r → may_go test (promised under r) p v 0 0 None hs ≡ true →
    AllGoOn j (holds under true) (Record (record_kinds.Read r) ∷ hs) (from_reading under r hs)
unfolding step
all_go_on j test under r p v hs given may =
    let next = after_reading under r in
    let to : supervision_after under (Record (record_kinds.Read r)) ≡ next =
    ap (λ (last : Option ℕ). taken_or under (unless time_cause (time_fault last r.time) next)) given.is_first in
    let reads : reading_if (record_kinds.Read r) (step under (record_kinds.Read r)) ≡ Some r =
    ap (λ (last : Option ℕ). reading_if (record_kinds.Read r) (unless time_cause (time_fault last r.time) next))
    given.is_first in (
      record {
        supervision = sym to;
        judged = λ x is orders. absurd (false≢true (sym given.orders ∙ subst (λ x. j.orders under x ≡ true)
            (sym (same_Some r x (sym reads ∙ is))) orders));
        overdue = λ is. absurd (cc);
        stands = λ none stood. absurd (none-some r (sym none ∙ reads));
      },
      goes_on j test (promised under r) next hs p v 0 0 None false may,
    )

-- and its ride is one beside it
pub rides_beside : (j : Judging) (rule : TickRule) (s : ℕ) (test : TickTest) (under : Supervision) (r : OdometerReading)
    (p : ℤ) (v : ℕ) (order : Option ℕ) (hs : List Happening) → IsGiven j under r →
    IsTrueReading s (begins under p v order) r → Shows test rule (promised under r) →
    may_go test (promised under r) p v 0 0 None hs ≡ true →
    IsRideBeside j rule s (begins under p v order) (Record (record_kinds.Read r) ∷ hs) (from_reading under r hs)
rides_beside j rule s test under r p v order hs given told shows may =
    let next = after_reading under r in (
      λ promises. told,
      subst (λ (n : Moment). IsRideBeside j rule s (record n { order = None }) hs (beside next false hs))
          (sym (to_given j under r p v order given))
          (rides_so j rule s test (promised under r) shows hs next p v 0 0 None may),
    )

-- whose moments are those of the ride
pub moments_are : (j : Judging) (test : TickTest) (under : Supervision) (r : OdometerReading) (p : ℤ) (v : ℕ)
    (order : Option ℕ) (hs : List Happening) → IsGiven j under r →
    may_go test (promised under r) p v 0 0 None hs ≡ true →
    moments_beside j (begins under p v order) (Record (record_kinds.Read r) ∷ hs) (from_reading under r hs)
    ≡ moments j (begins under p v order) (Record (record_kinds.Read r) ∷ hs)
moments_are j test under r p v order hs given may =
    let next = after_reading under r in
    let e = to_given j under r p v order given in
    let first = stands (promised under r) next p v 0 0 None in
    ap (λ (n : Moment). record n { order = None } ∷ moments_beside j (record n { order = None }) hs (beside next false hs)) e
    ∙ ap (λ ms. first ∷ ms) (same_moments j test (promised under r) hs next p v 0 0 None may)
    ∙ ap (λ (n : Moment). n ∷ moments j n hs) (sym e)
