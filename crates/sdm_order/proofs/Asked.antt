-- Targets that are asked, and those that they stand in for: what some target passes or prints is passed or printed by
-- one that is asked, and the other way round since each of these is one of all.
use Rattle.std.proofs.Common.{◌≡◌, ℕ, ℤ, zero, pos, Bool, true, false, nat_le, nat_lt, List, [], ◌∷◌, Option, Some, None}
use Rattle.std.proofs.Common.{inl, inr, ◌&&◌, ◌<◌, ◌≤◌, ◌*ℤ◌, ◌+ℤ◌, ◌≤ℤ◌, refl, sym, ap, subst, arith}
use Rattle.std.specs.Prelude.{All, Any, Contains, fold, option_map, slice_index_or}
use Rattle.std.specs.Int.{int_min}
use Rattle.std.specs.List.{list_all, list_any}
use Rattle.std.specs.Option.{option_map_or}
use Rattle.std.proofs.lemmas.Int.{ints, fold-int_min_bounds, fold-int_min_reached}
use Rattle.std.proofs.lemmas.Bool.{false≢true, le-leb, leb-true, lt-ltb, ltb-true}
use Rattle.std.proofs.lemmas.List.Elements.{All-cons, All-contains, All-contains_itself, Contains-append_right}
use Rattle.std.proofs.lemmas.List.Folds.{Any-from_list_any, list_any-from_Any}
use Rattle.std.proofs.lemmas.List.Sums.{AllPass-from_list_all, list_all-from_AllPass}
use Rattle.sdm_num.specs.Fractions.{Fraction, IsAtMost, IsBefore, floor, whole}
use Rattle.sdm_num.proofs.Comparisons.{lt_is, lt_of}
use Rattle.sdm_num.proofs.Floors.{floor_low, floor_high}
use Rattle.sdm_num.proofs.Order.{at_most_before}
use Rattle.sdm_rules.specs.declared.limits.LimitKind.{LimitKind}
use Rattle.sdm_rules.specs.declared.targets.Target.{Target}
use Rattle.sdm_rules.specs.Limits.{SupervisionLimits, limit_in}
use Rattle.sdm_rules.specs.Machines.{Implies}
use Rattle.sdm_rules.specs.Margins.{margin_of}
use Rattle.sdm_rules.specs.Supervision.{least_of, shown_limit, whole_mm}
use Rattle.sdm_rules.specs.Targets.{target_speed, with_margin}
use Rattle.sdm_rules.specs.Triggers.{Situation, front_for, is_past, passes, some_passed}
use Rattle.sdm_laws.proofs.BrakeCurves.CurveOrder.{floor_order}
use Rattle.sdm_laws.proofs.Rows.PrintedLimits.{shown, IsShown, in_shown, from_shown}
use Rattle.sdm_laws.proofs.Rows.TriggerOrder.{and_implies}
use Rattle.sdm_order.specs.AskedTargets.{AreFractions, AreOf, IsNoLater, IsShownFor, StandsIn}

-- ---- tests over targets

-- tests that imply each other answer the same
alike : (a b : Bool) → Implies a b → Implies b a → a ≡ b
alike true b h k = sym (h refl)
alike false true h k = absurd (false≢true (k refl))
alike false false h k = refl

module _ (p : Target → Bool) (all asked : List Target) (of : AreOf all asked) where
  -- some target passes only where one that is asked does
  same_any : ((t : Target) → Contains all t → p t ≡ true → Any (λ r. p r ≡ true) asked) →
      list_any p all ≡ list_any p asked
  same_any stands =
      alike _ _
      (λ e. (let a = Any-from_list_any p all e in list_any-from_Any p asked (stands a.1 (a.0, a.2, a.3) a.4)))
      (λ e. (let a = Any-from_list_any p asked e in
      let c = of a.1 (a.0, a.2, a.3) in
      list_any-from_Any p all (c.0, a.1, c.1, c.2, a.4)))

  -- all targets pass where those do that are asked
  pub same_all : ((t : Target) → Contains all t → p t ≡ false → Any (λ r. p r ≡ false) asked) →
      list_all p all ≡ list_all p asked
  same_all stands =
      alike _ _
      (λ e. list_all-from_AllPass p asked
      (λ k d lt. All-contains (λ (r : Target). p r ≡ true) all _ (AllPass-from_list_all p all e)
      (of _ (All-contains_itself asked k d lt))))
      (λ e. list_all-from_AllPass p all
      (λ k d lt. passes_there (slice_index_or all k d) (All-contains_itself all k d lt) (AllPass-from_list_all p asked e)))
    where
      passes_there : (t : Target) → Contains all t → All (λ r. p r ≡ true) asked → p t ≡ true
      passes_there t there each =
          elim (p t) as (λ b. p t ≡ b → b ≡ true) [
            | true ↦ λ e. refl
            | false ↦ λ e. (let a = stands t there e in
                let passed : p a.1 ≡ true = All-contains (λ (r : Target). p r ≡ true) asked a.1 each (a.0, a.2, a.3) in
                absurd (false≢true (subst (λ (b : Bool). b ≡ true) a.4 passed)))
          ] refl

-- ---- limits that are passed

-- what is past a limit is past each earlier one
pub past_earlier : (shift : ℕ) (front : ℤ) (x y : Fraction) → 0 < x.m → 0 < y.m → IsAtMost x y →
    Implies (is_past shift front y) (is_past shift front x)
past_earlier shift front x y x_pos y_pos le e =
    let at = front +ℤ pos shift in
    let past = lt_of y.n (pos y.m *ℤ at) e in
    let there : IsBefore y (whole at) = record { crossed = omega (arith, ints, past) } in
    let here = (at_most_before x y (whole at) x_pos y_pos le there).crossed in
    lt_is x.n (pos x.m *ℤ at) (omega (arith, ints, here))

-- so where there may be no limit
past_if_any : (shift : ℕ) (front : ℤ) (x y : Option Fraction) → ((a : Fraction) → x ≡ Some a → 0 < a.m) →
    ((a : Fraction) → y ≡ Some a → 0 < a.m) → IsNoLater x y →
    Implies (option_map_or (is_past shift front) y false) (option_map_or (is_past shift front) x false)
past_if_any shift front x None x_pos y_pos h = λ e. absurd (false≢true e)
past_if_any shift front None (Some b) x_pos y_pos h = absurd h
past_if_any shift front (Some a) (Some b) x_pos y_pos h =
    past_earlier shift front a b (x_pos a refl) (y_pos b refl) h

pub same_passed : (kind : LimitKind) (limits : Target → SupervisionLimits) (shift : ℕ) (s : Situation)
    (asked : List Target) → AreFractions (λ t. limit_in kind (limits t)) → AreOf s.targets asked →
    ((t : Target) → Contains s.targets t → with_margin (margin_of kind) t < s.speed →
    Any (StandsIn kind limits s t) asked) →
    some_passed kind limits shift s ≡ some_passed kind limits shift (record s { targets = asked })
same_passed kind limits shift s asked fractions of stands =
    same_any (λ t. passes kind s.speed s.est s.front shift t (limits t)) s.targets asked of
    (λ t there e. (
    let a = stands t there (ltb-true _ _ (first_true _ _ e)) in
    let r = a.4 in (
      a.0,
      a.1,
      a.2,
      a.3,
      and_implies (nat_lt (with_margin (margin_of kind) t) s.speed)
          (nat_lt (with_margin (margin_of kind) a.1) s.speed) _ _
          (λ f. lt-ltb _ _ (r.above (ltb-true _ _ f)))
          (rw r.front (past_if_any shift (front_for s.est s.front t.kind) (limit_in kind (limits a.1))
          (limit_in kind (limits t)) (fractions a.1) (fractions t) r.no_later)) e,
    )))
  where
    first_true : (a b : Bool) → (a && b) ≡ true → a ≡ true
    first_true true b e = refl
    first_true false b e = absurd (false≢true e)

-- ---- limits that are printed

-- a place of a list that is at or before another one
record HasNoLater (ys : List ℤ) (x : ℤ) : Type 0 where
  place : ℤ
  there : Contains ys place
  at_most : place ≤ℤ x

-- the least of a list stands in it
least_there : (x : ℤ) (xs : List ℤ) → Contains (x ∷ xs) (fold int_min x xs)
least_there x xs =
    let least = fold int_min x xs in
    elim (fold-int_min_reached x xs least refl) [
      | inl first ↦ (zero, omega arith, sym first)
      | inr further ↦ Contains-append_right (x ∷ []) xs least further
    ]

-- and is at or before each that stands in it
least_at_most : (x : ℤ) (xs : List ℤ) (y : ℤ) → Contains (x ∷ xs) y → fold int_min x xs ≤ℤ y
least_at_most x xs y there =
    let least = fold int_min x xs in
    let From : ℤ → Type 0 = λ z. least ≤ℤ z in
    let bounds = fold-int_min_bounds x xs least refl in
    All-contains From (x ∷ xs) y (All-cons From x xs bounds.0 bounds.1) there

-- lists of which each has for each place of the other one that is no later have the same least
same_least : (xs ys : List ℤ) → ((x : ℤ) → Contains xs x → HasNoLater ys x) →
    ((y : ℤ) → Contains ys y → HasNoLater xs y) →
    least_of xs ≡ least_of ys
same_least [] [] to from = refl
same_least [] (y ∷ ys) to from = (let h = from y (zero, omega arith, refl) in absurd (omega (arith, h.there.1)))
same_least (x ∷ xs) [] to from = (let h = to x (zero, omega arith, refl) in absurd (omega (arith, h.there.1)))
same_least (x ∷ xs) (y ∷ ys) to from =
    let a = fold int_min x xs in
    let b = fold int_min y ys in
    let h = to a (least_there x xs) in
    let k = from b (least_there y ys) in
    let one = least_at_most y ys h.place h.there in
    let two = least_at_most x xs k.place k.there in
    ap Some (omega (arith, ints, one, two, h.at_most, k.at_most))

-- a limit that is no later is no later in millimetres
mm_order : (x y : Fraction) → 0 < x.m → 0 < y.m → IsAtMost x y → whole_mm x ≤ℤ whole_mm y
mm_order x y x_pos y_pos le =
    omega (
      arith,
      ints,
      floor_order x y x_pos y_pos le,
      floor_low 540_000_000 (floor x) (omega arith),
      floor_high 540_000_000 (floor y) (omega arith),
    )

-- the limit of which a place is printed
record IsPlaceOf (limit : Option Fraction) (v : ℤ) : Type 0 where
  place : Fraction
  is : limit ≡ Some place
  printed : whole_mm place ≡ v

printed_of : (limit : Option Fraction) (v : ℤ) → option_map whole_mm limit ≡ Some v → IsPlaceOf limit v
printed_of None v e = cc
printed_of (Some a) v e = record { place = a; is = refl; printed = cc }

-- a limit that is no later than another one
record HasNoLaterLimit (limit : Option Fraction) (a : Fraction) : Type 0 where
  place : Fraction
  is : limit ≡ Some place
  at_most : IsAtMost place a

no_later_limit : (x y : Option Fraction) (a : Fraction) → IsNoLater x y → y ≡ Some a → HasNoLaterLimit x a
no_later_limit x None a h e = cc
no_later_limit None (Some b) a h e = absurd h
no_later_limit (Some c) (Some b) a h e = let same : b ≡ a = cc in record { place = c; is = refl; at_most = rw same at h }

pub same_shown : (speed : ℕ) (limit : Target → Option Fraction) (all asked : List Target) → AreFractions limit →
    AreOf all asked →
    ((t : Target) → Contains all t → target_speed t ≤ speed → Any (IsShownFor speed limit t) asked) →
    shown_limit speed all limit ≡ shown_limit speed asked limit
unfolding shown
same_shown speed limit all asked fractions of stands =
    same_least (shown mm slow all) (shown mm slow asked)
    (λ x there. (
    let h : IsShown mm slow all x = All-contains (IsShown mm slow all) _ x (from_shown mm slow all) there in
    let a = stands h.target h.there (leb-true _ _ h.passes) in
    let one = printed_of (limit h.target) x h.is in
    let other = no_later_limit (limit a.1) (limit h.target) one.place a.4.no_later one.is in
    record {
      place = whole_mm other.place;
      there = in_shown mm slow asked a.1 (whole_mm other.place) (a.0, a.2, a.3) (le-leb _ _ a.4.slow)
          (ap (option_map whole_mm) other.is);
      at_most = subst (λ (z : ℤ). whole_mm other.place ≤ℤ z) one.printed
          (mm_order other.place one.place (fractions a.1 other.place other.is)
          (fractions h.target one.place one.is) other.at_most);
    }))
    (λ y there. (
    let h : IsShown mm slow asked y = All-contains (IsShown mm slow asked) _ y (from_shown mm slow asked) there in
    record {
      place = y;
      there = in_shown mm slow all h.target y (of h.target h.there) h.passes h.is;
      at_most = omega (arith, ints);
    }))
  where
    mm : Target → Option ℤ
    mm t = option_map whole_mm (limit t)

    slow : Target → Bool
    slow t = nat_le (target_speed t) speed
