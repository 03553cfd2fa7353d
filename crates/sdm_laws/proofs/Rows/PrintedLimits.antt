-- A printed limit: it is the least of computed ones, each rounded down to a millimetre, and each of these lies just
-- before its exact one. What stands in the list of printed places is shown by induction.
use Rattle.std.proofs.Common.{◌≡◌, ℕ, ℤ, zero, suc, pos, Bool, true, false, cond, nat_le, List, [], ◌∷◌, Option, Some}
use Rattle.std.proofs.Common.{None, inl, inr, ◌*◌, ◌+ℤ◌, ◌*ℤ◌, ◌≤ℤ◌, ◌<ℤ◌, refl, sym, ap, subst, arith}
use Rattle.std.specs.Prelude.{All, Contains, filter, filter_map, option_map, fold}
use Rattle.std.specs.Int.{int_min}
use Rattle.std.specs.List.{cons_option}
use Rattle.std.proofs.lemmas.Int.{ints, fold-int_min_bounds, fold-int_min_reached}
use Rattle.std.proofs.lemmas.Bool.{le-leb, leb-true}
use Rattle.std.proofs.lemmas.List.Elements.{All-cons, All-contains, All-nil, All-weaker, Contains-append_right}
use Rattle.sdm_num.specs.Units.{millimetre, place_of_mm}
use Rattle.sdm_num.specs.Fractions.{Fraction, IsAtMost, IsBefore, floor, more, whole}
use Rattle.sdm_num.proofs.Ints.{scale-+ℤ, scale-≤}
use Rattle.sdm_num.proofs.Floors.{floor_low, floor_high}
use Rattle.sdm_num.proofs.Order.{at_most_in, at_most_trans, at_most_before, whole_at_most}
use Rattle.sdm_num.specs.Readings.{estimate_of}
use Rattle.sdm_rules.specs.declared.limits.LimitKind.{LimitKind}
use Rattle.sdm_rules.specs.declared.limits.LimitKind.TheVariants.{Ebi, Sbi, Warning, Permitted, Indication}
use Rattle.sdm_rules.specs.declared.targets.Target.{Target}
use Rattle.sdm_rules.specs.Curves.{most_slack}
use Rattle.sdm_rules.specs.Targets.{target_speed}
use Rattle.sdm_rules.specs.Limits.{computed, exact_places, limit_in, limits_of}
use Rattle.sdm_rules.specs.Triggers.{Situation}
use Rattle.sdm_rules.specs.Supervision.{situation_of, row_in, least_of, shown_limit, whole_mm}
use Rattle.sdm_laws.specs.SupervisionLaws.{IsJustBefore, AreJustBeforeIfAny}
use Rattle.sdm_laws.specs.PrintedLimits.{IsPrintedOf, IsPrinted, LawOfPrintedLimits}
use Rattle.sdm_laws.proofs.Rows.Headline.{limits}

-- ---- one limit

-- rounded down to a millimetre, a place just before another one is at most it, and less than two millimetres before it
at_most_printed : (low x : Fraction) → IsJustBefore low x → IsAtMost (whole (place_of_mm (whole_mm low))) x
at_most_printed low x h =
    at_most_trans (whole (place_of_mm (whole_mm low))) (whole (floor low)) x (omega arith)
    (whole_at_most _ _ (let f = floor_low millimetre (floor low) (omega arith) in omega (arith, ints, f)))
    (at_most_trans (whole (floor low)) low x h.low_positive
    (at_most_in (floor low) low (floor_low low.m low.n h.low_positive)) h.not_past)

-- what lies below the next grain is below a place further on with so many grains more
below_further : (m : ℕ) (n z w : ℤ) (d : ℕ) → n <ℤ (pos m *ℤ (z +ℤ pos 1)) → ((z +ℤ pos 1) +ℤ pos d) ≤ℤ w →
    (pos 1 *ℤ (n +ℤ pos (d * m))) <ℤ (pos m *ℤ w)
below_further m n z w d lt le =
    let further = scale-≤ m ((z +ℤ pos 1) +ℤ pos d) w le in
    let parts = scale-+ℤ m (z +ℤ pos 1) (pos d) in
    omega (arith, ints, further, parts)

-- an exact place is less than two millimetres past the printed one
near_printed : (low x : Fraction) → IsJustBefore low x →
    IsBefore x (whole (place_of_mm (whole_mm low) +ℤ pos (2 * millimetre)))
near_printed low x h =
    let high = floor_high millimetre (floor low) (omega arith) in
    at_most_before x (more low most_slack) _ h.positive h.low_positive h.near
    (record {
      crossed = below_further low.m low.n (floor low) _ most_slack (floor_high low.m low.n h.low_positive)
          (omega (arith, ints, high));
    })

-- ---- what is printed of a list of targets

-- the places that are printed of targets that pass `p`: those that `f` gives
unfoldable pub shown : (Target → Option ℤ) → (Target → Bool) → List Target → List ℤ
shown f p ts = filter_map f (filter p ts)

-- the value is printed of a target of the list that passes
pub record IsShown (f : Target → Option ℤ) (p : Target → Bool) (ts : List Target) (v : ℤ) : Type 0 where
  pub target : Target
  pub there : Contains ts target
  pub passes : p target ≡ true
  pub is : f target ≡ Some v

module _ (f : Target → Option ℤ) (p : Target → Bool) where
  -- what stands in a list stands in it behind one more
  pub in_cons : (o : Option ℤ) (vs : List ℤ) (v : ℤ) → Contains vs v → Contains (cons_option o vs) v
  in_cons None vs v h = h
  in_cons (Some w) vs v h = Contains-append_right (w ∷ []) vs v h

  -- what is shown of the later targets is shown of all
  pub keeps : (x : Target) (xs : List Target) (v : ℤ) → Contains (shown f p xs) v → Contains (shown f p (x ∷ xs)) v
  unfolding shown
  keeps x xs v h =
      elim (p x) as (λ b. Contains (filter_map f (cond b (x ∷ filter p xs) (filter p xs))) v) [
        | true ↦ in_cons (f x) _ v h
        | false ↦ h
      ]

  -- what a passing first target gives is shown
  pub adds : (x : Target) (xs : List Target) (v : ℤ) → p x ≡ true → f x ≡ Some v → Contains (shown f p (x ∷ xs)) v
  unfolding shown
  adds x xs v e k = rw (e, k) (zero, omega arith, refl)

  -- a target that passes is shown
  pub in_shown : (ts : List Target) (t : Target) (v : ℤ) → Contains ts t → p t ≡ true → f t ≡ Some v →
      Contains (shown f p ts) v
  in_shown [] t v (k, lt, is) e j = absurd (omega arith)
  in_shown (x ∷ xs) t v (zero, lt, is) e j =
      adds x xs v (subst (λ (y : Target). p y ≡ true) (sym is) e) (subst (λ (y : Target). f y ≡ Some v) (sym is) j)
  in_shown (x ∷ xs) t v (suc k, lt, is) e j = keeps x xs v (in_shown xs t v (k, omega arith, is) e j)

  -- what is of a later target is of a target
  pub later : (x : Target) (xs : List Target) (v : ℤ) → IsShown f p xs v → IsShown f p (x ∷ xs) v
  later x xs v h =
      record {
        target = h.target;
        there = Contains-append_right (x ∷ []) xs h.target h.there;
        passes = h.passes;
        is = h.is;
      }

  -- behind a first target that passes, what it gives and what the later ones give are each of a target
  pub from_cons : (x : Target) (xs : List Target) (vs : List ℤ) (o : Option ℤ) → p x ≡ true → f x ≡ o →
      All (IsShown f p (x ∷ xs)) vs → All (IsShown f p (x ∷ xs)) (cons_option o vs)
  from_cons x xs vs None e j rest = rest
  from_cons x xs vs (Some w) e j rest =
      All-cons (IsShown f p (x ∷ xs)) w vs
      (record { target = x; there = (zero, omega arith, refl); passes = e; is = j }) rest

  -- what is shown is that of a target
  pub from_shown : (ts : List Target) → All (IsShown f p ts) (shown f p ts)
  unfolding shown
  from_shown [] = All-nil (IsShown f p [])
  from_shown (x ∷ xs) =
      let rest = All-weaker (IsShown f p xs) (IsShown f p (x ∷ xs)) (later x xs) _ (from_shown xs) in
      let at : List Target → Type 0 = λ us. All (IsShown f p (x ∷ xs)) (filter_map f us) in
      elim (p x) as (λ b. p x ≡ b → at (cond b (x ∷ filter p xs) (filter p xs))) [
        | true ↦ λ e. from_cons x xs _ (f x) e refl rest
        | false ↦ λ e. rest
      ] refl

-- ---- a printed limit

-- the exact place of which a computed one is printed
record HasExact (x : Option Fraction) (v : ℤ) : Type 0 where
  place : Fraction
  is : x ≡ Some place
  not_past : IsAtMost (whole (place_of_mm v)) place
  near : IsBefore place (whole (place_of_mm v +ℤ pos (2 * millimetre)))

-- where a computed place is printed, there is an exact one just past it
has_exact : (low x : Option Fraction) (v : ℤ) → AreJustBeforeIfAny low x → option_map whole_mm low ≡ Some v →
    HasExact x v
has_exact None x v h e = cc
has_exact (Some a) None v h e = absurd h
has_exact (Some a) (Some b) v h e =
    let is : whole_mm a ≡ v = cc in
    record {
      place = b;
      is = refl;
      not_past = subst (λ (w : ℤ). IsAtMost (whole (place_of_mm w)) b) is
          (at_most_printed a b h);
      near =
          subst (λ (w : ℤ). IsBefore b (whole (place_of_mm w +ℤ pos (2 * millimetre)))) is (near_printed a b h);
    }

-- the computed place beside an exact one
record HasComputed (low : Option Fraction) (b : Fraction) : Type 0 where
  place : Fraction
  is : low ≡ Some place
  just : IsJustBefore place b

-- where there is an exact place, there is a computed one just before it
has_computed : (low x : Option Fraction) (b : Fraction) → AreJustBeforeIfAny low x → x ≡ Some b → HasComputed low b
has_computed None None b h e = cc
has_computed None (Some y) b h e = absurd h
has_computed (Some a) None b h e = cc
has_computed (Some a) (Some y) b h e = record {
  place = a;
  is = refl;
  just = (let is : y ≡ b = cc in subst (λ (z : Fraction). IsJustBefore a z) is h);
}

module _ (now : Situation) (low exact : Target → Option Fraction)
    (near : (t : Target) → AreJustBeforeIfAny (low t) (exact t)) where
  -- the printed place of a target's computed limit
  abbrev mm_of : Target → Option ℤ
  mm_of t = option_map whole_mm (low t)

  -- a target whose limits are shown: its speed is at most the train's
  abbrev is_slow : Target → Bool
  is_slow t = nat_le (target_speed t) now.speed

  -- the place that is printed of a target stands in the list
  printed_in : (t : Target) (x : Fraction) → IsPrintedOf now exact t x →
      (v : ℤ) × Contains (shown mm_of is_slow now.targets) v × IsAtMost (whole (place_of_mm v)) x
  printed_in t x h =
      let c = has_computed (low t) (exact t) x (near t) h.has in (
        whole_mm c.place,
        in_shown mm_of is_slow now.targets t (whole_mm c.place) h.there (le-leb _ _ h.slow)
            (ap (option_map whole_mm) c.is),
        at_most_printed c.place x c.just,
      )

  -- of the list of printed places the least is printed rightly, or nothing where it is empty
  printed_by : (vs : List ℤ) → shown mm_of is_slow now.targets ≡ vs → IsPrinted now exact (least_of vs)
  printed_by [] e = λ t x h.
      let i = printed_in t x h in
      let there = subst (λ (l : List ℤ). Contains l i.0) e i.1 in
      absurd (omega (arith, there.1))
  printed_by (v ∷ vs) e =
      let least = fold int_min v vs in
      let From : ℤ → Type 0 = λ z. least ≤ℤ z in
      let bounds = fold-int_min_bounds v vs least refl in
      let there : Contains (v ∷ vs) least = elim (fold-int_min_reached v vs least refl) [
        | inl is ↦ (zero, omega arith, sym is)
        | inr later ↦ Contains-append_right (v ∷ []) vs least later
      ] in
      let all_shown = subst (All (IsShown mm_of is_slow now.targets)) e (from_shown mm_of is_slow now.targets) in
      let from = All-contains (IsShown mm_of is_slow now.targets) (v ∷ vs) least all_shown there in
      let x = has_exact (low from.target) (exact from.target) least (near from.target) from.is in
      record {
        not_past = λ t y h.
            let i = printed_in t y h in
            let i_there = subst (λ (l : List ℤ). Contains l i.0) e i.1 in
            let le : least ≤ℤ i.0 = All-contains From (v ∷ vs) i.0 (All-cons From v vs bounds.0 bounds.1) i_there in
            at_most_trans (whole (place_of_mm least)) (whole (place_of_mm i.0)) y (omega arith)
            (whole_at_most _ _ (omega (arith, ints, le))) i.2;
        target = from.target;
        place = x.place;
        printed = record { there = from.there; slow = leb-true _ _ from.passes; has = x.is };
        near = x.near;
      }

  -- the limit in a row is printed rightly
  pub printed : IsPrinted now exact (shown_limit now.speed now.targets low)
  unfolding shown
  printed = printed_by _ refl

-- and so is each of the row's limits
pub printed_limits : LawOfPrintedLimits
unfolding row_in
printed_limits s r o =
    let now = situation_of s r in
    let low = limits_of computed s.train_and_track (estimate_of r) in
    let exact = limits_of exact_places s.train_and_track (estimate_of r) in
    let near = (limits s r o).limits in
    let printed_of = λ (kind : LimitKind).
    printed now (λ t. limit_in kind (low t)) (λ t. limit_in kind (exact t)) (λ t. (near t).each kind) in
    record {
      ebi = printed_of Ebi;
      sbi = printed_of Sbi;
      warning = printed_of Warning;
      permitted = printed_of Permitted;
      indication = printed_of Indication;
    }
