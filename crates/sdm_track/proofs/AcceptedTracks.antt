-- A track that breaks no rule is within its ranges: where each entry, and each pair of neighbours, was tested in turn
-- with no fault, all of them keep the rule.
use Rattle.std.proofs.Common.{◌≡◌, ℕ, zero, suc, ℤ, pos, ◌<◌, ◌≤◌, ◌+ℤ◌, ◌≤ℤ◌, All, Bool, true, false, if◌then◌else◌}
use Rattle.std.proofs.Common.{List, [], ◌∷◌, length, get_or, Option, Some, None, inl, inr, refl, arith}
use Rattle.std.proofs.lemmas.Int.{ints}
use Rattle.std.proofs.lemmas.Bool.{cases_lt}
use Rattle.sdm_num.proofs.Comparisons.{not_lt_of}
use Rattle.sdm_rules.specs.declared.data.Gradient.{Gradient}
use Rattle.sdm_rules.specs.declared.data.SpeedStep.{SpeedStep}
use Rattle.sdm_rules.specs.declared.data.Area.{Area}
use Rattle.sdm_rules.specs.declared.faults.Section.{Section}
use Rattle.sdm_rules.specs.declared.faults.Section.TheVariants as sections
use Rattle.sdm_rules.specs.Data.{TrackData}
use Rattle.sdm_rules.specs.Ranges.{or_else, count_fault, value_fault, gap_fault, order_fault, length_fault}
use Rattle.sdm_rules.specs.Ranges.{gradients_fault, speeds_fault, areas_fault, track_fault, gradient_refused}
use Rattle.sdm_rules.specs.Ranges.{speed_refused, area_refused, most_gradients, most_speeds, most_areas}
use Rattle.sdm_rules.proofs.FaultLaws.{neither, not_refused}
use Rattle.sdm_track.specs.Steps.{IsFromZero, IsRising}
use Rattle.sdm_track.specs.Ranges.{IsGradient, IsSpeedStep, IsArea, AreGradients, AreSpeeds, AreAreas, IsTrack}

-- ---- tests that found no fault

-- a test for a fault that gives none, and nor does what is tested later
not_found : {F : Type 0} (test : Bool) (fault : F) (later : Option F) → (if test then Some fault else later) ≡ None →
    (test ≡ false) × (later ≡ None)
not_found true fault later e = cc
not_found false fault later e = (refl, e)

-- ---- each entry, and each pair of neighbours

-- no entry of the list has a key that is refused
each_accepted : {E : Type 0} (list : Section) (key_refused : E → Option ℕ) (i : ℕ) (es : List E) →
    value_fault list key_refused i es ≡ None →
    (k : ℕ) (d : E) → k < length es → key_refused (get_or es k d) ≡ None
each_accepted list key_refused i [] e k d l = absurd (omega arith)
each_accepted list key_refused i (x ∷ xs) e zero d l =
    not_refused _ (key_refused x) (neither _ (value_fault list key_refused (suc i) xs) e).0
each_accepted list key_refused i (x ∷ xs) e (suc k) d l = each_accepted list key_refused (suc i) xs
    (neither _ (value_fault list key_refused (suc i) xs) e).1 k d (omega arith)

-- no entry starts too early after the one before it
each_in_order : {E : Type 0} (list : Section) (start past : E → ℤ) (i : ℕ) (es : List E) →
    order_fault list start past i es ≡ None →
    (k : ℕ) (d : E) → suc k < length es → past (get_or es k d) ≤ℤ start (get_or es (suc k) d)
each_in_order list start past i [] e k d l = absurd (omega arith)
each_in_order list start past i (x ∷ []) e k d l = absurd (omega arith)
each_in_order list start past i (x ∷ next ∷ more) e zero d l =
    not_lt_of (start next) (past x) (not_found _ _ (order_fault list start past (suc i) (next ∷ more)) e).0
each_in_order list start past i (x ∷ next ∷ more) e (suc k) d l = each_in_order list start past (suc i) (next ∷ more)
    (not_found _ _ (order_fault list start past (suc i) (next ∷ more)) e).1 k d (omega arith)

-- where each entry ends past its start and its neighbour starts no earlier, all later ones do
all_in_order : {E : Type 0} (start past : E → ℤ) (es : List E) →
    ((k : ℕ) (d : E) → k < length es → start (get_or es k d) ≤ℤ past (get_or es k d)) →
    ((k : ℕ) (d : E) → suc k < length es → past (get_or es k d) ≤ℤ start (get_or es (suc k) d)) → (i j : ℕ) (d : E) →
    i < j → j < length es → past (get_or es i d) ≤ℤ start (get_or es j d)
all_in_order start past es long next i zero d lt known = absurd (omega arith)
all_in_order start past es long next i (suc j) d lt known = elim (cases_lt i j) [
  | inl before ↦ (
      let here = all_in_order start past es long next i j d before (omega arith) in
      let over = long j d (omega arith) in
      let on = next j d known in
      omega (arith, ints))
  | inr ge ↦ (let e : i ≡ j = omega arith in rw e (next j d known))
]

-- so the starts of steps rise
starts_rise : {E : Type 0} (list : Section) (start : E → ℤ) (i : ℕ) (es : List E) →
    order_fault list start (λ e. start e +ℤ pos 1) i es ≡ None → IsRising start es
starts_rise list start i es e = record {
  rises = λ i j d lt known.
      let apart = all_in_order start (λ e. start e +ℤ pos 1) es (λ k d l. omega (arith, ints))
      (each_in_order list start (λ e. start e +ℤ pos 1) _ es e) i j d lt known in
      omega (arith, ints);
}

-- without a gap the first entry starts at 0
from_zero : {E : Type 0} (list : Section) (start : E → ℤ) (es : List E) → gap_fault list start es ≡ None →
    ((k : ℕ) (d : E) → k < length es → pos 0 ≤ℤ start (get_or es k d)) → IsFromZero start es
from_zero list start [] e low = record { first = λ d some. absurd (omega arith) }
from_zero list start (x ∷ xs) e low = record {
  first = λ d some.
      let above = low 0 d (omega arith) in
      let below = not_lt_of (pos 0) (start x) (not_found _ _ _ e).0 in
      omega (arith, ints);
}

-- there are as many entries as may be
count_within : {E : Type 0} (list : Section) (least most : ℕ) (es : List E) → count_fault list least most es ≡ None →
    (least ≤ length es) × (length es ≤ most)
count_within list least most es e = (grind arith, grind arith)

-- what a list of steps keeps that breaks no rule
record AreSteps {E : Type 0} (IsEntry : E → Type 0) (least most : ℕ) (start : E → ℤ) (es : List E) : Type 0 where
  some : least ≤ length es
  few : length es ≤ most
  each : All IsEntry es
  from_zero : IsFromZero start es
  rise : IsRising start es

module _ {E : Type 0} (IsEntry : E → Type 0) (list : Section) (least most : ℕ) (start : E → ℤ) (refused : E → Option ℕ)
    (is_entry : (e : E) → refused e ≡ None → IsEntry e) (not_before : (e : E) → IsEntry e → pos 0 ≤ℤ start e) where
  -- steps whose accepted entries are as they should be, and start at 0 or later
  are_steps : (es : List E) → or_else (count_fault list least most es) (or_else (value_fault list refused 1 es)
      (or_else (gap_fault list start es) (order_fault list start (λ e. start e +ℤ pos 1) 1 es))) ≡ None →
      AreSteps IsEntry least most start es
  are_steps es e =
      let count = neither (count_fault list least most es) _ e in
      let values = neither (value_fault list refused 1 es) _ count.1 in
      let gap = neither (gap_fault list start es) _ values.1 in
      let counted = count_within list least most es count.0 in
      let each = λ (k : ℕ) (d : E) (l : k < length es).
      is_entry (get_or es k d) (each_accepted list refused 1 es values.0 k d l) in
      record {
        some = counted.0;
        few = counted.1;
        each = each;
        from_zero = from_zero list start es gap.0 (λ k d l. not_before (get_or es k d) (each k d l));
        rise = starts_rise list start 1 es gap.1;
      }

-- ---- the entries of each list

is_gradient : (length_cm : ℤ) (e : Gradient) → gradient_refused length_cm e ≡ None → IsGradient length_cm e
is_gradient length_cm e accepted = record {
  not_before = grind (arith, ints);
  on_track = grind (arith, ints);
  downhill = grind (arith, ints);
  uphill = grind (arith, ints);
}

is_speed_step : (length_cm : ℤ) (e : SpeedStep) → speed_refused length_cm e ≡ None → IsSpeedStep length_cm e
is_speed_step length_cm e accepted = record {
  not_before = grind (arith, ints);
  on_track = grind (arith, ints);
  least = grind (arith, ints);
  greatest = grind (arith, ints);
}

is_area : (length_cm : ℤ) (a : Area) → area_refused length_cm a ≡ None → IsArea length_cm a
is_area length_cm a accepted = record {
  not_before = grind (arith, ints);
  some_cell = grind (arith, ints);
  on_track = grind (arith, ints);
}

-- ---- the track

are_gradients : (length_cm : ℤ) (es : List Gradient) → gradients_fault length_cm es ≡ None → AreGradients length_cm es
unfolding gradients_fault
are_gradients length_cm es e =
    let steps = are_steps (IsGradient length_cm) sections.Gradient 0 most_gradients (λ e. e.start)
    (gradient_refused length_cm)
    (is_gradient length_cm) (λ _ within. within.not_before) es e in
    record { few = steps.few; each = steps.each; from_zero = steps.from_zero; rise = steps.rise }

are_speeds : (length_cm : ℤ) (es : List SpeedStep) → speeds_fault length_cm es ≡ None → AreSpeeds length_cm es
unfolding speeds_fault
are_speeds length_cm es e =
    let steps = are_steps (IsSpeedStep length_cm) sections.Speed 1 most_speeds (λ e. e.start) (speed_refused length_cm)
    (is_speed_step length_cm) (λ _ within. within.not_before) es e in
    record { some = steps.some; few = steps.few; each = steps.each; from_zero = steps.from_zero; rise = steps.rise }

are_areas : (list : Section) (length_cm : ℤ) (es : List Area) → areas_fault list length_cm es ≡ None →
    AreAreas length_cm es
unfolding areas_fault
are_areas list length_cm es e =
    let count = neither (count_fault list 0 most_areas es) _ e in
    let values = neither (value_fault list (area_refused length_cm) 1 es) _ count.1 in
    let each = λ (k : ℕ) (d : Area) (l : k < length es).
    is_area length_cm (get_or es k d) (each_accepted list (area_refused length_cm) 1 es values.0 k d l) in
    record {
      few = (count_within list 0 most_areas es count.0).1;
      each = each;
      apart = all_in_order (λ a. a.start) (λ a. a.end) es
          (λ k d l. (let some = (each k d l).some_cell in omega (arith, ints)))
          (each_in_order list (λ a. a.start) (λ a. a.end) 1 es values.1);
    }

pub track_accepted : (t : TrackData) → track_fault t ≡ None → IsTrack t
unfolding track_fault
track_accepted t e =
    let long = neither (length_fault t.length_cm) _ e in
    let gradients = neither (gradients_fault t.length_cm t.gradients) _ long.1 in
    let speeds = neither (speeds_fault t.length_cm t.speeds) _ gradients.1 in
    let areas = neither (areas_fault sections.Adhesion t.length_cm t.areas)
    (areas_fault sections.NoSpecial t.length_cm t.no_special) speeds.1 in
    let in_range : length_fault t.length_cm ≡ None = long.0 in
    record {
      shortest = grind (arith, ints);
      longest = grind (arith, ints);
      gradients = are_gradients t.length_cm t.gradients gradients.0;
      speeds = are_speeds t.length_cm t.speeds speeds.0;
      areas = are_areas sections.Adhesion t.length_cm t.areas areas.0;
      no_special = are_areas sections.NoSpecial t.length_cm t.no_special areas.1;
    }
