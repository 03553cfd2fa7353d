-- Of a curve in a row: how far on it is hidden, from how far on the curves further on are.
use Rattle.std.proofs.Common.{◌≡◌, ℕ, true, false, ◌+◌, ◌-◌, ◌<◌, ◌≤◌, List, length, slice_index, slice_set, inl, inr}
use Rattle.std.proofs.Common.{arith, refl, subst, ◌∙◌, if◌then◌else◌, nat_lt}
use Rattle.std.proofs.lemmas.Bool.{cases_lt, le-ltb, lt-ltb}
use Rattle.std.proofs.lemmas.List.{get_or-set_same, get_or-set_other}
use Rattle.sdm_rules.specs.Slopes.{Slopes, IsUsable}
use Rattle.sdm_hiding.specs.declared.rows.Foot.{Foot}
use Rattle.sdm_hiding.specs.Hiding.{AreHiddenFrom, AreInOrder, hides, IsAt, IsHiddenAfter}
use Rattle.sdm_hiding.proofs.FootLaws.{none_hidden, one_foot}

-- no curve of the row between two indexes hides the first of them
pub record IsClearTo (on : Slopes) (feet : List Foot) (i k : ℕ) : Type 0 where
  pub begun : i < k
  pub clear : (m : ℕ) (h f : Foot) → i < m → m < k → IsAt feet m h → IsAt feet i f → hides on h f ≡ false

module _ (on : Slopes) (usable : IsUsable on) (feet : List Foot) (order : AreInOrder feet) where
  -- a curve that doesn't hide the first, and how far on that one is hidden
  pub clear_further : (i k s to : ℕ) (g : Foot) → IsClearTo on feet i k → IsAt feet k g →
      ((f : Foot) → IsAt feet i f → hides on g f ≡ false) → IsHiddenAfter on feet k g s → k < to → to ≤ k + s →
      IsClearTo on feet i to
  clear_further i k s to g so_far at_k past h further within =
      let begun = so_far.begun in
      record {
        begun = omega (arith, begun, further);
        clear = λ m j f after before at at_i.
            elim (cases_lt m k) [
              | inl less ↦ so_far.clear m j f after less at at_i
              | inr ge ↦ elim (cases_lt k m) [
                | inr le ↦ (let same : m ≡ k = omega (arith, le, ge) in
                    rw (one_foot feet k j g (subst (λ (n : ℕ). IsAt feet n j) same at) at_k) (past f at_i))
                | inl more ↦ none_hidden on f g j usable
                    (order i k f g (omega (arith, begun)) at_i at_k)
                    (order k m g j (omega (arith, more)) at_k at)
                    (past f at_i) (h.clear m j more (omega (arith, before, within)) at)
              ]
            ];
      }

-- where the search ends, it is known how far on a curve is hidden
pub hidden_after : (on : Slopes) (feet : List Foot) (i k : ℕ) (f : Foot) → IsClearTo on feet i k → IsAt feet i f →
    ((h : Foot) → IsAt feet k h → hides on h f ≡ true) → IsHiddenAfter on feet i f (k - i)
hidden_after on feet i k f so_far at_i is =
    let begun = so_far.begun in
    let end : i + (k - i) ≡ k = omega (arith, begun) in
    record {
      some = omega (arith, begun);
      clear = λ m h after before at. so_far.clear m h f after (omega (arith, end, before)) at at_i;
      hidden = λ h at. is h (subst (λ (n : ℕ). IsAt feet n h) end at);
    }

-- a curve that is worked out beside those further on
pub known_more : (on : Slopes) (feet : List Foot) (before : List ℕ) (i s : ℕ) → i < length before →
    AreHiddenFrom on feet before (i + 1) → ((f : Foot) → IsAt feet i f → IsHiddenAfter on feet i f s) →
    AreHiddenFrom on feet (slice_set before i s) i
known_more on feet before i s room so_far h m f from at =
    elim (cases_lt i m) [
      | inl more ↦ (let there : slice_index (slice_set before i s) m ≡ slice_index before m =
          get_or-set_other before i m s 0 (λ (e : m ≡ i). omega (arith, e, more)) in
          rw there (so_far m f (omega (arith, more)) at))
      | inr le ↦ (let same : m ≡ i = omega (arith, le, from) in
          let here : slice_index (slice_set before i s) i ≡ s = get_or-set_same before i s 0 room in
          rw (same, here) (h f (subst (λ (n : ℕ). IsAt feet n f) same at)))
    ]

-- where a search or a walk goes from a curve: to what hides it, or to the end of the row
pub record IsStep (k s count to : ℕ) : Type 0 where
  pub further : k < to
  pub within : to ≤ k + s
  pub inside : to ≤ count
  pub there : to < count → to ≡ k + s
  pub past : count ≤ to → count ≤ k + s

pub step_is : (k s count to : ℕ) → to ≡ (if nat_lt (k + s) count then k + s else count) → 0 < s → k < count →
    IsStep k s count to
step_is k s count to is some known = elim (cases_lt (k + s) count) [
  | inl lt ↦ (let e : to ≡ k + s = is ∙ rw (lt-ltb (k + s) count lt) refl in
      record {
        further = omega (arith, e, some);
        within = omega (arith, e);
        inside = omega (arith, e, lt);
        there = λ l. e;
        past = λ le. omega (arith, e, le);
      })
  | inr ge ↦ (let e : to ≡ count = is ∙ rw (le-ltb (k + s) count ge) refl in
      record {
        further = omega (arith, e, known);
        within = omega (arith, e, ge);
        inside = omega (arith, e);
        there = λ l. absurd (omega (arith, e, l));
        past = λ le. ge;
      })
]
