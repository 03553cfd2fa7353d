-- Laws of steps of every kind: `start` gives where a step begins, and `value` its value. Where the starts rise, each
-- cell lies in one step, which has the value in the cell; a step that is added at the end changes the cells from its
-- start on.
use Rattle.std.proofs.Common.{◌≡◌, ℕ, zero, suc, ℤ, List, [], ◌∷◌, ◌++◌, length, get_or, true, false, int_le}
use Rattle.std.proofs.Common.{if◌then◌else◌, ◌+◌, ◌-◌, ◌<◌, ◌≤◌, ◌≤ℤ◌, ◌<ℤ◌, inl, inr, refl, sym, ap, ◌∙◌, arith}
use Rattle.std.proofs.lemmas.Int.{ints, by_lt_z}
use Rattle.std.proofs.lemmas.Bool.{cases_lt}
use Rattle.std.proofs.lemmas.List.{get_or_default}
use Rattle.std.specs.List.Sorted.{IsPartitionedBy, IsPartitionPoint}
use Rattle.sdm_num.proofs.Comparisons.{le_is, not_le_is, le_of, not_le_of}
use Rattle.sdm_rules.specs.Cells.{last_at, value_at}
use Rattle.sdm_track.specs.Steps.{IsRising, LiesIn, IsBeforeNext}

module _ {E : Type 0} (start : E → ℤ) where
  -- steps after the one in which the cell lies start past the cell
  pub later_start : (es : List E) (i j : ℕ) (d : E) (c : ℤ) → IsRising start es → LiesIn start es i c → i < j →
      j < length es → c <ℤ start (get_or es j d)
  later_start es i j d c rising lies l m =
      let next = lies.goes_on.before d (omega arith) in
      elim (cases_lt (i + 1) j) [
        | inl lt ↦ (let r = rising.rises (i + 1) j d lt m in omega (arith, ints))
        | inr ge ↦ (let e : j ≡ i + 1 = omega arith in rw e next)
      ]

  -- the step in which a cell lies
  pub record Found (es : List E) (c : ℤ) : Type 0 where
    pub index : ℕ
    pub lies : LiesIn start es index c

  -- a cell before the start of the next step lies in one of the steps up to this one
  found_up_to : (es : List E) (d : E) (i : ℕ) (c : ℤ) → i < length es → IsBeforeNext start es i c → Found es c
  found_up_to es d zero c known before = record {
    index = 0;
    lies = record { known = known; begun = λ e p. absurd (omega arith); goes_on = before };
  }
  found_up_to es d (suc i) c known before =
      by_lt_z c (start (get_or es (suc i) d))
      (λ (lt : c <ℤ start (get_or es (suc i) d)).
      found_up_to es d i c (omega arith) (record {
        before = λ e m. let s : i + 1 ≡ suc i =
            omega arith in rw (s, get_or_default es (suc i) e d known) lt;
      }))
      (λ (le : start (get_or es (suc i) d) ≤ℤ c). record {
        index = suc i;
        lies =
            record { known = known; begun = λ e p. rw (get_or_default es (suc i) e d known) le; goes_on = before };
      })

  -- every cell lies in a step, if there is one
  pub found : (es : List E) (c : ℤ) → 0 < length es → Found es c
  found [] c some = absurd (omega arith)
  found (x ∷ xs) c some =
      found_up_to (x ∷ xs) x (length (x ∷ xs) - 1) c (omega arith) (record { before = λ d m. absurd (omega arith) })

  -- a later cell lies in the same step or a later one
  pub lies_in_order : (es : List E) (i j : ℕ) (d : E) (b c : ℤ) → IsRising start es → LiesIn start es i b →
      LiesIn start es j c → b ≤ℤ c → i ≤ j
  lies_in_order es i j d b c rising p q le = elim (cases_lt j i) [
    | inl lt ↦ (let past = later_start es j i d c rising q lt p.known in let begun =
        p.begun d (omega arith) in absurd (omega (arith, ints)))
    | inr ge ↦ ge
  ]

  -- a cell at a step's start lies in that step
  pub lies_at_start : (es : List E) (i : ℕ) (d : E) (c : ℤ) → IsRising start es → i < length es →
      c ≡ start (get_or es i d) → LiesIn start es i c
  lies_at_start es i d c rising known is = record {
    known = known;
    begun = λ e p. rw (get_or_default es i e d known) (omega (arith, ints));
    goes_on = record {
      before = λ e more.
          let r = rising.rises i (i + 1) e (omega arith) more in
          let s = get_or_default es i e d known in
          let t : c ≡ start (get_or es i e) = is ∙ ap start (sym s) in
          omega (arith, ints);
    };
  }

  -- before the next step a later cell lies in the same one
  pub lies_on : (es : List E) (i : ℕ) (b c : ℤ) → LiesIn start es i b → b ≤ℤ c → IsBeforeNext start es i c →
      LiesIn start es i c
  lies_on es i b c h le before = record {
    known = h.known;
    begun = λ d p. (let s = h.begun d p in omega (arith, ints));
    goes_on = before;
  }

  -- the steps that start at most at the cell come first
  pub starts_parted : (es : List E) (c : ℤ) → IsRising start es → IsPartitionedBy (λ e. int_le (start e) c) es
  starts_parted es c rising i j d le known on =
      let begun : start (get_or es j d) ≤ℤ c = le_of _ _ on in
      le_is (start (get_or es i d)) c (elim (cases_lt i j) [
        | inl lt ↦ (let r = rising.rises i j d lt known in omega (arith, ints))
        | inr ge ↦ (let e : i ≡ j = omega arith in rw e begun)
      ])

  -- in the last of them lies the cell; where there is none, in the first step
  pub lies_in_last : (es : List E) (c : ℤ) (i j : ℕ) → 0 < length es → i ≤ length es → j ≡ i - 1 →
      IsPartitionPoint (λ e. int_le (start e) c ≡ true) (λ e. int_le (start e) c ≡ false) es i → LiesIn start es j c
  lies_in_last es c i j some known is parts = record {
    known = omega arith;
    begun = λ d p. le_of _ _ (parts.0 j d (omega arith) (omega arith));
    goes_on = record {
      before = λ d m. elim (cases_lt 0 i) [
        | inl lt ↦ not_le_of _ _ (parts.1 (j + 1) d (omega arith) m)
        | inr ge ↦ not_le_of _ _ (parts.1 (j + 1) d (omega arith) m)
      ];
    };
  }

module _ {E V : Type 0} (start : E → ℤ) (value : E → V) where
  -- no step has begun
  none_begun : (es : List E) (c : ℤ) (before : V) → ((j : ℕ) (d : E) → j < length es → c <ℤ start (get_or es j d)) →
      last_at start value es c before ≡ before
  none_begun [] c before later = refl
  none_begun (x ∷ xs) c before later = rw (not_le_is (start x) c (later 0 x (omega arith)))
      (none_begun xs c before (λ j d l. later (suc j) d (omega arith)))

  -- the step `k` has begun, and no later one
  last_begun : (es : List E) (k : ℕ) (d : E) (c : ℤ) (before : V) → k < length es → start (get_or es k d) ≤ℤ c →
      ((j : ℕ) (d : E) → k < j → j < length es → c <ℤ start (get_or es j d)) →
      last_at start value es c before ≡ value (get_or es k d)
  last_begun [] k d c before known begun later = absurd (omega arith)
  last_begun (x ∷ xs) zero d c before known begun later =
      rw (le_is (start x) c begun) (none_begun xs c (value x) (λ j e l. later (suc j) e (omega arith) (omega arith)))
  last_begun (x ∷ xs) (suc k) d c before known begun later =
      last_begun xs k d c _ (omega arith) begun (λ j e l m. later (suc j) e (omega arith) (omega arith))

  -- the value in a cell is that of the step in which it lies
  pub value_is : (es : List E) (i : ℕ) (c : ℤ) (d : E) (none : V) → IsRising start es → LiesIn start es i c →
      value_at start value none es c ≡ value (get_or es i d)
  value_is [] i c d none rising lies = absurd (omega (arith, lies.known))
  value_is (x ∷ xs) zero c d none rising lies = none_begun xs c (value x)
      (λ j e l. later_start start (x ∷ xs) zero (suc j) e c rising lies (omega arith) (omega arith))
  value_is (x ∷ xs) (suc i) c d none rising lies =
      last_begun xs i d c (value x) (omega (arith, lies.known)) (lies.begun d (omega arith))
      (λ j e l m. later_start start (x ∷ xs) (suc i) (suc j) e c rising lies (omega arith) (omega arith))

  -- one step more
  last_at-append : (es : List E) (e : E) (c : ℤ) (before : V) → last_at start value (es ++ e ∷ []) c before
      ≡ (if int_le (start e) c then value e else last_at start value es c before)
  last_at-append [] e c before = refl
  last_at-append (x ∷ xs) e c before = last_at-append xs e c (if int_le (start x) c then value x else before)

  -- before its start the values stay
  pub value_before : (es : List E) (e : E) (c : ℤ) (none : V) → 0 < length es → c <ℤ start e →
      value_at start value none (es ++ e ∷ []) c ≡ value_at start value none es c
  value_before [] e c none some lt = absurd (omega arith)
  value_before (x ∷ xs) e c none some lt = last_at-append xs e c (value x) ∙ rw (not_le_is (start e) c lt) refl

  -- from its start on they are its value
  pub value_from : (es : List E) (e : E) (c : ℤ) (none : V) → 0 < length es → start e ≤ℤ c →
      value_at start value none (es ++ e ∷ []) c ≡ value e
  value_from [] e c none some le = absurd (omega arith)
  value_from (x ∷ xs) e c none some le = last_at-append xs e c (value x) ∙ rw (le_is (start e) c le) refl
