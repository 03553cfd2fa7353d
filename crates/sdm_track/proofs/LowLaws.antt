-- The lows of entries as one more comes in at their end. Lows that are not below it go: the entries that they stood
-- for are then not below it either, and it stands for them from then on.
use Rattle.std.proofs.Common.{◌≡◌, ℕ, zero, suc, ℤ, List, [], ◌∷◌, ◌++◌, All, length, get_or, slice_get, Option, Some}
use Rattle.std.proofs.Common.{None, true, false, int_lt, ◌+◌, ◌-◌, ◌<◌, ◌≤◌, ◌≤ℤ◌, inl, inr, refl, sym, arith}
use Rattle.std.proofs.Common.{append-nil}
use Rattle.std.specs.Option.{option_to_list}
use Rattle.std.proofs.lemmas.Int.{ints}
use Rattle.std.proofs.lemmas.Bool.{cases_lt}
use Rattle.std.proofs.lemmas.List.{get_or_push, length_push}
use Rattle.std.proofs.lemmas.Option.{slice_get_read, slice_get-get_or}
use Rattle.sdm_rules.specs.declared.data.Gradient.{Gradient}
use Rattle.sdm_track.specs.Sweeps.{grad_at, IsLowestAt, AreLows, ends_below}

-- ---- an entry comes in: which lows are kept

-- the lows that are kept so far: all entries after them are at least as high as the new one
abbrev pub AreKept : List Gradient → ℤ → ℕ → ℕ → List ℕ → Type 0
AreKept entries grad i j [] = (k : ℕ) → i ≤ k → k < j → grad ≤ℤ grad_at entries k
AreKept entries grad i j (index ∷ more) = IsLowestAt entries i j index × AreKept entries grad (index + 1) j more

-- at first all are kept
pub all_kept : (entries : List Gradient) (grad : ℤ) (i j : ℕ) (indices : List ℕ) → AreLows entries i j indices →
    AreKept entries grad i j indices
all_kept entries grad i j [] h = λ k l m. absurd (omega arith)
all_kept entries grad i j (index ∷ more) h = (h.0, all_kept entries grad (index + 1) j more h.1)

-- each of them is one of the entries
pub kept_known : (entries : List Gradient) (grad : ℤ) (i j : ℕ) (indices : List ℕ) →
    AreKept entries grad i j indices → All (λ low. low < j) indices
kept_known entries grad i j [] h k d l = absurd (omega arith)
kept_known entries grad i j (index ∷ more) h zero d l = omega (arith, h.0.to_front)
kept_known entries grad i j (index ∷ more) h (suc k) d l =
    kept_known entries grad (index + 1) j more h.1 k d (omega arith)

-- so they are no more than these
pub kept_few : (entries : List Gradient) (grad : ℤ) (i j : ℕ) (indices : List ℕ) → i ≤ j →
    AreKept entries grad i j indices → length indices + i ≤ j
kept_few entries grad i j [] some h = omega arith
kept_few entries grad i j (index ∷ more) some h =
    omega (arith, h.0.from_rear, kept_few entries grad (index + 1) j more (omega (arith, h.0.to_front)) h.1)

-- the last one goes where it is not below the new entry
kept_less : (entries : List Gradient) (grad : ℤ) (i j last : ℕ) (indices : List ℕ) → grad ≤ℤ grad_at entries last →
    AreKept entries grad i j (indices ++ last ∷ []) → AreKept entries grad i j indices
kept_less entries grad i j last [] high h = λ k l m. (let low = h.0.none_below k l m in omega (arith, ints))
kept_less entries grad i j last (index ∷ more) high h = (h.0, kept_less entries grad (index + 1) j last more high h.1)

last_is : (indices : List ℕ) (last : ℕ) →
    slice_get (indices ++ last ∷ []) (length (indices ++ last ∷ []) - 1) ≡ Some last
last_is indices last = slice_get_read (indices ++ last ∷ []) _ _ last refl (omega (arith, length_push indices last))
    (sym (get_or_push indices last last _ (omega (arith, length_push indices last))))

-- so what is left without it is kept
pub goes : (entries : List Gradient) (i j : ℕ) (old new : List ℕ) (last : Option ℕ) →
    old ≡ new ++ option_to_list last → ends_below entries old j ≡ false →
    AreKept entries (grad_at entries j) i j old → AreKept entries (grad_at entries j) i j new
goes entries i j old new None is high h = rw append-nil at (rw is at h)
goes entries i j old new (Some last) is high h =
    let test : int_lt (grad_at entries last) (grad_at entries j) ≡ false = rw (last_is new last) at (rw is at high) in
    kept_less entries (grad_at entries j) i j last new (grind (arith, ints)) (rw is at h)

-- otherwise it stays
ends_low : (entries : List Gradient) (indices : List ℕ) (j k d : ℕ) → ends_below entries indices j ≡ true →
    k + 1 ≡ length indices → grad_at entries (get_or indices k d) ≤ℤ grad_at entries j
ends_low entries indices j k d low is =
    let at : length indices - 1 ≡ k = omega arith in
    let test : int_lt (grad_at entries (get_or indices k d)) (grad_at entries j)
    ≡ true = rw (slice_get-get_or indices k d (omega arith)) at (rw at at low) in
    grind (arith, ints)

-- ---- an entry comes in: it is the last low

-- a low is also the lowest with the new entry, if it is not above it
lowest_with : (entries : List Gradient) (i j index : ℕ) → grad_at entries index ≤ℤ grad_at entries j →
    IsLowestAt entries i j index → IsLowestAt entries i (j + 1) index
lowest_with entries i j index below h = record {
  from_rear = h.from_rear;
  to_front = omega (arith, h.to_front);
  none_below = λ k l m. elim (cases_lt k j) [
    | inl lt ↦ h.none_below k l lt
    | inr ge ↦ (let e : k ≡ j = omega arith in rw e below)
  ];
}

-- with the new entry behind them, the lows that are kept are the lows of the entries up to it
low_added : (entries : List Gradient) (i j : ℕ) (indices : List ℕ) → i ≤ j →
    ((k d : ℕ) → k + 1 ≡ length indices → grad_at entries (get_or indices k d) ≤ℤ grad_at entries j) →
    AreKept entries (grad_at entries j) i j indices → AreLows entries i (j + 1) (indices ++ j ∷ [])
low_added entries i j [] some below h = (
  record {
    from_rear = some;
    to_front = omega arith;
    none_below = λ k l m. elim (cases_lt k j) [
      | inl lt ↦ h k l lt
      | inr ge ↦ (let e : k ≡ j = omega arith in rw e (omega (arith, ints)))
    ];
  },
  omega arith,
)
low_added entries i j (index ∷ []) some below h = (
  lowest_with entries i j index (below 0 0 (omega arith)) h.0,
  low_added entries (index + 1) j [] (omega (arith, h.0.to_front)) (λ k d l. absurd (omega arith)) h.1,
)
low_added entries i j (index ∷ next ∷ more) some below h =
    let rest = low_added entries (index + 1) j (next ∷ more) (omega (arith, h.0.to_front))
    (λ k d l. below (suc k) d (omega arith)) h.1 in
    let over_next = h.0.none_below next (omega (arith, h.0.from_rear, h.1.0.from_rear)) h.1.0.to_front in
    let next_over = rest.0.none_below j (omega (arith, h.0.to_front)) (omega arith) in
    (lowest_with entries i j index (omega (arith, ints)) h.0, rest)

-- the lows with the new entry, once the last one that is kept is below it
pub comes_in : (entries : List Gradient) (i j : ℕ) (indices : List ℕ) → i ≤ j → ends_below entries indices j ≡ true →
    AreKept entries (grad_at entries j) i j indices →
    AreLows entries i (j + 1) (indices ++ j ∷ [])
comes_in entries i j indices some low h =
    low_added entries i j indices some (λ k d. ends_low entries indices j k d low) h

-- how the lows change as an entry comes in
pub ruleset comes_in_last = (all_kept, kept_few, goes, comes_in)

-- ---- the first entry

-- the first entry is the low of itself
pub low_of_first : (entries : List Gradient) → AreLows entries 0 1 (0 ∷ [])
low_of_first entries = (
  record {
    from_rear = omega arith;
    to_front = omega arith;
    none_below =
        λ k l m. (let e : k ≡ 0 = omega arith in rw e (omega (arith, ints)));
  },
  omega arith,
)
