-- What stands at the falls of a profile: those at falls past a later cell are at the falls past it, and where the
-- profile falls one stands.
use Rattle.std.proofs.Common.{◌≡◌, ℕ, zero, suc, ℤ, List, [], ◌∷◌, length, get_or, drop}
use Rattle.std.proofs.Common.{Bool, int_le, int_lt, true, false, ◌<◌, ◌≤◌, ◌≤ℤ◌, ◌<ℤ◌, arith}
use Rattle.std.specs.List.Sorted.{IsPartitionedBy}
use Rattle.std.proofs.lemmas.Int.{ints}
use Rattle.sdm_num.proofs.Comparisons.{le_is, le_of, lt_is, lt_of}
use Rattle.sdm_rules.specs.declared.targets.Fall.{Fall}
use Rattle.sdm_rules.specs.Targets.{is_fall}
use Rattle.sdm_speed.specs.Falls.{AreAtFalls}

-- a cell before one that is not past, or is before, a third is likewise
pub not_past : (at a b : ℤ) → a ≤ℤ b → int_le b at ≡ true → int_le a at ≡ true
not_past at a b le on = let reached : b ≤ℤ at = le_of _ _ on in le_is a at (omega (arith, ints))

pub before : (at a b : ℤ) → a ≤ℤ b → int_lt b at ≡ true → int_lt a at ≡ true
before at a b le on = let reached : b <ℤ at = lt_of _ _ on in lt_is a at (omega (arith, ints))

module _ {A : Type 0} (fall : A → Fall) (p : ℤ → ℕ) where
  abbrev cell : A → ℤ
  cell x = (fall x).cell

  -- where the first lies past a later cell, they are at the falls past it
  pub from_later : (after at : ℤ) (xs : List A) → after ≤ℤ at →
      ((d : A) → 0 < length xs → at <ℤ cell (get_or xs 0 d)) → AreAtFalls fall p after xs → AreAtFalls fall p at xs
  from_later after at [] le past h = λ c a. h c (omega (arith, ints))
  from_later after at (x ∷ xs) le past h = (
    record {
      beyond = past x (omega arith);
      falls = h.0.falls;
      lower = h.0.lower;
      first = λ c a l. h.0.first c (omega (arith, ints)) l;
    },
    h.1,
  )

  -- those that are left past a later cell are at the falls past it
  pub rest_at : (after at : ℤ) (xs : List A) (i : ℕ) → after ≤ℤ at →
      ((k : ℕ) (d : A) → k < i → k < length xs → cell (get_or xs k d) ≤ℤ at) →
      ((k : ℕ) (d : A) → i ≤ k → k < length xs → at <ℤ cell (get_or xs k d)) →
      AreAtFalls fall p after xs → AreAtFalls fall p at (drop i xs)
  rest_at after at [] zero le before from h = from_later after at [] le (λ d l. absurd (omega arith)) h
  rest_at after at [] (suc i) le before from h = from_later after at [] le (λ d l. absurd (omega arith)) h
  rest_at after at (x ∷ xs) zero le before from h = from_later after at (x ∷ xs) le (λ d l. from 0 d (omega arith) l) h
  rest_at after at (x ∷ xs) (suc i) le before from h =
      rest_at (cell x) at xs i (before 0 x (omega arith) (omega arith))
      (λ k d l m. before (suc k) d (omega arith) (omega arith))
      (λ k d l m. from (suc k) d (omega arith) (omega arith)) h.1

  -- each lies past the cell
  pub past_all : (after : ℤ) (xs : List A) (j : ℕ) (d : A) → AreAtFalls fall p after xs → j < length xs →
      after <ℤ cell (get_or xs j d)
  past_all after [] j d h known = absurd (omega arith)
  past_all after (x ∷ xs) zero d h known = h.0.beyond
  past_all after (x ∷ xs) (suc j) d h known = let first = h.0.beyond in let rest =
      past_all (cell x) xs j d h.1 (omega arith) in omega (arith, ints)

  -- the falls come in the order of their cells
  rises : (after : ℤ) (xs : List A) (i j : ℕ) (d : A) → AreAtFalls fall p after xs → i ≤ j → j < length xs →
      cell (get_or xs i d) ≤ℤ cell (get_or xs j d)
  rises after [] i j d h le known = absurd (omega arith)
  rises after (x ∷ xs) zero zero d h le known = omega (arith, ints)
  rises after (x ∷ xs) zero (suc j) d h le known = let past =
      past_all (cell x) xs j d h.1 (omega arith) in omega (arith, ints)
  rises after (x ∷ xs) (suc i) zero d h le known = absurd (omega arith)
  rises after (x ∷ xs) (suc i) (suc j) d h le known = rises (cell x) xs i j d h.1 (omega arith) (omega arith)

  -- those whose cells pass a test that each cell before one that passes it passes too come first
  pub falls_parted : (test : ℤ → Bool) → ((a b : ℤ) → a ≤ℤ b → test b ≡ true → test a ≡ true) →
      (after : ℤ) (xs : List A) → AreAtFalls fall p after xs → IsPartitionedBy (λ x. test (cell x)) xs
  falls_parted test down after xs h i j d le known on = down _ _ (rises after xs i j d h le known) on

  -- the profile falls where each stands
  pub each_falls : (after : ℤ) (xs : List A) (j : ℕ) (d : A) → AreAtFalls fall p after xs → j < length xs →
      is_fall p (cell (get_or xs j d)) ≡ true
  each_falls after [] j d h known = absurd (omega arith)
  each_falls after (x ∷ xs) zero d h known = h.0.falls
  each_falls after (x ∷ xs) (suc j) d h known = each_falls (cell x) xs j d h.1 (omega arith)

  -- and to the speed that it tells
  pub each_lower : (after : ℤ) (xs : List A) (j : ℕ) (d : A) → AreAtFalls fall p after xs → j < length xs →
      (fall (get_or xs j d)).speed ≡ p (cell (get_or xs j d))
  each_lower after [] j d h known = absurd (omega arith)
  each_lower after (x ∷ xs) zero d h known = h.0.lower
  each_lower after (x ∷ xs) (suc j) d h known = each_lower (cell x) xs j d h.1 (omega arith)

  -- past a cell the profile falls nowhere before the first that lies at or past it
  pub none_between : (after c : ℤ) (xs : List A) (i : ℕ) → after <ℤ c →
      ((k : ℕ) (d : A) → k < i → k < length xs → cell (get_or xs k d) <ℤ c) →
      ((d : A) → i < length xs → c <ℤ cell (get_or xs i d)) →
      AreAtFalls fall p after xs → is_fall p c ≡ false
  none_between after c [] i past before from h = h c past
  none_between after c (x ∷ xs) zero past before from h = h.0.first c past (from x (omega arith))
  none_between after c (x ∷ xs) (suc i) past before from h =
      none_between (cell x) c xs i (before 0 x (omega arith) (omega arith))
      (λ k d l m. before (suc k) d (omega arith) (omega arith)) (λ d l. from d (omega arith)) h.1
