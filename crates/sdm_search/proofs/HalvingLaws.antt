-- Of a list in order it is known that the elements below an index pass a test, and those from so many further on fail.
-- A look in the middle halves what is left, until nothing is.
use Rattle.std.proofs.Common.{◌≡◌, ℕ, Bool, true, false, List, length, get_or, ◌+◌, ◌-◌, ◌*◌, ◌<◌, ◌≤◌}
use Rattle.std.proofs.Common.{◌∙◌, sym, arith}
use Rattle.std.specs.List.Sorted.{IsPartitionedBy, IsPartitionPoint}
use Rattle.std.proofs.lemmas.Bool.{false_from_ne_true}

module _ {A : Type 0} (p : A → Bool) (xs : List A) where
  -- the first `i` elements pass, and at most `n - 1` after them may pass
  pub record AreLeft (i n : ℕ) : Type 0 where
    pub pass : (k : ℕ) (d : A) → k < i → p (get_or xs k d) ≡ true
    pub fail : (k : ℕ) (d : A) → i + n ≤ k + 1 → k < length xs → p (get_or xs k d) ≡ false

  -- at first all may pass
  pub left_first : (n : ℕ) → length xs < n → AreLeft 0 n
  left_first n more = record { pass = λ k d l. absurd (omega arith); fail = λ k d l m. absurd (omega (arith, more)) }

  -- where the list ends before the middle, what is left is before it
  pub left_short : (i n : ℕ) → AreLeft i (2 * n) → length xs < i + n → AreLeft i n
  left_short i n left short = record { pass = left.pass; fail = λ k d l m. absurd (omega (arith, short)) }

  module _ (parted : IsPartitionedBy p xs) where
    -- where the element before the middle passes, all before it do
    pub left_past : (i n : ℕ) → 0 < n → i + n ≤ length xs → AreLeft i (2 * n) →
        ((d : A) → p (get_or xs (i + n - 1) d) ≡ true) → AreLeft (i + n) n
    left_past i n some known left pass = record {
      pass = λ k d l. parted k (i + n - 1) d (omega (arith, l)) (omega (arith, some, known)) (pass d);
      fail = λ k d l m. left.fail k d (omega (arith, l)) m;
    }

    -- where it fails, all from it on do
    pub left_before : (i n : ℕ) → 0 < n → AreLeft i (2 * n) → ((d : A) → p (get_or xs (i + n - 1) d) ≡ false) →
        AreLeft i n
    left_before i n some left fail = record {
      pass = left.pass;
      fail = λ k d l m. false_from_ne_true _ (λ pass. absurd (unlike (sym (fail d)
          ∙ parted (i + n - 1) k d (omega (arith, l, some)) m pass)));
    }
      where
        unlike : false ≡ true → ⊥
        unlike e = cc

  -- where nothing is left, it is parted at the index
  pub left_none : (i : ℕ) → AreLeft i 1 → IsPartitionPoint (λ y. p y ≡ true) (λ y. p y ≡ false) xs i
  left_none i left = (λ k d l m. left.pass k d m, λ k d l m. left.fail k d (omega (arith, l)) m)
