-- Searches below a number: the first place where a test fails, and the places of the least and the greatest value.
use Rattle.std.proofs.Common.{◌≡◌, ℕ, ℤ, zero, suc, ◌<◌, ◌≤◌, ◌≤ℤ◌, ◌<ℤ◌, arith, inl, inr, subst}
use Rattle.std.specs.Prelude.{◌⊎◌}
use Rattle.std.proofs.lemmas.Int.{ints, by_lt_z}
use Rattle.std.proofs.lemmas.Bool.{cases_lt}

-- the first place below `n` where P fails
pub record IsFirst (P Q : ℕ → Type 0) (n i : ℕ) : Type 0 where
  pub known : i < n
  pub fails : Q i
  pub before : (k : ℕ) → k < i → P k

-- what holds below `n` and at `n` holds below the next number
below_suc : (P : ℕ → Type 0) (n : ℕ) → ((k : ℕ) → k < n → P k) → P n → (k : ℕ) → k < suc n → P k
below_suc P n h here k lt = elim (cases_lt k n) [
  | inl less ↦ h k less
  | inr ge ↦ subst P (let e : n ≡ k = omega arith in e) here
]

-- P holds at each place below `n`, or there is a first place where Q does, for P and Q that cover each place
pub first_below : (P Q : ℕ → Type 0) → ((k : ℕ) → P k ⊎ Q k) → (n : ℕ) →
    ((k : ℕ) → k < n → P k) ⊎ ((i : ℕ) × IsFirst P Q n i)
first_below P Q test zero = inl (λ k lt. absurd (omega arith))
first_below P Q test (suc n) = elim (first_below P Q test n) [
  | inr w ↦ inr (w.0, record { known = (let k = w.1.known in omega arith); fails = w.1.fails; before = w.1.before })
  | inl h ↦ elim (test n) [
    | inl here ↦ inl (below_suc P n h here)
    | inr fails ↦ inr (n, record { known = omega arith; fails = fails; before = h })
  ]
]

-- the place of a least value of `f` from 0 to `n`
pub record IsLeastTo (f : ℕ → ℤ) (n i : ℕ) : Type 0 where
  pub known : i ≤ n
  pub least : (k : ℕ) → k ≤ n → f i ≤ℤ f k

-- what is at most each value up to `n` and the next one is at most each up to that
to_suc : (f : ℕ → ℤ) (g : ℤ) (n : ℕ) → ((k : ℕ) → k ≤ n → g ≤ℤ f k) → g ≤ℤ f (suc n) → (k : ℕ) → k ≤ suc n → g ≤ℤ f k
to_suc f g n h here k le = elim (cases_lt n k) [
  | inl more ↦ subst (λ (j : ℕ). g ≤ℤ f j) (let e : suc n ≡ k = omega arith in e) here
  | inr ge ↦ h k ge
]

-- of the values from 0 to `n` one is the least
pub least_to : (f : ℕ → ℤ) (n : ℕ) → (i : ℕ) × IsLeastTo f n i
least_to f zero = (
  zero,
  record {
    known = omega arith;
    least =
        λ k le. subst (λ (j : ℕ). f zero ≤ℤ f j) (let e : zero ≡ k = omega arith in e) (omega (arith, ints));
  },
)
least_to f (suc n) =
    let w = least_to f n in
    by_lt_z (f (suc n)) (f w.0)
    (λ (lt : f (suc n) <ℤ f w.0). (
      suc n,
      record {
        known = omega arith;
        least =
            to_suc f (f (suc n)) n (λ k le. let h = w.1.least k le in omega (arith, ints)) (omega (arith, ints));
      },
    ))
    (λ (le : f w.0 ≤ℤ f (suc n)).
    (w.0, record { known = (let k = w.1.known in omega arith); least = to_suc f (f w.0) n w.1.least le }))

-- the place of a greatest value of `f` from 0 to `n`
pub record IsGreatestTo (f : ℕ → ℤ) (n i : ℕ) : Type 0 where
  pub known : i ≤ n
  pub greatest : (k : ℕ) → k ≤ n → f k ≤ℤ f i

-- what is at least each value up to `n` and the next one is at least each up to that
to_suc_above : (f : ℕ → ℤ) (g : ℤ) (n : ℕ) → ((k : ℕ) → k ≤ n → f k ≤ℤ g) → f (suc n) ≤ℤ g → (k : ℕ) → k ≤ suc n →
    f k ≤ℤ g
to_suc_above f g n h here k le = elim (cases_lt n k) [
  | inl more ↦ subst (λ (j : ℕ). f j ≤ℤ g) (let e : suc n ≡ k = omega arith in e) here
  | inr ge ↦ h k ge
]

-- of the values from 0 to `n` one is the greatest
pub greatest_to : (f : ℕ → ℤ) (n : ℕ) → (i : ℕ) × IsGreatestTo f n i
greatest_to f zero = (
  zero,
  record {
    known = omega arith;
    greatest =
        λ k le. subst (λ (j : ℕ). f j ≤ℤ f zero) (let e : zero ≡ k = omega arith in e) (omega (arith, ints));
  },
)
greatest_to f (suc n) =
    let w = greatest_to f n in
    by_lt_z (f w.0) (f (suc n))
    (λ (lt : f w.0 <ℤ f (suc n)). (
      suc n,
      record {
        known = omega arith;
        greatest = to_suc_above f (f (suc n)) n
            (λ k le. let h = w.1.greatest k le in omega (arith, ints)) (omega (arith, ints));
      },
    ))
    (λ (le : f (suc n) ≤ℤ f w.0). (
      w.0,
      record {
        known = (let k = w.1.known in omega arith);
        greatest =
            to_suc_above f (f w.0) n w.1.greatest le;
      },
    ))
