-- What is decided: it holds or it doesn't, and a proof tells which; so is what is made of decided parts, and what asks
-- of finitely many numbers.
use Rattle.std.proofs.Common.{◌⊎◌, ◌↔◌, ℕ, ℤ, Bool, true, false, ◌<◌, ◌≤◌, ◌≤ℤ◌, ◌<ℤ◌, refl, arith, inl, inr}
use Rattle.std.specs.Prelude.{IsTrue}
use Rattle.std.proofs.lemmas.Int.{ints, by_lt_z}
use Rattle.std.proofs.lemmas.Bool.{cases_lt, false≢true}
use Rattle.sdm_laws.proofs.Openings.Search.{first_below}

-- it holds or it doesn't
abbrev pub IsDecided : Type 0 → Type 0
IsDecided P = P ⊎ (P → ⊥)

-- by something of the same meaning
pub decided_as : {P Q : Type 0} → IsDecided P → (P → Q) → (Q → P) → IsDecided Q
decided_as (inl p) there back = inl (there p)
decided_as (inr never) there back = inr (λ q. never (back q))

-- both of two
pub both_decided : {P Q : Type 0} → IsDecided P → IsDecided Q → IsDecided (P × Q)
both_decided (inl p) (inl q) = inl (p, q)
both_decided (inl p) (inr never) = inr (λ h. never h.1)
both_decided (inr never) second = inr (λ h. never h.0)

-- that the one gives the other
pub then_decided : {P Q : Type 0} → IsDecided P → IsDecided Q → IsDecided (P → Q)
then_decided (inr never) second = inl (λ p. absurd (never p))
then_decided (inl p) (inl q) = inl (λ any. q)
then_decided (inl p) (inr never) = inr (λ h. never (h p))

-- that a number is at most another
pub le_decided : (a b : ℕ) → IsDecided (a ≤ b)
le_decided a b = elim (cases_lt b a) [
  | inl lt ↦ inr (λ le. omega (arith, lt, le))
  | inr le ↦ inl le
]

-- that it is less
pub lt_decided : (a b : ℕ) → IsDecided (a < b)
lt_decided a b = elim (cases_lt a b) [
  | inl lt ↦ inl lt
  | inr le ↦ inr (λ lt. omega (arith, lt, le))
]

-- the same of whole numbers
pub le_z_decided : (a b : ℤ) → IsDecided (a ≤ℤ b)
le_z_decided a b =
    by_lt_z b a (λ (lt : b <ℤ a). inr (λ (le : a ≤ℤ b). omega (arith, ints, lt, le))) (λ (le : a ≤ℤ b). inl le)

pub lt_z_decided : (a b : ℤ) → IsDecided (a <ℤ b)
lt_z_decided a b =
    by_lt_z a b (λ (lt : a <ℤ b). inl lt) (λ (le : b ≤ℤ a). inr (λ (lt : a <ℤ b). omega (arith, ints, lt, le)))

-- that it holds of each number below `n`
pub all_below : (P : ℕ → Type 0) → ((k : ℕ) → IsDecided (P k)) → (n : ℕ) → IsDecided ((k : ℕ) → k < n → P k)
all_below P test n = elim (first_below P (λ k. P k → ⊥) test n) [
  | inl h ↦ inl h
  | inr w ↦ inr (λ h. w.1.fails (h w.0 w.1.known))
]

-- that it holds of some number below `n`
pub some_below : (P : ℕ → Type 0) → ((k : ℕ) → IsDecided (P k)) → (n : ℕ) → IsDecided ((k : ℕ) × ((k < n) × P k))
some_below P test n = elim (first_below (λ k. P k → ⊥) P (λ k. turned (P k) (test k)) n) [
  | inl h ↦ inr (λ w. h w.0 w.1.0 w.1.1)
  | inr w ↦ inl (w.0, (w.1.known, w.1.fails))
]
  where
    turned : (Q : Type 0) → IsDecided Q → (Q → ⊥) ⊎ Q
    turned Q (inl q) = inr q
    turned Q (inr never) = inl never

-- what is decided has an answer
pub answer_of : {P : Type 0} → IsDecided P → (yes : Bool) × (IsTrue yes ↔ P)
answer_of (inl p) = (true, ((λ t. p), (λ h. refl)))
answer_of (inr never) = (false, ((λ t. absurd (false≢true t)), (λ h. absurd (never h))))
