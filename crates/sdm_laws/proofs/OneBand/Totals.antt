-- The sum of the first values of a function, by recursion over how many there are.
use Rattle.std.proofs.Common.{◌≡◌, ℕ, zero, suc, ◌+◌, ◌*◌, ◌<◌, ◌≤◌, ap, arith, refl, ◌∙◌}
use Rattle.sdm_laws.specs.Energy.{total}

pub total-zero : (f : ℕ → ℕ) → total f 0 ≡ 0
unfolding total
total-zero f = refl

-- the sum of the first `a + b` values parts after the first `a`
pub total-add : (f : ℕ → ℕ) (a b : ℕ) → total f (a + b) ≡ total f a + total (λ k. f (a + k)) b
unfolding total
total-add f a zero = let e : a + 0 ≡ a = omega arith in rw e (omega arith)
total-add f a (suc b) =
    let e : a + suc b ≡ suc (a + b) = omega arith in
    ap (total f) e ∙ omega (arith, total-add f a b)

pub total_same : (f g : ℕ → ℕ) (d : ℕ) → ((k : ℕ) → k < d → f k ≡ g k) → total f d ≡ total g d
unfolding total
total_same f g zero h = refl
total_same f g (suc d) h =
    let here : f d ≡ g d = h d (omega arith) in
    let below : total f d ≡ total g d = total_same f g d (λ k l. h k (omega arith)) in
    omega arith

pub total_at_most : (f : ℕ → ℕ) (c d : ℕ) → ((k : ℕ) → k < d → f k ≤ c) → total f d ≤ c * d
unfolding total
total_at_most f c zero h = omega arith
total_at_most f c (suc d) h =
    let here : f d ≤ c = h d (omega arith) in
    let below : total f d ≤ c * d = total_at_most f c d (λ k l. h k (omega arith)) in
    omega arith

-- where each value is at least a part 1 / a of `c`
pub total_scaled_at_least : (f : ℕ → ℕ) (a c d : ℕ) → ((k : ℕ) → k < d → c ≤ a * f k) → c * d ≤ a * total f d
unfolding total
total_scaled_at_least f a c zero h = omega arith
total_scaled_at_least f a c (suc d) h =
    let here : c ≤ a * f d = h d (omega arith) in
    let below : c * d ≤ a * total f d = total_scaled_at_least f a c d (λ k l. h k (omega arith)) in
    omega arith

pub total_at_least : (f : ℕ → ℕ) (c d : ℕ) → ((k : ℕ) → k < d → c ≤ f k) → c * d ≤ total f d
total_at_least f c d h = omega (arith, total_scaled_at_least f 1 c d (λ k l. omega (arith, h k l)))

pub total_const : (f : ℕ → ℕ) (c d : ℕ) → ((k : ℕ) → k < d → f k ≡ c) → total f d ≡ c * d
total_const f c d h = omega
    (arith, total_at_most f c d (λ k l. omega (arith, h k l)), total_at_least f c d (λ k l. omega (arith, h k l)))

-- on a finer grid, where each value of `f` stands `t` times in `g`
pub total_finer : (f g : ℕ → ℕ) (t d : ℕ) → ((k j : ℕ) → k < d → j < t → g (t * k + j) ≡ f k) →
    total g (t * d) ≡ t * total f d
unfolding total
total_finer f g t zero h = let e : t * 0 ≡ 0 = omega arith in rw e (omega arith)
total_finer f g t (suc d) h =
    let e : t * suc d ≡ t * d + t = omega arith in
    let here : total (λ k. g (t * d + k)) t ≡ f d
    * t = total_const (λ k. g (t * d + k)) (f d) t (λ j l. h d j (omega arith) l) in
    let below : total g (t * d) ≡ t * total f d = total_finer f g t d (λ k j l. h k j (omega arith)) in
    ap (total g) e ∙ (total-add g (t * d) t ∙ omega arith)
