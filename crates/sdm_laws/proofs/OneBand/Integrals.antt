-- The energy integral of a band: it grows, and in finer steps it is the same multiple. So a level has one last grain.
use Rattle.std.proofs.Common.{◌≡◌, ℕ, ℤ, suc, pos, negsuc, neg_ℤ, ◌+◌, ◌-◌, ◌*◌, ◌<◌, ◌+ℤ◌, ◌*ℤ◌, ◌≤ℤ◌, ◌<ℤ◌, arith}
use Rattle.std.proofs.Common.{refl, inl, inr, unsigned_abs, ◌∙◌}
use Rattle.std.proofs.lemmas.Int.{ints, by_lt_z}
use Rattle.std.proofs.lemmas.Bool.{cases_lt}
use Rattle.sdm_num.proofs.Ints.{scale-neg}
use Rattle.sdm_rules.specs.Slopes.{Slopes}
use Rattle.sdm_rules.specs.Curves.{cell_at}
use Rattle.sdm_laws.specs.Energy.{energy}
use Rattle.sdm_laws.specs.Levels.{integral, integral_in, IsLastAtMost}
use Rattle.sdm_laws.proofs.OneBand.Totals.{total-zero}
use Rattle.sdm_laws.proofs.OneBand.Energy.{IsPositive, energy-add, energy-finer, energy_at_least}

-- the energy of a distance is that of its two parts
energy_from : (on : Slopes) (band m : ℕ) (p p' : ℤ) (a b d : ℕ) → p' ≡ p +ℤ pos a → d ≡ a + b →
    energy on band m p d ≡ energy on band m p a + energy on band m p' b
energy_from on band m p p' a b d place distance = rw (place, distance) (energy-add on band m p a b)

-- ---- the integral before place 0, and past it

-- at or past place 0 the integral is the energy from there
pub integral_past : (on : Slopes) (band m : ℕ) (p : ℤ) (n : ℕ) → p ≡ pos n →
    integral_in on band m p ≡ pos (27 * energy on band m (pos 0) n)
unfolding integral_in
integral_past on band m p n e = rw e refl

-- before it, less the energy up to there
pub integral_before : (on : Slopes) (band m : ℕ) (p : ℤ) (n : ℕ) → p +ℤ pos n ≡ pos 0 →
    integral_in on band m p ≡ neg_ℤ (pos (27 * energy on band m p n))
unfolding integral_in
integral_before on band m (pos k) n e =
    let k_is : k ≡ 0 = omega (arith, ints) in
    let n_is : n ≡ 0 = omega (arith, ints) in
    rw (k_is, n_is) (let none = total-zero (λ j. on.slope band (cell_at m (pos 0 +ℤ pos j))) in omega (arith, ints))
integral_before on band m (negsuc k) n e =
    let n_is : n ≡ suc k = omega (arith, ints) in
    rw n_is refl

-- ---- the difference

-- further on the integral is greater by the energy of the distance
pub integral-add : (on : Slopes) (band m : ℕ) (p p' : ℤ) (d : ℕ) → p' ≡ p +ℤ pos d →
    integral_in on band m p' ≡ integral_in on band m p +ℤ pos (27 * energy on band m p d)
integral-add on band m (pos n) p' d e =
    let sum = energy_from on band m (pos 0) (pos n) n d (n + d) (omega (arith, ints)) refl in
    omega (
      arith,
      ints,
      integral_past on band m p' (n + d) (omega (arith, ints)),
      integral_past on band m (pos n) n refl,
      sum,
    )
integral-add on band m (negsuc n) p' d e =
    elim (cases_lt d (suc n)) [
      | inl short ↦
          (let sum = energy_from on band m (negsuc n) p' d (suc n - d) (suc n) e (omega arith) in
          omega (
            arith,
            ints,
            integral_before on band m p' (suc n - d) (omega (arith, ints)),
            integral_before on band m (negsuc n) (suc n) (omega (arith, ints)),
            sum,
          ))
      | inr long ↦
          (let sum =
          energy_from on band m (negsuc n) (pos 0) (suc n) (d - suc n) d (omega (arith, ints)) (omega arith) in
          omega (
            arith,
            ints,
            integral_past on band m p' (d - suc n) (omega (arith, ints)),
            integral_before on band m (negsuc n) (suc n) (omega (arith, ints)),
            sum,
          ))
    ]

-- with slopes above 0 the integral grows
pub integral_grows : (on : Slopes) (band m : ℕ) (p p' : ℤ) → IsPositive on band → p <ℤ p' →
    integral_in on band m p <ℤ integral_in on band m p'
integral_grows on band m p p' some lt =
    let d = unsigned_abs (p' +ℤ neg_ℤ p) in
    omega (arith, ints, integral-add on band m p p' d (omega (arith, ints)), energy_at_least on band m 1 d p some)

-- and does not fall
pub integral_at_most : (on : Slopes) (band m : ℕ) (p p' : ℤ) → IsPositive on band → p ≤ℤ p' →
    integral_in on band m p ≤ℤ integral_in on band m p'
integral_at_most on band m p p' some le =
    let d = unsigned_abs (p' +ℤ neg_ℤ p) in
    omega (arith, ints, integral-add on band m p p' d (omega (arith, ints)))

-- a place whose integral is no greater lies no further
pub no_further : (on : Slopes) (band m : ℕ) (p p' : ℤ) → IsPositive on band →
    integral_in on band m p ≤ℤ integral_in on band m p' → p ≤ℤ p'
no_further on band m p p' some le =
    by_lt_z p' p
    (λ (lt : p' <ℤ p). absurd (omega (arith, ints, integral_grows on band m p' p some lt)))
    (λ (ok : p ≤ℤ p'). ok)

-- ---- finer steps

scaled : (t e : ℕ) → pos (27 * (t * e)) ≡ pos t *ℤ pos (27 * e)
scaled t e = omega (arith, ints)

scaled_neg : (t e : ℕ) → neg_ℤ (pos (27 * (t * e))) ≡ pos t *ℤ neg_ℤ (pos (27 * e))
scaled_neg t e = rw (scale-neg t (pos (27 * e))) (omega (arith, ints))

-- in `t` times finer steps the integral is `t` times as much
pub integral-finer : (on : Slopes) (band m m' t : ℕ) (p : ℤ) → m' ≡ t * m → 0 < m →
    integral_in on band m' (pos t *ℤ p) ≡ pos t *ℤ integral_in on band m p
integral-finer on band m m' t (pos n) fine m_pos =
    let none : t * 0 ≡ 0 = omega arith in
    let sum = rw none at (energy-finer on band m m' t n (pos 0) fine m_pos) in
    integral_past on band m' (pos (t * n)) (t * n) refl
    ∙ (rw (integral_past on band m (pos n) n refl, sum) (scaled t (energy on band m (pos 0) n)))
integral-finer on band m m' t (negsuc n) fine m_pos =
    integral_before on band m' (pos t *ℤ negsuc n) (t * suc n) (omega (arith, ints))
    ∙ rw (
      integral_before on band m (negsuc n) (suc n) (omega (arith, ints)),
      energy-finer on band m m' t (suc n) (negsuc n) fine m_pos,
    ) (scaled_neg t (energy on band m (negsuc n) (suc n)))

-- ---- the last grain at a level

-- at a level that is not above that of `at` it lies no further
pub last_before : (on : Slopes) (band : ℕ) (at place level : ℤ) → IsPositive on band → level ≤ℤ integral on band at →
    IsLastAtMost on band level place → place ≤ℤ at
last_before on band at place level some le h = no_further on band 1 place at some (omega (arith, ints, h.low))

-- and at one that is not below it, no earlier
pub last_past : (on : Slopes) (band : ℕ) (at place level : ℤ) → IsPositive on band → integral on band at ≤ℤ level →
    IsLastAtMost on band level place → at ≤ℤ place
last_past on band at place level some le h =
    by_lt_z place at
    (λ (lt : place <ℤ at). absurd (omega (
      arith,
      ints,
      h.high,
      integral_at_most on band 1 (place +ℤ pos 1) at some (omega (arith, ints)),
    )))
    (λ (ok : at ≤ℤ place). ok)

-- a level has one
pub last_unique : (on : Slopes) (band : ℕ) (l p q : ℤ) → IsPositive on band → IsLastAtMost on band l p →
    IsLastAtMost on band l q → p ≡ q
last_unique on band l p q some h k =
    omega (arith, ints, last_past on band p q l some h.low k, last_past on band q p l some k.low h)
