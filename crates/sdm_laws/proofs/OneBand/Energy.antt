-- The energy of a distance in one band: distances one after the other add up, in finer steps it is the same multiple,
-- and with slopes above 0 the longer of two distances uses more.
use Rattle.std.proofs.Common.{◌≡◌, ℕ, ℤ, pos, length, ◌+◌, ◌-◌, ◌*◌, ◌<◌, ◌≤◌, ◌+ℤ◌, ◌*ℤ◌, ap, arith, sym, ◌∙◌}
use Rattle.std.proofs.Common.{inl, inr}
use Rattle.std.proofs.lemmas.Int.{ints}
use Rattle.std.proofs.lemmas.Bool.{cases_lt}
use Rattle.sdm_rules.specs.Slopes.{Slopes}
use Rattle.sdm_rules.specs.Curves.{cell_at}
use Rattle.sdm_laws.specs.Energy.{total, energy}
use Rattle.sdm_laws.proofs.OneBand.Cells.{IsInCell, cell_in, cell_finer}
use Rattle.sdm_laws.proofs.OneBand.Totals.{total-add, total_same, total_const, total_finer, total_at_most}
use Rattle.sdm_laws.proofs.OneBand.Totals.{total_at_least}

-- every slope of the band is above 0
abbrev pub IsPositive : Slopes → ℕ → Type 0
IsPositive on band = (c : ℤ) → 0 < on.slope band c

-- every slope of every band is
abbrev pub ArePositive : Slopes → Type 0
ArePositive on = (band : ℕ) → band ≤ length on.uppers → IsPositive on band

-- no slope of the band is above `k` times another
abbrev pub IsEven : Slopes → ℕ → ℕ → Type 0
IsEven on band k = (c c' : ℤ) → on.slope band c ≤ k * on.slope band c'

-- distances one after the other add up
pub energy-add : (on : Slopes) (band m : ℕ) (p : ℤ) (a b : ℕ) →
    energy on band m p (a + b) ≡ energy on band m p a + energy on band m (p +ℤ pos a) b
energy-add on band m p a b =
    let f : ℕ → ℕ = λ k. on.slope band (cell_at m (p +ℤ pos k)) in
    let g : ℕ → ℕ = λ k. on.slope band (cell_at m ((p +ℤ pos a) +ℤ pos k)) in
    let same : total (λ k. f (a + k)) b ≡ total g b =
    total_same (λ k. f (a + k)) g b (λ k l. let e : p +ℤ pos (a + k) ≡ (p +ℤ pos a) +ℤ pos k =
    omega (arith, ints) in ap (λ (z : ℤ). on.slope band (cell_at m z)) e) in
    total-add f a b ∙ omega arith

-- in one cell the energy goes with the distance
pub energy_in_cell : (on : Slopes) (band m : ℕ) (p p' : ℤ) (d : ℕ) (c : ℤ) → 0 < m → p' ≡ p +ℤ pos d → IsInCell m c p →
    IsInCell m c p' →
    energy on band m p d ≡ on.slope band c * d
energy_in_cell on band m p p' d c m_pos distance h h' =
    let low = h.low in
    let high = h'.high in
    total_const (λ k. on.slope band (cell_at m (p +ℤ pos k))) (on.slope band c) d
    (λ k l. ap (on.slope band) (cell_in m c (p +ℤ pos k) m_pos (omega (arith, ints)) (omega (arith, ints))))

-- in finer steps it is the same multiple
pub energy-finer : (on : Slopes) (band m m' t d : ℕ) (p : ℤ) → m' ≡ t * m → 0 < m →
    energy on band m' (pos t *ℤ p) (t * d) ≡ t * energy on band m p d
energy-finer on band m m' t d p e m_pos =
    total_finer (λ k. on.slope band (cell_at m (p +ℤ pos k)))
    (λ k. on.slope band (cell_at m' (pos t *ℤ p +ℤ pos k))) t d
    (λ k j l lt. ap (on.slope band) (cell_finer m m' t k j p e m_pos lt))

-- where no slope of the band is above `c`
pub energy_at_most : (on : Slopes) (band m c d : ℕ) (p : ℤ) → ((z : ℤ) → on.slope band z ≤ c) →
    energy on band m p d ≤ c * d
energy_at_most on band m c d p h =
    total_at_most (λ k. on.slope band (cell_at m (p +ℤ pos k))) c d (λ k l. h (cell_at m (p +ℤ pos k)))

-- where none is below `c`
pub energy_at_least : (on : Slopes) (band m c d : ℕ) (p : ℤ) → ((z : ℤ) → c ≤ on.slope band z) →
    c * d ≤ energy on band m p d
energy_at_least on band m c d p h =
    total_at_least (λ k. on.slope band (cell_at m (p +ℤ pos k))) c d (λ k l. h (cell_at m (p +ℤ pos k)))

-- ---- two distances to one end, or from one beginning

-- two distances to one end: the longer is what lies before the shorter, and the shorter
pub energy_to_end : (on : Slopes) (band m : ℕ) (p p' : ℤ) (d d' : ℕ) → p +ℤ pos d ≡ p' +ℤ pos d' → d' ≤ d →
    energy on band m p d ≡ energy on band m p (d - d') + energy on band m p' d'
energy_to_end on band m p p' d d' ends le =
    let e = d - d' in
    let d_is : d ≡ e + d' = omega arith in
    let p_is : p' ≡ p +ℤ pos e = omega (arith, ints) in
    ap (energy on band m p) d_is
    ∙ (energy-add on band m p e d' ∙ ap (λ (z : ℤ). energy on band m p e + energy on band m z d') (sym p_is))

-- two distances from one beginning: the longer is the shorter, and what lies past it
pub energy_from_start : (on : Slopes) (band m : ℕ) (p : ℤ) (d d' : ℕ) → d' ≤ d →
    energy on band m p d ≡ energy on band m p d' + energy on band m (p +ℤ pos d') (d - d')
energy_from_start on band m p d d' le =
    let e = d - d' in
    let d_is : d ≡ d' + e = omega arith in
    ap (energy on band m p) d_is ∙ energy-add on band m p d' e

-- the distance to an end that uses no more is no longer
pub no_longer_to_end : (on : Slopes) (band m : ℕ) (p p' : ℤ) (d d' : ℕ) → IsPositive on band →
    p +ℤ pos d ≡ p' +ℤ pos d' →
    energy on band m p' d' ≤ energy on band m p d → d' ≤ d
no_longer_to_end on band m p p' d d' some ends le =
    elim (cases_lt d d') [
      | inl lt ↦ absurd (omega (
        arith,
        energy_to_end on band m p' p d' d (sym ends) (omega arith),
        energy_at_least on band m 1 (d' - d) p' some,
      ))
      | inr ge ↦ ge
    ]

-- nor is the distance from a beginning
pub no_longer_from_start : (on : Slopes) (band m : ℕ) (p : ℤ) (d d' : ℕ) → IsPositive on band →
    energy on band m p d' ≤ energy on band m p d → d' ≤ d
no_longer_from_start on band m p d d' some le =
    elim (cases_lt d d') [
      | inl lt ↦ absurd (omega (
        arith,
        energy_from_start on band m p d' d (omega arith),
        energy_at_least on band m 1 (d' - d) (p +ℤ pos d) some,
      ))
      | inr ge ↦ ge
    ]
