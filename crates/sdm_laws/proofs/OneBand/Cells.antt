-- Cells in steps of 1/m grain: which steps a cell holds, and the same in finer steps.
use Rattle.std.proofs.Common.{◌≡◌, ℕ, ℤ, pos, ◌+◌, ◌*◌, ◌<◌, ◌+ℤ◌, ◌*ℤ◌, ◌≤ℤ◌, ◌<ℤ◌, ap, arith, sym, ◌∙◌}
use Rattle.std.proofs.lemmas.Int.{ints}
use Rattle.std.proofs.Math.Nat.{mul-le-mul_left}
use Rattle.sdm_num.specs.Units.{centimetre}
use Rattle.sdm_num.proofs.Ints.{scales, scale-≤, scale-+ℤ, scale-scale}
use Rattle.sdm_num.proofs.Floors.{floor_is, floor_low, floor_high, scale-<_cancel}
use Rattle.sdm_rules.specs.Curves.{cell_at, cell_start}

-- the cell of a place begins at or before it
pub cell_low : (m : ℕ) (p : ℤ) → 0 < m → cell_start m (cell_at m p) ≤ℤ p
cell_low m p m_pos = floor_low (m * centimetre) p (omega arith)

-- and ends past it
pub cell_high : (m : ℕ) (p : ℤ) → 0 < m → p <ℤ (cell_start m (cell_at m p) +ℤ pos (m * centimetre))
cell_high m p m_pos = let high =
    rw scale-+ℤ at (floor_high (m * centimetre) p (omega arith)) in omega (arith, ints, high)

-- where a cell begins at or before a place, the place is in it or a later one
pub cell_reaches : (m : ℕ) (c p : ℤ) → 0 < m → cell_start m c ≤ℤ p → c ≤ℤ cell_at m p
cell_reaches m c p m_pos le =
    let past : c <ℤ (cell_at m p +ℤ pos 1) = scale-<_cancel (m * centimetre) _ _
    (omega (arith, ints, floor_high (m * centimetre) p (omega arith))) in
    omega (arith, ints)

-- and where it begins past the place, in an earlier one
pub cell_stays : (m : ℕ) (c p : ℤ) → 0 < m → p <ℤ cell_start m c → cell_at m p <ℤ c
cell_stays m c p m_pos lt = scale-<_cancel (m * centimetre) _ _ (omega (arith, ints, cell_low m p m_pos))

-- a step between a cell's start and its end is in that cell
pub cell_in : (m : ℕ) (c p : ℤ) → 0 < m → cell_start m c ≤ℤ p → p <ℤ (cell_start m c +ℤ pos (m * centimetre)) →
    cell_at m p ≡ c
cell_in m c p m_pos low high = floor_is (m * centimetre) p c (omega arith) low (rw scale-+ℤ (omega (arith, ints)))

-- ---- finer steps

-- in `k` times finer steps a cell begins at `k` times the step
pub start_finer : (k m : ℕ) (c : ℤ) (m' : ℕ) → m' ≡ k * m → cell_start m' c ≡ pos k *ℤ cell_start m c
start_finer k m c m' e =
    let w : m' * centimetre ≡ k * (m * centimetre) = omega (arith, ap (λ (t : ℕ). t * centimetre) e) in
    ap (λ (t : ℕ). pos t *ℤ c) w ∙ sym (scale-scale k (m * centimetre) c)

-- the `t` finer steps of a step are in its cell
pub cell_finer : (m m' t k j : ℕ) (p : ℤ) → m' ≡ t * m → 0 < m → j < t →
    cell_at m' (pos t *ℤ p +ℤ pos (t * k + j)) ≡ cell_at m (p +ℤ pos k)
cell_finer m m' t k j p e m_pos lt =
    let c = cell_at m (p +ℤ pos k) in
    let low = cell_low m (p +ℤ pos k) m_pos in
    let high : ((p +ℤ pos k) +ℤ pos 1)
    ≤ℤ (cell_start m c +ℤ pos (m * centimetre)) = omega (arith, ints, cell_high m (p +ℤ pos k) m_pos) in
    let low_t = simp scales at (scale-≤ t _ _ low) in
    let high_t = simp scales at (scale-≤ t _ _ high) in
    let start : cell_start m' c ≡ pos t *ℤ cell_start m c = start_finer t m c m' e in
    let width : m' * centimetre ≡ t * (m * centimetre) = omega (arith, ap (λ (x : ℕ). x * centimetre) e) in
    let m_pos' : 0 < m' = omega (arith, mul-le-mul_left t m_pos) in
    cell_in m' c (pos t *ℤ p +ℤ pos (t * k + j)) m_pos' (rw start (simp scales (omega (arith, ints))))
    (rw start (simp scales (omega (arith, ints))))

-- ---- with both ends

-- the place is in the cell or at one of its ends
pub record IsInCell (m : ℕ) (c x : ℤ) : Type 0 where
  pub low : cell_start m c ≤ℤ x
  pub high : x ≤ℤ (cell_start m c +ℤ pos (m * centimetre))

-- a step in a cell is in it as `k` times the finer step
pub in_cell_finer : (k m m' : ℕ) (c x : ℤ) → m' ≡ k * m → IsInCell m c x → IsInCell m' c (pos k *ℤ x)
in_cell_finer k m m' c x e h =
    let start = start_finer k m c m' e in
    let width : m' * centimetre ≡ k * (m * centimetre) = omega (arith, ap (λ (t : ℕ). t * centimetre) e) in
    record { low = rw start (scale-≤ k _ _ h.low); high = rw (start, width) (rw scale-+ℤ at (scale-≤ k _ _ h.high)) }
