-- The greatest slope of cells is that of one of them in some band, and no slope of them is above it. So it is what a
-- search finds, and the slope ahead is the steepest of any way in a ds.
use Rattle.std.proofs.Common.{◌≡◌, ℕ, ℤ, zero, suc, pos, length, ◌*◌, ◌<◌, ◌≤◌, ◌+ℤ◌, ◌≤ℤ◌, ◌<ℤ◌, subst, sym}
use Rattle.std.proofs.Common.{refl, arith, inl, inr, ◌∙◌}
use Rattle.std.proofs.lemmas.Int.{ints}
use Rattle.std.proofs.lemmas.Bool.{cases_lt}
use Rattle.std.specs.Int.{int_gap}
use Rattle.sdm_rules.specs.Slopes.{Slopes, IsUsable}
use Rattle.sdm_rules.specs.Cells.{cell_of}
use Rattle.sdm_rules.specs.Curves.{cell_start}
use Rattle.sdm_laws.specs.MotionLaws.{IsSteepest}
use Rattle.sdm_laws.proofs.OneBand.Cells.{cell_low, cell_reaches, cell_stays}
use Rattle.sdm_speed.proofs.ZoneLaws.{int_gap_is}
use Rattle.sdm_curve.specs.Greatest.{IsGreatestSlope}
use Rattle.sdm_drive.specs.Drive.{TrueTrain, greatest_to, greatest_slope, slope_ahead}
use Rattle.sdm_drive.specs.DriveLaws.{point_of}

-- ---- the greatest of some numbers

-- none of them is above the greatest
at_greatest : (f : ℕ → ℕ) (n k : ℕ) → k ≤ n → f k ≤ greatest_to f n
at_greatest f zero zero le = omega arith
at_greatest f zero (suc k) le = absurd (omega arith)
at_greatest f (suc n) k le =
    elim (cases_lt n k) [
      | inl lt ↦ let e : suc n ≡ k = omega arith in subst (λ (j : ℕ). f j ≤ greatest_to f (suc n)) e (omega arith)
      | inr ge ↦ let h = at_greatest f n k ge in omega arith
    ]

-- one of them is the greatest
reach_greatest : (f : ℕ → ℕ) (n : ℕ) → (k : ℕ) × (k ≤ n) × (f k ≡ greatest_to f n)
reach_greatest f zero = (0, omega arith, refl)
reach_greatest f (suc n) =
    let before = reach_greatest f n in
    let there = before.2 in
    elim (cases_lt (greatest_to f n) (f (suc n))) [
      | inl lt ↦ (suc n, omega arith, omega arith)
      | inr ge ↦ (before.0, (let k = before.1 in omega arith), omega arith)
    ]

-- ---- the greatest slope

-- no slope of the cells is above the greatest
pub greatest_at_least : (on : Slopes) (from to cell : ℤ) (band : ℕ) → from ≤ℤ cell → cell ≤ℤ to →
    band ≤ length on.uppers → on.slope band cell ≤ greatest_slope on from to
unfolding greatest_slope
greatest_at_least on from to cell band low high known =
    let here = int_gap_is from cell low in
    let end = int_gap_is from to (omega (arith, ints)) in
    let in_cell : ℕ → ℕ = λ k. greatest_to (λ b. on.slope b (from +ℤ pos k)) (length on.uppers) in
    let outer = at_greatest in_cell (int_gap from to) (int_gap from cell) (omega (arith, ints)) in
    let inner = at_greatest (λ b. on.slope b (from +ℤ pos (int_gap from cell))) (length on.uppers) band known in
    subst (λ (c : ℤ). on.slope band c ≤ greatest_to in_cell (int_gap from to)) (sym here) (omega arith)

-- a cell and a band of the greatest slope
record IsReached (on : Slopes) (from to : ℤ) : Type 0 where
  cell : ℤ
  band : ℕ
  low : from ≤ℤ cell
  high : cell ≤ℤ to
  known : band ≤ length on.uppers
  is : on.slope band cell ≡ greatest_slope on from to

-- one of the slopes of the cells is the greatest
greatest_reached : (on : Slopes) (from to : ℤ) → from ≤ℤ to → IsReached on from to
unfolding greatest_slope
greatest_reached on from to le =
    let end = int_gap_is from to le in
    let outer = reach_greatest (λ k. greatest_to (λ b. on.slope b (from +ℤ pos k)) (length on.uppers)) (int_gap from to)
    in
    let inner = reach_greatest (λ b. on.slope b (from +ℤ pos outer.0)) (length on.uppers) in
    let near = outer.1 in
    record {
      cell = from +ℤ pos outer.0;
      band = inner.0;
      low = omega (arith, ints);
      high = omega (arith, ints);
      known = inner.1;
      is = inner.2 ∙ outer.2;
    }

-- what no slope of the cells is above, and one of them reaches, is the greatest slope
pub greatest_is : (on : Slopes) (from to : ℤ) (greatest : ℕ) → from ≤ℤ to → IsGreatestSlope on from to greatest →
    greatest ≡ greatest_slope on from to
greatest_is on from to greatest le h =
    let top = greatest_reached on from to le in
    let found = h.reached in
    let known = found.known in
    let one = h.above top.band top.cell (let k = top.known in omega arith) top.low top.high in
    let two = greatest_at_least on from to found.cell found.band found.low found.high (omega arith) in
    let top_is = top.is in
    let found_is = found.is in
    omega arith

-- ---- the slope ahead

-- the slope ahead is the steepest of any way that is no longer than that of coasting
pub steepest_ahead : (on : Slopes) (t : TrueTrain) (way u : ℕ) → way ≤ 1_000_000 * t.speed →
    IsSteepest on 1 (slope_ahead on t) (point_of t) (record { place = t.place +ℤ pos way; square = u })
steepest_ahead on t way u near = λ band cell in_band part.
    let begins = part.begins in
    let ends = part.ends in
    let end = t.place +ℤ pos (1_000_000 * t.speed) in
    let high : cell ≤ℤ cell_of end = cell_reaches 1 cell end (omega arith) (omega (arith, ints)) in
    let stays : cell_of t.place <ℤ (cell +ℤ pos 1) =
    cell_stays 1 (cell +ℤ pos 1) t.place (omega arith) (omega (arith, ints)) in
    greatest_at_least on (cell_of t.place) (cell_of end) cell band (omega (arith, ints)) high in_band.in_low.known

-- on usable slopes the slope ahead is above 0
pub ahead_positive : (on : Slopes) (t : TrueTrain) → IsUsable on → 0 < slope_ahead on t
ahead_positive on t usable =
    let end = t.place +ℤ pos (1_000_000 * t.speed) in
    let cell = cell_of t.place in
    let start : cell_start 1 cell ≤ℤ t.place = cell_low 1 t.place (omega arith) in
    let high : cell ≤ℤ cell_of end = cell_reaches 1 cell end (omega arith) (omega (arith, ints)) in
    let least = greatest_at_least on cell (cell_of end) cell 0 (omega (arith, ints)) high (omega arith) in
    let some = usable.positive 0 (omega arith) cell in
    omega arith
