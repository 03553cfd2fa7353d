-- Distances in one band between places in steps of 1/n grain, with the energy that they use, and the law of one band:
-- of two distances with one energy that begin `e` apart the ends are apart by a distance with the energy of those `e`
-- steps, so by at most `k * e` where no slope is above `k` times another.
use Rattle.std.proofs.Common.{◌≡◌, ℕ, ℤ, zero, suc, pos, ◌+◌, ◌-◌, ◌*◌, ◌<◌, ◌≤◌, ◌+ℤ◌, ◌*ℤ◌, ap, arith, sym, ◌∙◌}
use Rattle.std.proofs.lemmas.Int.{ints}
use Rattle.std.proofs.Math.Nat.{le_of_mul-le-mul_left}
use Rattle.sdm_num.proofs.Ints.{scale-+ℤ}
use Rattle.sdm_rules.specs.Slopes.{Slopes}
use Rattle.sdm_rules.specs.Curves.{cell_at}
use Rattle.sdm_laws.specs.Energy.{energy}
use Rattle.sdm_laws.proofs.OneBand.Cells.{IsInCell}
use Rattle.sdm_laws.proofs.OneBand.Totals.{total-zero, total_scaled_at_least}
use Rattle.sdm_laws.proofs.OneBand.Energy.{IsPositive, IsEven, energy-add, energy-finer, energy_in_cell}
use Rattle.sdm_laws.proofs.OneBand.Energy.{energy_at_least, energy_at_most, energy_to_end, energy_from_start}
use Rattle.sdm_laws.proofs.OneBand.Energy.{no_longer_to_end, no_longer_from_start}

-- from `y` on to `x` it is `d` steps, and they use the energy `r`
pub record IsDistance (on : Slopes) (band n : ℕ) (y x : ℤ) (d r : ℕ) : Type 0 where
  pub distance : x ≡ y +ℤ pos d
  pub used : 27 * energy on band n y d ≡ r

-- no distance uses no energy
pub distance_none : (on : Slopes) (band n : ℕ) (x : ℤ) → IsDistance on band n x x 0 0
distance_none on band n x =
    record {
      distance = omega (arith, ints);
      used =
          omega (arith, total-zero (λ k. on.slope band (cell_at n (x +ℤ pos k))));
    }

-- a distance in one cell
pub distance_in_cell : (on : Slopes) (band n : ℕ) (y x : ℤ) (d : ℕ) (c : ℤ) → 0 < n → x ≡ y +ℤ pos d → IsInCell n c y →
    IsInCell n c x →
    IsDistance on band n y x d ((27 * on.slope band c) * d)
distance_in_cell on band n y x d c n_pos distance h h' =
    record { distance = distance; used = omega (arith, energy_in_cell on band n y x d c n_pos distance h h') }

-- two distances one after the other
pub distance_joined : (on : Slopes) (band n : ℕ) (y x z : ℤ) (d d' r r' : ℕ) → IsDistance on band n y x d r →
    IsDistance on band n x z d' r' →
    IsDistance on band n y z (d + d') (r + r')
distance_joined on band n y x z d d' r r' h h' =
    let distance = h.distance in
    let distance' = h'.distance in
    let moved : energy on band n (y +ℤ pos d) d'
    ≡ energy on band n x d' = ap (λ (z : ℤ). energy on band n z d') (sym distance) in
    record { distance = omega (arith, ints); used = omega (arith, energy-add on band n y d d', h.used, h'.used) }

-- a distance in finer steps
pub distance_finer : (on : Slopes) (band k n n' : ℕ) (y x : ℤ) (d r : ℕ) → n' ≡ k * n → 0 < n →
    IsDistance on band n y x d r →
    IsDistance on band n' (pos k *ℤ y) (pos k *ℤ x) (k * d) (k * r)
distance_finer on band k n n' y x d r e n_pos h =
    let used = ap (λ (z : ℕ). k * z) h.used in
    record {
      distance = ap (λ (z : ℤ). pos k *ℤ z) h.distance ∙ scale-+ℤ k y (pos d);
      used =
          omega (arith, energy-finer on band n n' k d y e n_pos);
    }

-- two distances to one end: what lies between their beginnings
pub distance_between_starts : (on : Slopes) (band n : ℕ) (y y' x : ℤ) (d d' r r' : ℕ) → IsPositive on band → r' ≤ r →
    IsDistance on band n y x d r →
    IsDistance on band n y' x d' r' → IsDistance on band n y y' (d - d') (r - r')
distance_between_starts on band n y y' x d d' r r' some le h h' =
    let ends : y +ℤ pos d ≡ y' +ℤ pos d' = sym h.distance ∙ h'.distance in
    let used = h.used in
    let used' = h'.used in
    let d_le : d' ≤ d = no_longer_to_end on band n y y' d d' some ends (omega arith) in
    record { distance = omega (arith, ints); used = omega (arith, energy_to_end on band n y y' d d' ends d_le) }

-- two distances from one beginning: what lies between their ends
pub distance_between_ends : (on : Slopes) (band n : ℕ) (x y y' : ℤ) (d d' r r' : ℕ) → IsPositive on band → r' ≤ r →
    IsDistance on band n x y d r →
    IsDistance on band n x y' d' r' → IsDistance on band n y' y (d - d') (r - r')
distance_between_ends on band n x y y' d d' r r' some le h h' =
    let distance = h.distance in
    let distance' = h'.distance in
    let used = h.used in
    let used' = h'.used in
    let d_le : d' ≤ d = no_longer_from_start on band n x d d' some (omega arith) in
    let moved : energy on band n (x +ℤ pos d') (d - d')
    ≡ energy on band n y' (d - d') = ap (λ (z : ℤ). energy on band n z (d - d')) (sym distance') in
    record { distance = omega (arith, ints); used = omega (arith, energy_from_start on band n x d d' d_le) }

-- ---- the law of one band

-- `y` lies `f` past `y'`, and the energy between them is that of the `e` steps from `x'` on
pub record IsShifted (on : Slopes) (band n : ℕ) (y y' x' : ℤ) (e : ℕ) : Type 0 where
  pub f : ℕ
  pub apart : y ≡ y' +ℤ pos f
  pub same : energy on band n y' f ≡ energy on band n x' e

-- backwards: `y + d` lies `e` past `y' + d'`, and both distances use the same energy
pub shifted_back : (on : Slopes) (band n : ℕ) (y y' : ℤ) (d d' e : ℕ) → IsPositive on band →
    energy on band n y d ≡ energy on band n y' d' → y +ℤ pos d ≡ (y' +ℤ pos d') +ℤ pos e →
    IsShifted on band n y y' (y' +ℤ pos d') e
shifted_back on band n y y' d d' e some same distance =
    let sum = energy-add on band n y' d' e in
    let ends : y' +ℤ pos (d' + e) ≡ y +ℤ pos d = omega (arith, ints) in
    let d_le : d ≤ d' + e = no_longer_to_end on band n y' y (d' + e) d some ends (omega arith) in
    record {
      f = (d' + e) - d;
      apart = omega (arith, ints);
      same =
          omega (arith, energy_to_end on band n y' y (d' + e) d ends d_le);
    }

-- forwards: `y` lies `e` past `y'`, and both distances use the same energy
pub shifted_forward : (on : Slopes) (band n : ℕ) (y y' : ℤ) (d d' e : ℕ) → IsPositive on band →
    energy on band n y d ≡ energy on band n y' d' → y ≡ y' +ℤ pos e →
    IsShifted on band n (y +ℤ pos d) (y' +ℤ pos d') y' e
shifted_forward on band n y y' d d' e some same distance =
    let sum = energy-add on band n y' e d in
    let moved : energy on band n (y' +ℤ pos e) d
    ≡ energy on band n y d = ap (λ (z : ℤ). energy on band n z d) (sym distance) in
    let d_le : d' ≤ e + d = no_longer_from_start on band n y' (e + d) d' some (omega arith) in
    record {
      f = (e + d) - d';
      apart = omega (arith, ints);
      same =
          omega (arith, energy_from_start on band n y' (e + d) d' d_le);
    }

-- so it lies at most `k * e` past it
pub shifted_at_most : (on : Slopes) (band n k : ℕ) (y y' x' : ℤ) (e : ℕ) → IsPositive on band → IsEven on band k →
    (s : IsShifted on band n y y' x' e) → s.f ≤ k * e
shifted_at_most on band n k y y' x' e some even s =
    let g = energy on band n x' e in
    let each : (j : ℕ) → j < s.f → g ≤ (k * e) * on.slope band (cell_at n (y' +ℤ pos j)) =
    λ j l. omega (
      arith,
      energy_at_most on band n (k * on.slope band (cell_at n (y' +ℤ pos j))) e x'
          (λ c. even c (cell_at n (y' +ℤ pos j))),
    ) in
    let all : g * s.f ≤ (k * e) * energy on band n y' s.f = total_scaled_at_least
    (λ j. on.slope band (cell_at n (y' +ℤ pos j))) (k * e) g s.f each in
    let low = energy_at_least on band n 1 s.f y' some in
    let same = s.same in
    of_size s.f g (k * e) (omega arith) (omega (arith, ap (λ (z : ℕ). (k * e) * z) same))
  where
    of_size : (f g e : ℕ) → f ≤ g → g * f ≤ g * e → f ≤ e
    of_size zero g e l h = omega arith
    of_size (suc f) g e l h = le_of_mul-le-mul_left h (omega arith)
