-- The stepped place of a speed is a knot back from that of its band's lower speed.
use Rattle.std.proofs.Common.{◌≡◌, ℕ, ℤ, zero, suc, pos, neg_ℤ, ◌-◌, ◌*◌, ◌<◌, ◌≤◌, ◌+ℤ◌, unsigned_abs, length}
use Rattle.std.proofs.Common.{slice_index, arith}
use Rattle.std.proofs.lemmas.Int.{ints}
use Rattle.std.proofs.lemmas.Nat.{mul-le}
use Rattle.sdm_rules.specs.Slopes.{Slopes, IsUsable}
use Rattle.sdm_rules.specs.Curves.{grain_energy, stepped}
use Rattle.sdm_rules.specs.Motion.{IsInBand, lower_square}
use Rattle.sdm_laws.specs.Energy.{energy}
use Rattle.sdm_laws.specs.Levels.{integral, lower_speed, IsLastAtMost}
use Rattle.sdm_laws.proofs.OneBand.Levels.{energy_sum}
use Rattle.sdm_laws.proofs.OneBand.Integrals.{integral-add, no_further}
use Rattle.sdm_laws.proofs.BrakeCurves.Nearest.{nearest_low}
use Rattle.sdm_laws.proofs.BrakeCurves.CurveLevels.{stepped_curve}

-- a knot `z` back from `f`: the distance of `d` grains between them is the least whole one with at least the energy `r`
pub record KnotAt (on : Slopes) (band : ℕ) (f z : ℤ) (r : ℕ) : Type 0 where
  pub d : ℕ
  pub place : z ≡ f +ℤ neg_ℤ (pos d)
  pub enough : r ≤ 27 * energy on band 1 (f +ℤ neg_ℤ (pos d)) d
  pub least : (d' : ℕ) → d ≡ suc d' → 27 * energy on band 1 (f +ℤ neg_ℤ (pos d')) d' < r

-- the last grain at a level that is the energy `r` below the integral of a place is the knot back from this place
knot_at_level : (on : Slopes) (band : ℕ) (at place level : ℤ) (d r : ℕ) → at ≡ place +ℤ pos d →
    level ≡ integral on band at +ℤ neg_ℤ (pos r) → IsLastAtMost on band level place → KnotAt on band at place r
knot_at_level on band at place level d r distance is h = record {
  d = d;
  place = omega (arith, ints);
  enough =
      let from : at +ℤ neg_ℤ (pos d) ≡ place = omega (arith, ints) in
      rw from (omega (arith, ints, integral-add on band 1 place at d distance, h.low));
  least = λ d' e.
      let from : at +ℤ neg_ℤ (pos d') ≡ place +ℤ pos 1 = omega (arith, ints) in
      rw from (omega (arith, ints, integral-add on band 1 (place +ℤ pos 1) at d' (omega (arith, ints)), h.high));
}

-- the square of a speed in a band
speed_in : (on : Slopes) (band v : ℕ) → band ≤ length on.uppers → lower_speed on band < v →
    (band < length on.uppers → v ≤ slice_index on.uppers band) → IsInBand on 1 band (v * v)
speed_in on band v known lt below = record {
  known = known;
  above = low band lt;
  below = λ l. (let le = below l in omega (arith, mul-le _ _ _ _ le le));
}
  where
    low : (band : ℕ) → lower_speed on band < v → lower_square on 1 band ≤ v * v
    low zero lt = omega arith
    low (suc band) lt = let le : slice_index on.uppers band ≤ v = omega arith in omega (arith, mul-le _ _ _ _ le le)

-- the place of a speed in a band, by the knot back from the band's lower speed
pub stepped_knot : (on : Slopes) (f : ℤ) (band v : ℕ) → IsUsable on → band ≤ length on.uppers →
    lower_speed on band < v → (band < length on.uppers → v ≤ slice_index on.uppers band) →
    KnotAt on band (stepped on f 0 (lower_speed on band)) (stepped on f 0 v)
    (grain_energy on (v * v - lower_speed on band * lower_speed on band))
stepped_knot on f band v usable known lt below =
    let w = lower_speed on band in
    let at = stepped on f 0 w in
    let to = stepped on f 0 v in
    let nearest_is = nearest_low on band 0 (omega arith) (λ l. (let le = below l in omega arith)) in
    let last = rw nearest_is at ((stepped_curve on f 0 usable).level band v (speed_in on band v known lt below)) in
    let slower : w ≤ v = omega arith in
    let sum = energy_sum on (w * w) (v * v - w * w) (v * v) (omega (arith, mul-le _ _ _ _ slower slower)) in
    let before = no_further on band 1 to at (usable.positive band known) (omega (arith, ints, last.low, sum)) in
    let d = unsigned_abs (at +ℤ neg_ℤ to) in
    knot_at_level on band at to _ d _ (omega (arith, ints)) (omega (arith, ints, sum)) last
