-- Each segment is worth more than a low word: 0.05 m/s² over a centimetre is 79 times 2 to the 64. So of segments that
-- begin at a level's high word or before it, all but the last begin at or before the level.
use Rattle.std.proofs.Common.{◌≡◌, ℕ, zero, suc, ◌+◌, ◌-◌, ◌*◌, ◌/◌, ◌^◌, ◌<◌, ◌≤◌, length, arith}
use Rattle.std.proofs.Common.{inl, inr}
use Rattle.std.proofs.lemmas.Bool.{cases_lt}
use Rattle.std.proofs.lemmas.Int.{ints}
use Rattle.std.proofs.Math.Nat.{mul-le-mul}
use Rattle.sdm_rules.specs.Slopes.{SlopeMap, bands_of}
use Rattle.sdm_curve.specs.Maps.{handed_in, IsKeptMap}
use Rattle.sdm_curve.specs.Integrals.{segment_length, slope_of, sum_of}
use Rattle.sdm_curve.proofs.Meanings.{slope_kept}
use Rattle.sdm_curve.proofs.Sums.{sum-suc, sum-zero}

-- two sums that follow one another have different high words
sums_apart : (m : SlopeMap) (band i : ℕ) → IsKeptMap (handed_in m) → band < bands_of m.uppers →
    suc i < length m.starts → sum_of m band i + 2 ^ 64 ≤ sum_of m band (suc i)
sums_apart m band i h lt known =
    let steep : 10_000_000_000 ≤ slope_of m band i =
    omega (arith, ints, h.well_formed.low_q, h.accepted.strong band lt i (omega arith), slope_kept m band i) in
    let long : 5_400_000_000 ≤ segment_length m.starts i =
    omega (arith, ints, h.well_formed.starts.rise i (suc i) (omega arith) known) in
    apart (sum_of m band i) (slope_of m band i) (segment_length m.starts i) (sum_of m band (suc i))
    (sum-suc m.starts m.slopes (band * length m.starts) i) steep long
  where
    apart : (s slope len next : ℕ) → next ≡ s + 27 * slope * len → 10_000_000_000 ≤ slope → 5_400_000_000 ≤ len →
        s + 2 ^ 64 ≤ next
    apart s slope len next is steep long = omega (arith, is, mul-le-mul steep long)

-- so have any two
apart_from : (m : SlopeMap) (band i low : ℕ) → IsKeptMap (handed_in m) → band < bands_of m.uppers → i < low →
    low < length m.starts → sum_of m band i + 2 ^ 64 ≤ sum_of m band low
apart_from m band i zero h lt before known = absurd (omega (arith, before))
apart_from m band i (suc k) h lt before known =
    let next = sums_apart m band k h lt known in
    elim (cases_lt i k) [
      | inl less ↦ omega (arith, next, apart_from m band i k h lt less (omega (arith, known)))
      | inr ge ↦ (let last : i ≡ k = omega (arith, before, ge) in rw last next)
    ]

-- where the segments from one to a past one are at most twelve, the twelfth before the last of them begins at or before
-- the level
pub near_enough : (m : SlopeMap) (band low past level : ℕ) → IsKeptMap (handed_in m) → band < bands_of m.uppers →
    low < length m.starts → past ≤ low + 12 → sum_of m band low / 2 ^ 64 ≤ level / 2 ^ 64 →
    sum_of m band (past - 1 - 12) ≤ level
near_enough m band zero past level h lt known few begun =
    let first : past - 1 - 12 ≡ 0 = omega (arith, few) in
    rw first (omega (arith, sum-zero m.starts m.slopes (band * length m.starts)))
near_enough m band (suc k) past level h lt known few begun =
    omega (arith, begun, apart_from m band (past - 1 - 12) (suc k) h lt (omega (arith, few)) known)
