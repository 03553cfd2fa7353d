-- Two stepped curves by their levels: in a band the curve with the lower level is the earlier one, and at a corner of
-- one curve the levels compare as the places do there.
use Rattle.std.proofs.Common.{◌≡◌, ℕ, ℤ, zero, suc, pos, length, get_or, ◌+◌, ◌-◌, ◌*◌, ◌<◌, ◌≤◌, ◌+ℤ◌, ◌≤ℤ◌, ◌<ℤ◌, arith}
use Rattle.std.proofs.Common.{inl, inr}
use Rattle.std.proofs.lemmas.Int.{ints}
use Rattle.std.proofs.lemmas.Bool.{cases_lt}
use Rattle.sdm_rules.specs.Slopes.{Slopes, IsUsable}
use Rattle.sdm_rules.specs.Curves.{stepped, upper_square}
use Rattle.sdm_rules.specs.Motion.{IsInBand}
use Rattle.sdm_laws.specs.Levels.{corner_level, nearest}
use Rattle.sdm_laws.proofs.OneBand.Integrals.{integral_at_most, last_past}
use Rattle.sdm_laws.proofs.BrakeCurves.Bands.{band_at, in_its_band, border_above, border_below}
use Rattle.sdm_laws.proofs.BrakeCurves.Corners.{own_of}
use Rattle.sdm_laws.proofs.BrakeCurves.CurveLevels.{stepped_curve}
use Rattle.sdm_laws.proofs.BrakeCurves.Nearest.{nearest_above, nearest_below}

-- the square of a border, as a speed has it
border_once : (on : Slopes) (band : ℕ) → upper_square on 1 band ≡ get_or on.uppers band 0 * get_or on.uppers band 0
border_once on band = omega arith

module _ (on : Slopes) (usable : IsUsable on) (f g : ℤ) (w x : ℕ) where
  -- the levels of the curves in a band, of that from `f` and of that from `g`
  abbrev pub first : ℕ → ℤ
  first band = corner_level on w (stepped on f w) band

  abbrev pub second : ℕ → ℤ
  second band = corner_level on x (stepped on g x) band

  -- in a band of a speed the curve with the lower level is the earlier one
  in_band : (band v : ℕ) → IsInBand on 1 band (v * v) → first band ≤ℤ second band →
      stepped on f w v ≤ℤ stepped on g x v
  in_band band v h le =
      let one = (stepped_curve on f w usable).level band v h in
      last_past on band (stepped on f w v) (stepped on g x v) _ (usable.positive band h.known)
      (omega (arith, ints, one.low, le)) ((stepped_curve on g x usable).level band v h)

  -- at a corner of the first the second is at or past it only where its level is not lower
  pub at_or_past : (band c : ℕ) → nearest on band w ≡ c → IsInBand on 1 band (c * c) →
      stepped on f w c ≤ℤ stepped on g x c → first band ≤ℤ second band
  at_or_past band c is h le =
      let more = integral_at_most on band 1 _ _ (usable.positive band h.known) le in
      let other = (stepped_curve on g x usable).level band c h in
      rw is (omega (arith, ints, more, other.low))

  -- and before it only where its level is lower
  pub before : (band c : ℕ) → nearest on band w ≡ c → IsInBand on 1 band (c * c) →
      stepped on g x c <ℤ stepped on f w c → second band <ℤ first band
  before band c is h lt =
      let more = integral_at_most on band 1 (stepped on g x c +ℤ pos 1) (stepped on f w c)
      (usable.positive band h.known) (omega (arith, ints, lt)) in
      let other = (stepped_curve on g x usable).level band c h in
      rw is (omega (arith, ints, more, other.high))

  -- ---- from band to band

  -- from a band on upwards, where the first curve's foot is no higher
  upwards : (n band : ℕ) → own_of on 1 w ≤ band → band + n ≤ length on.uppers → first band ≤ℤ second band →
      first (band + n) ≤ℤ second (band + n)
  upwards zero band own known le = let same : band + 0 ≡ band = omega arith in rw same le
  upwards (suc n) band own known le =
      let lt : band < length on.uppers = omega (arith, known) in
      let border = get_or on.uppers band 0 in
      let here = in_band band border (rw border_once at (border_below on 1 band usable lt)) le in
      let next = at_or_past (suc band) border (nearest_above on 1 usable (omega arith) w band own lt)
      (rw border_once at (border_above on 1 band usable lt)) here in
      let further : band + suc n ≡ suc band + n = omega arith in
      rw further (upwards n (suc band) (omega (arith, own)) (omega (arith, known)) next)

  -- and downwards, where it is no lower
  downwards : (n band : ℕ) → band + n ≤ own_of on 1 w → first (band + n) ≤ℤ second (band + n) →
      first band ≤ℤ second band
  downwards zero band own le = let same : band + 0 ≡ band = omega arith in rw same at le
  downwards (suc n) band own le =
      let top = in_its_band on 1 (1 * (w * w)) in
      let lt : band < length on.uppers = omega (arith, own, top.known) in
      let border = get_or on.uppers band 0 in
      let further : band + suc n ≡ suc band + n = omega arith in
      let above = downwards n (suc band) (omega (arith, own)) (rw further at le) in
      let here = in_band (suc band) border (rw border_once at (border_above on 1 band usable lt)) above in
      at_or_past band border (nearest_below on 1 usable (omega arith) w band (omega (arith, own)))
      (rw border_once at (border_below on 1 band usable lt)) here

  -- ---- at each speed

  -- with levels in order in a band at or above that of the first foot the curves are in order from there on
  pub order_above : (band v : ℕ) → own_of on 1 w ≤ band → band ≤ band_at on 1 (v * v) → first band ≤ℤ second band →
      stepped on f w v ≤ℤ stepped on g x v
  order_above band v own le h =
      let to = band_at on 1 (v * v) in
      let there = in_its_band on 1 (v * v) in
      let n_is : band + (to - band) ≡ to = omega (arith, le) in
      let levels = rw n_is at (upwards (to - band) band own (omega (arith, le, there.known)) h) in
      in_band to v there levels

  -- and with levels in order in the band of the first foot at every speed
  pub order : (v : ℕ) → first (own_of on 1 w) ≤ℤ second (own_of on 1 w) → stepped on f w v ≤ℤ stepped on g x v
  order v h =
      let own = own_of on 1 w in
      let to = band_at on 1 (v * v) in
      elim (cases_lt to own) [
        | inr ge ↦ order_above own v (omega arith) ge h
        | inl lt ↦ (
            let n_is : to + (own - to) ≡ own = omega (arith, lt) in
            in_band to v (in_its_band on 1 (v * v)) (downwards (own - to) to (omega (arith, lt)) (rw n_is h)))
      ]
