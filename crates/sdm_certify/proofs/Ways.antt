-- What the way between two marks takes, by the segments that it meets.
use Rattle.std.proofs.Common.{◌≡◌, ℕ, ℤ, pos, ◌-◌, ◌*◌, ◌^◌, ◌≤◌, ◌+ℤ◌, ◌≤ℤ◌, ◌<ℤ◌, arith, sym, subst, ◌∙◌}
use Rattle.std.proofs.lemmas.Int.{ints, by_lt_z}
use Rattle.std.proofs.lemmas.Nat.{mul-le}
use Rattle.sdm_num.proofs.Ints.{scale-+ℤ}
use Rattle.sdm_rules.specs.declared.certificates.Mark.{Mark}
use Rattle.sdm_rules.specs.Certificates.{TakesEnough}
use Rattle.sdm_rules.specs.Curves.{cell_at}
use Rattle.sdm_rules.specs.Slopes.{SlopeMap, meaning_of}
use Rattle.sdm_laws.proofs.Moving.Braking.{part_at}
use Rattle.sdm_curve.specs.Integrals.{slope_of}
use Rattle.sdm_curve.specs.Maps.{AreStarts}
use Rattle.sdm_motion.specs.Steps.{HaveSlope, IsMet, NoneIsMet}
use Rattle.sdm_motion.proofs.OneSlope.{cell_met, cells_have, segments_have}
use Rattle.sdm_certify.specs.Steps.{TakesEnoughIn}

-- ---- in whole numbers

-- where the rate over the way is at least the energy that is lost, the way takes enough
pub enough_of : (a rate : ℕ) (x y : Mark) (way : ℕ) → rate ≡ 27 * a → y.place ≡ x.place +ℤ pos way →
    x.energy - y.energy ≤ rate * way → TakesEnough a x y
enough_of a rate x y way r e h = rw (e, scale-+ℤ) (let h' = rw r at h in omega (arith, ints))

-- and back
pub enough_out : (a rate : ℕ) (x y : Mark) (way : ℕ) → rate ≡ 27 * a → y.place ≡ x.place +ℤ pos way →
    TakesEnough a x y → x.energy - y.energy ≤ rate * way
enough_out a rate x y way r e h = let g = rw (e, scale-+ℤ) at h in rw r (omega (arith, ints, g))

-- the rate over the way is small enough for 128 bits
pub fits_product : (rate way : ℕ) → rate ≤ 27 * 10 ^ 15 → way ≤ 2 * 10 ^ 18 → rate * way ≤ 54 * 10 ^ 33
fits_product rate way p q = omega (arith, mul-le rate way (27 * 10 ^ 15) (2 * 10 ^ 18) p q)

-- ---- on the segments of a map

module _ (map : SlopeMap) (band : ℕ) (x y : Mark) (p p' : ℤ) (p_is : p ≡ x.place) (p'_is : p' ≡ y.place)
    (starts : AreStarts map.starts) where
  -- a way that meets no segment has no length
  none_met : NoneIsMet 1 map.starts p p' → x.place ≤ℤ y.place → x.place ≡ y.place
  none_met none forward =
      by_lt_z x.place y.place
      (λ (lt : x.place <ℤ y.place).
      let met = cell_met map 1 p p' (cell_at 1 p) starts (part_at 1 p p' (omega arith) (omega (arith, ints))) in
      absurd (none _ met.known met.meets))
      (λ (le : y.place ≤ℤ x.place). omega (arith, ints))

  -- with no way any slope takes the energy, where none is lost
  pub stays : NoneIsMet 1 map.starts p p' → x.place ≤ℤ y.place → x.energy ≡ y.energy →
      TakesEnoughIn (meaning_of map) band x y
  stays none forward same =
      let e = none_met none forward in
      record {
        slope = 0;
        one_slope = λ cell part. absurd (let lt = part.apart in omega (arith, ints));
        enough = omega (arith, ints);
      }

  -- and else no slope does
  pub stays_out : NoneIsMet 1 map.starts p p' → x.place ≤ℤ y.place → y.energy ≤ x.energy →
      TakesEnoughIn (meaning_of map) band x y → x.energy ≡ y.energy
  stays_out none forward falls h =
      let e = none_met none forward in
      let enough = rw (← e) at h.enough in
      omega (arith, ints, enough)

  -- the one slope on a way is that of each segment that it meets
  pub all_have : (i a : ℕ) → a ≡ slope_of map band i → IsMet 1 map.starts i p p' →
      TakesEnoughIn (meaning_of map) band x y → HaveSlope map 1 band p p' a
  all_have i a a_is met h =
      let have = segments_have map 1 band p p' h.slope (omega arith) starts (rw (p_is, p'_is) h.one_slope) in
      let is : h.slope ≡ a = sym (have i met.known met.meets) ∙ sym a_is in
      subst (λ (b : ℕ). HaveSlope map 1 band p p' b) is have

  -- so with the slope of a segment that it meets the way takes enough
  pub takes_out : (i : ℕ) → IsMet 1 map.starts i p p' → TakesEnoughIn (meaning_of map) band x y →
      TakesEnough (slope_of map band i) x y
  takes_out i met h =
      let have = segments_have map 1 band p p' h.slope (omega arith) starts (rw (p_is, p'_is) h.one_slope) in
      subst (λ (b : ℕ). TakesEnough b x y) (sym (have i met.known met.meets)) h.enough

  -- and back, where all segments that it meets have that slope
  pub takes_of : (i a : ℕ) → a ≡ slope_of map band i → HaveSlope map 1 band p p' a →
      TakesEnough (slope_of map band i) x y → TakesEnoughIn (meaning_of map) band x y
  takes_of i a a_is have enough = record {
    slope = a;
    one_slope = rw (p_is, p'_is) at (cells_have map 1 band p p' a starts have);
    enough = rw a_is enough;
  }
