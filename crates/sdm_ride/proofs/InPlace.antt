-- A train that brakes may lose any speed where it stands: a step that stays in its place asks for no slope, and band by
-- band such steps lead to every lower square.
use Rattle.std.proofs.Common.{ℕ, ℤ, zero, suc, pos, List, [], ◌∷◌, ◌++◌, length, ◌≤◌, ◌<◌, arith, inl, inr}
use Rattle.std.proofs.lemmas.Int.{ints}
use Rattle.std.proofs.lemmas.Bool.{cases_lt}
use Rattle.sdm_rules.specs.declared.motions.Point.{Point}
use Rattle.sdm_rules.specs.Slopes.{Slopes, IsUsable}
use Rattle.sdm_rules.specs.Curves.{upper_square}
use Rattle.sdm_rules.specs.Motion.{IsBraking, IsInBand, IsStep, lower_square}
use Rattle.sdm_laws.proofs.Moving.Braking.{AreRising, square_rises}
use Rattle.sdm_ride.specs.Rides.{BrakesBy}

-- a step that stays in its place
stay_step : (on : Slopes) (m b : ℕ) (p : ℤ) (u u' : ℕ) → IsInBand on m b u → IsInBand on m b u' → u' ≤ u →
    IsStep on m (record { place = p; square = u }) (record { place = p; square = u' })
stay_step on m b p u u' from to le = record {
  band = b;
  slope = on.slope b (pos 0);
  from_band = from;
  to_band = to;
  one_slope = λ cell part. absurd (omega (arith, ints, part.apart));
  brakes =
      record { forward = omega (arith, ints); slower = le; enough = omega (arith, ints) };
}

-- no band ends below its beginning
band_rises : (on : Slopes) (m k : ℕ) → AreRising on.uppers → k < length on.uppers →
    lower_square on m k ≤ upper_square on m k
band_rises on m zero rising lt = omega arith
band_rises on m (suc k) rising lt = square_rises m _ _ (rising k (suc k) (omega arith) lt)

-- steps in place to a lower square
pub record Drop (on : Slopes) (m : ℕ) (p : ℤ) (u u' : ℕ) : Type 0 where
  pub via : List Point
  pub steps : BrakesBy on m (record { place = p; square = u }) via (record { place = p; square = u' })

-- from a square in a band
drop_from : (on : Slopes) (m b : ℕ) (p : ℤ) (u u' : ℕ) → AreRising on.uppers → IsInBand on m b u → u' ≤ u →
    Drop on m p u u'
drop_from on m zero p u u' rising h le =
    let to : IsInBand on m 0 u' = record {
      known = omega arith;
      above = omega arith;
      below = λ lt. let top = h.below lt in omega arith;
    } in
    record { via = []; steps = stay_step on m 0 p u u' h to le }
drop_from on m (suc k) p u u' rising h le = elim (cases_lt u' (lower_square on m (suc k))) [
  | inl lt ↦ (
      let border = lower_square on m (suc k) in
      let known = h.known in
      let rises = band_rises on m k rising (omega arith) in
      let at_border : IsInBand on m (suc k) border = record {
        known = known;
        above = omega arith;
        below = λ lt'. let a = band_rises on m (suc k) rising lt' in omega arith;
      } in
      let under_border : IsInBand on m k border = record {
        known = omega arith;
        above = rises;
        below = λ lt'. omega arith;
      } in
      let rest = drop_from on m k p border u' rising under_border (omega arith) in
      record {
        via = record { place = p; square = border } ∷ rest.via;
        steps = (stay_step on m (suc k) p u border h at_border h.above, rest.steps);
      })
  | inr ge ↦ (
      let to : IsInBand on m (suc k) u' = record {
        known = h.known;
        above = omega arith;
        below = λ lt. let top = h.below lt in omega arith;
      } in
      record { via = []; steps = stay_step on m (suc k) p u u' h to le })
]

-- the band of a square
record Band (on : Slopes) (m u : ℕ) : Type 0 where
  band : ℕ
  here : IsInBand on m band u

band_of : (on : Slopes) (m u n : ℕ) → n ≤ length on.uppers → (n < length on.uppers → u ≤ upper_square on m n) →
    Band on m u
band_of on m u zero known below =
    record { band = 0; here = record { known = known; above = omega arith; below = below } }
band_of on m u (suc n) known below = elim (cases_lt u (upper_square on m n)) [
  | inl lt ↦ band_of on m u n (omega arith) (λ _. omega arith)
  | inr ge ↦ record { band = suc n; here = record { known = known; above = omega arith; below = below } }
]

-- from every square
pub drop : (on : Slopes) (m : ℕ) (p : ℤ) (u u' : ℕ) → IsUsable on → u' ≤ u → Drop on m p u u'
drop on m p u u' usable le =
    let b = band_of on m u (length on.uppers) (omega arith) (λ lt. absurd (omega arith)) in
    drop_from on m b.band p u u' usable.rising b.here le

-- steps to a point, and braking from it on
pub then_braking : (on : Slopes) (m : ℕ) (x : Point) (via : List Point) (y : Point) (more : List Point) →
    BrakesBy on m x via y → IsBraking on m y more → IsBraking on m x (via ++ y ∷ more)
then_braking on m x [] y more steps h = (steps, h)
then_braking on m x (z ∷ zs) y more steps h = (steps.0, then_braking on m z zs y more steps.1 h)
