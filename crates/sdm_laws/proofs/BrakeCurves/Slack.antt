-- The slack of rounding: over each band a place that is `e` early gets at most `k * e` early by the law of one band,
-- and rounding down adds less than one grain.
use Rattle.std.proofs.Common.{◌≡◌, ℕ, ℤ, zero, suc, pos, ◌+◌, ◌*◌, ◌<◌, ◌≤◌, ◌+ℤ◌, ◌*ℤ◌, ◌≤ℤ◌, ◌<ℤ◌, max, arith, refl}
use Rattle.std.proofs.Common.{sym, inl, inr}
use Rattle.std.proofs.lemmas.Int.{ints}
use Rattle.std.proofs.lemmas.Bool.{cases_lt}
use Rattle.std.proofs.Math.Nat.{mul-le-mul_left}
use Rattle.sdm_num.specs.Fractions.{Fraction, whole, floor, more}
use Rattle.sdm_num.specs.Bounds.{IsEarlyFor}
use Rattle.sdm_num.proofs.Ints.{scale-+ℤ}
use Rattle.sdm_num.proofs.Floors.{floor_low, floor_high}
use Rattle.sdm_num.proofs.Order.{at_most_trans, at_most_in}
use Rattle.sdm_rules.specs.Slopes.{Slopes, IsUsable, bands_of, most_bands}
use Rattle.sdm_rules.specs.Curves.{as_is, to_grain, slack_after, most_slack, place_at, exact_at, exact, stepped}
use Rattle.sdm_laws.specs.CurveLaws.{slack_of, IsRounded}
use Rattle.sdm_laws.proofs.OneBand.CommonSteps.{IsPastBy, past_more}
use Rattle.sdm_laws.proofs.OneBand.BothWays.{over}
use Rattle.sdm_laws.proofs.BrakeCurves.TwoCurves.{IsApartAfter, place_near, usable_fair}
use Rattle.sdm_laws.proofs.BrakeCurves.CurveOrder.{whole_place}

-- rounding down adds less than a grain
past_floor : (y y' : Fraction) (e : ℕ) → IsPastBy y y' e → IsPastBy y (whole (floor y')) (e + 1)
past_floor y y' e p =
    let low : (pos y'.m *ℤ floor y') ≤ℤ y'.n = floor_low y'.m y'.n p.right in
    let high = rw scale-+ℤ at (floor_high y'.m y'.n p.right) in
    record {
      left = p.left;
      right = omega arith;
      not_before = at_most_trans (whole (floor y')) y' y p.right (at_most_in (floor y') y' low) p.not_before;
      near = at_most_trans y (more y' e) _ p.right p.near
          (record { crossed = next_grain y'.m y'.n (floor y') e high });
    }
  where
    next_grain : (m : ℕ) (n z : ℤ) (e : ℕ) → n <ℤ (pos m *ℤ z +ℤ pos m *ℤ pos 1) →
        (pos 1 *ℤ (n +ℤ pos (e * m))) ≤ℤ (pos m *ℤ (z +ℤ pos ((e + 1) * 1)))
    next_grain m n z e lt = rw (scale-+ℤ m z (pos ((e + 1) * 1))) (omega (arith, ints, lt))

-- ---- the slack after some bands

-- the slack after one band more
slack_next : (k n e : ℕ) → slack_after k (suc n) e ≡ k * slack_after k n e + 1
slack_next k zero e = refl
slack_next k (suc n) e = slack_next k n (k * e + 1)

-- after more bands the slack is no less
slack_rises : (k n n' e : ℕ) → 0 < k → n ≤ n' → slack_after k n e ≤ slack_after k n' e
slack_rises k n zero e p le = let none : n ≡ 0 = omega arith in rw none (omega arith)
slack_rises k n (suc n') e p le =
    elim (cases_lt n' n) [
      | inl lt ↦ (let last : n ≡ suc n' = omega arith in rw last (omega arith))
      | inr ge ↦ omega (arith, slack_rises k n n' e p ge, slack_next k n' e, mul-le-mul_left (slack_after k n' e) p)
    ]

over_one : (x : Fraction) → over 1 x ≡ x
over_one x = let one : 1 * x.m ≡ x.m = omega arith in rw one refl

-- the slack is how far a curve that is rounded down is from the exact one
slack_apart : (k : ℕ) → 0 < k → IsApartAfter 1 k to_grain (λ n. slack_after k n 0)
slack_apart k some = record {
  later = λ n n' le. slack_rises k n n' 0 some le;
  rounds = λ n x x' h. rw (over_one (to_grain x'), slack_next k n 0) (past_floor x x' _ (rw (over_one x') at h));
}

-- how far the stepped place is from the exact one
place_past : (on : Slopes) (f : ℤ) (w v : ℕ) → IsUsable on →
    IsPastBy (place_at as_is on 1 f w (v * v)) (to_grain (place_at to_grain on 1 f w (v * v)))
    (slack_of (bands_of on.uppers))
place_past on f w v h =
    let fair = usable_fair on h in
    rw (whole_place on f w (v * v)) (rw (over_one (place_at to_grain on 1 f w (v * v))) at
    (place_near on 1 1 _ to_grain _ (omega arith) (omega arith) fair (slack_apart _ fair.some) f w (v * v) (v * v)
    (omega arith)))

-- ---- the numbers

-- the greatest value of `f` up to `n`
greatest : (ℕ → ℕ) → ℕ → ℕ
greatest f zero = f 0
greatest f (suc n) = max (f (suc n)) (greatest f n)

at_most_greatest : (f : ℕ → ℕ) (k n : ℕ) → k ≤ n → f k ≤ greatest f n
unfolding greatest
at_most_greatest f k zero le = let e : k ≡ 0 = omega arith in rw e (omega arith)
at_most_greatest f k (suc n) le =
    elim (cases_lt n k) [
      | inl lt ↦ (let e : k ≡ suc n = omega arith in rw e (omega arith))
      | inr ge ↦ (let h = at_most_greatest f k n ge in omega arith)
    ]

-- over all numbers of bands `most_slack` is the most: here alone the numbers matter
greatest_slack : greatest slack_of most_bands ≡ most_slack
unfolding greatest
greatest_slack = refl

-- the slack of as many bands as there may be is within the greatest slack
slack_at_most : (bands : ℕ) → bands ≤ most_bands → slack_of bands ≤ most_slack
slack_at_most bands le = rw (sym greatest_slack) (at_most_greatest slack_of bands most_bands le)

-- a whole place at most `e` grains before the exact one is early for it, with any slack from `e` on
early_of_past : (z : ℤ) (x : Fraction) (e e' : ℕ) → IsPastBy x (whole z) e → e ≤ e' →
    IsEarlyFor (record { at = z; slack = e' }) x
early_of_past z x e e' past le =
    let p = past_more x (whole z) e e' past le in
    let one : e' * 1 ≡ e' = omega arith in
    record { positive = p.left; not_past = p.not_before; near = rw one at p.near }

-- a stepped place is early for the exact one, within the slack of the bands and within a millimetre
pub rounding : (on : Slopes) (f : ℤ) (w v : ℕ) → IsUsable on → IsRounded on f w v
unfolding exact exact_at stepped
rounding on f w v h =
    let past = place_past on f w v h in
    let few = slack_at_most (bands_of on.uppers) h.few in
    record {
      early = early_of_past _ _ _ _ past (omega arith);
      bounded = few;
      early_at_most =
          early_of_past _ _ _ most_slack past few;
      fine = omega arith;
    }
