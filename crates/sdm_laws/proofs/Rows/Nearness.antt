-- When a computed place lies just before an exact one: less than a millimetre before it and never past it. A front end
-- is then past the exact place only where it is past the computed one, and past the computed one only where it is past
-- the exact place less a millimetre. The operations of limits keep it.
use Rattle.std.proofs.Common.{◌≡◌, ℕ, ℤ, pos, ◌<◌, ◌*◌, ◌+ℤ◌, ◌*ℤ◌, ◌≤ℤ◌, ◌<ℤ◌, arith}
use Rattle.std.proofs.lemmas.Int.{ints}
use Rattle.sdm_num.specs.Units.{millimetre}
use Rattle.sdm_num.specs.Fractions.{Fraction, IsAtMost, less, lesser, more}
use Rattle.sdm_num.proofs.Comparisons.{lt_is, lt_of}
use Rattle.sdm_num.proofs.Ints.{scales, scale-+ℤ, scale-≤, scale-swap}
use Rattle.sdm_num.proofs.Floors.{scale-<_cancel}
use Rattle.sdm_num.proofs.Order.{scale-<, at_most_refl, at_most_trans, lesser_cases}
use Rattle.sdm_rules.specs.Curves.{most_slack}
use Rattle.sdm_laws.specs.SupervisionLaws.{IsJustBefore}
use Rattle.sdm_laws.proofs.Rows.TriggerOrder.{IsSooner}

-- ---- tests of fractions

-- `x < f` gives `low < f`, where `low = a / m` is at most `x = b / k`
below_low : (m k : ℕ) (a b f : ℤ) → 0 < m → (pos k *ℤ a) ≤ℤ (pos m *ℤ b) → b <ℤ (pos k *ℤ f) → a <ℤ (pos m *ℤ f)
below_low m k a b f p h lt =
    let one = scale-< m b (pos k *ℤ f) p lt in
    let e = scale-swap m k f in
    scale-<_cancel k a (pos m *ℤ f) (omega (arith, ints))

-- `low < f` gives `x < f + d`, where `x = b / k` is at most `d` past `low = a / m`
below_more : (m k d : ℕ) (a b f : ℤ) → 0 < k → (pos m *ℤ b) ≤ℤ (pos k *ℤ (a +ℤ pos (d * m))) → a <ℤ (pos m *ℤ f) →
    b <ℤ (pos k *ℤ (f +ℤ pos d))
below_more m k d a b f p h lt =
    let one = scale-< k a (pos m *ℤ f) p lt in
    let e = scale-swap k m f in
    let h' = rw scale-+ℤ at h in
    scale-<_cancel m b (pos k *ℤ (f +ℤ pos d)) (simp scale-+ℤ (omega (arith, ints)))

plus_0 : (f : ℤ) → f +ℤ pos 0 ≡ f
plus_0 f = omega (arith, ints)

-- a front end is past a place only where it is past one at or before it
pub at_most_sooner : (low x : Fraction) → 0 < low.m → IsAtMost low x → IsSooner 0 x 0 low
at_most_sooner low x low_positive le = record {
  passed = λ front e.
      let lt = lt_of x.n (pos x.m *ℤ (front +ℤ pos 0)) e in
      lt_is low.n (pos low.m *ℤ (front +ℤ pos 0))
      (below_low low.m x.m low.n x.n (front +ℤ pos 0) low_positive le.crossed lt);
}

-- past the exact place only where past the computed one
pub exact_sooner : (low x : Fraction) → IsJustBefore low x → IsSooner 0 x 0 low
exact_sooner low x h = at_most_sooner low x h.low_positive h.not_past

-- past the computed place only where past the exact one less a millimetre
pub low_sooner : (low x : Fraction) → IsJustBefore low x → IsSooner 0 low millimetre x
low_sooner low x h = record {
  passed = λ front e.
      let lt = lt_of low.n (pos low.m *ℤ (front +ℤ pos 0)) e in
      let lt' : low.n <ℤ (pos low.m *ℤ front) = rw (← plus_0 front) lt in
      let below = below_more low.m x.m most_slack low.n x.n front h.positive h.near.crossed lt' in
      let more = scale-≤ x.m (front +ℤ pos most_slack) (front +ℤ pos millimetre) (omega (arith, ints)) in
      lt_is x.n (pos x.m *ℤ (front +ℤ pos millimetre)) (omega (arith, ints));
}

-- ---- the same under the operations of limits

-- some grains less, of both, stay in order
pub less_order : (low x : Fraction) (k : ℕ) → IsAtMost low x → IsAtMost (less low k) (less x k)
less_order low x k h = record { crossed = simp scales (let p = h.crossed in omega (arith, ints)) }

-- some grains less, of both
pub less_near : (low x : Fraction) (k : ℕ) → IsJustBefore low x → IsJustBefore (less low k) (less x k)
less_near low x k h = record {
  low_positive = h.low_positive;
  positive = h.positive;
  not_past = less_order low x k h.not_past;
  near = record { crossed = simp scales (let p = simp scales at h.near.crossed in omega (arith, ints)) };
}

lesser_left : (x y : Fraction) → IsAtMost (lesser x y) x
lesser_left x y = lesser_cases (λ z. IsAtMost z x) x y (λ _. at_most_refl x) (λ le. le)

lesser_right : (x y : Fraction) → IsAtMost (lesser x y) y
lesser_right x y = lesser_cases (λ z. IsAtMost z y) x y (λ le. le) (λ _. at_most_refl y)

-- the lesser of two is at most the lesser of two
pub lesser_order : (low x low' x' : Fraction) → 0 < low.m → 0 < low'.m → IsAtMost low x → IsAtMost low' x' →
    IsAtMost (lesser low low') (lesser x x')
lesser_order low x low' x' low_positive low_positive' h h' =
    lesser_cases (λ z. IsAtMost (lesser low low') z) x x'
    (λ _. at_most_trans (lesser low low') low x low_positive (lesser_left low low') h)
    (λ _. at_most_trans (lesser low low') low' x' low_positive' (lesser_right low low') h')

-- the lesser of two lies just before the lesser of two
pub lesser_near : (low x low' x' : Fraction) → IsJustBefore low x → IsJustBefore low' x' →
    IsJustBefore (lesser low low') (lesser x x')
lesser_near low x low' x' h h' = record {
  low_positive = lesser_cases (λ z. 0 < z.m) low low' (λ _. h.low_positive) (λ _. h'.low_positive);
  positive = lesser_cases (λ z. 0 < z.m) x x' (λ _. h.positive) (λ _. h'.positive);
  not_past = lesser_order low x low' x' h.low_positive h'.low_positive h.not_past h'.not_past;
  near = lesser_cases (λ z. IsAtMost (lesser x x') (more z most_slack)) low low'
      (λ _. at_most_trans (lesser x x') x (more low most_slack) h.positive (lesser_left x x') h.near)
      (λ _. at_most_trans (lesser x x') x' (more low' most_slack) h'.positive (lesser_right x x') h'.near);
}
