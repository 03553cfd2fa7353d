-- No test fails exactly where all hold; that of the estimated front end follows from the others, between which it lies.
use Rattle.std.proofs.Common.{◌≡◌, ◌∙◌, ap, sym, inl, inr, ℕ, ℤ, suc, pos, negsuc, Bool, true, false, IsTrue, ◌&&◌, int_le, ◌≤ℤ◌, arith, refl}
use Rattle.std.proofs.lemmas.Bool.Decides.{eqb_tells}
use Rattle.std.proofs.lemmas.Int.{ints}
use Rattle.std.specs.Prelude.{◌↔◌, [], ◌∷◌, nat_le, if◌then◌else◌}
use Rattle.sdm_num.proofs.Comparisons.{le_is, le_of}
use Rattle.sdm_rules.specs.Ranges.{is_within, top_kmh}
use Rattle.sdm_c.specs.declared.structs.AllowanceC.{AllowanceC}
use Rattle.sdm_c.specs.declared.structs.ReadingC.{ReadingC}
use Rattle.sdm_c.specs.declared.structs.RestrictionC.{RestrictionC}
use Rattle.sdm_c.specs.Fields.{allowance_field, first_out, front_end_field, motion_field, or_next, reading_field, restriction_field}
use Rattle.sdm_c.specs.Numbers.{is_acceleration, is_allowance, is_identity, is_reading, is_restriction}

-- of three tests
three_in : (a b c : Bool) (n : ℕ) → first_out (suc n) (a ∷ b ∷ c ∷ []) ≡ 0 → IsTrue (a && b && c)
three_in true true true n is = refl
three_in true true false n is = absurd (omega arith)
three_in true false c n is = absurd (omega arith)
three_in false b c n is = absurd (omega arith)

three_out : (a b c : Bool) (n : ℕ) → IsTrue (a && b && c) → first_out (suc n) (a ∷ b ∷ c ∷ []) ≡ 0
three_out true true true n is = refl
three_out true true false n is = absurd cc
three_out true false c n is = absurd cc
three_out false b c n is = absurd cc

pub restriction_in : (r : RestrictionC) → (restriction_field r ≡ 0) ↔ IsTrue (is_restriction r)
restriction_in r =
    let speed = nat_le 1 r.speed_kmh && nat_le r.speed_kmh top_kmh in (
      three_in (is_identity r.id) speed (nat_le r.is_delayed 1) 7,
      three_out (is_identity r.id) speed (nat_le r.is_delayed 1) 7,
    )

pub allowance_in : (a : AllowanceC) → (allowance_field a ≡ 0) ↔ IsTrue (is_allowance a)
allowance_in a = (
  three_in (nat_le a.front_mm 10_000_000) (nat_le a.speed_mm_s 10_000) (nat_le a.accel_cm_s2 300) 10,
  three_out (nat_le a.front_mm 10_000_000) (nat_le a.speed_mm_s 10_000) (nat_le a.accel_cm_s2 300) 10,
)

-- ---- a reading

-- what is joined of the time, the front ends and the motion is 0 exactly where each part is
joined : (t : Bool) (front motion : ℕ) → (if t then or_next front motion else 1) ≡ 0 →
    IsTrue t × (front ≡ 0) × (motion ≡ 0)
joined true front motion is = elim (eqb_tells front 0) [
  | inl e ↦ (refl, e.1, sym (ap (λ (b : Bool). if b then motion else front) e.0) ∙ is)
  | inr e ↦ absurd (e.1 (sym (ap (λ (b : Bool). if b then motion else front) e.0) ∙ is))
]
joined false front motion is = absurd (omega arith)

rejoined : (t : Bool) (front motion : ℕ) → IsTrue t → front ≡ 0 → motion ≡ 0 →
    (if t then or_next front motion else 1) ≡ 0
rejoined true front motion is no_front no_motion = rw (no_front, no_motion) refl
rejoined false front motion is no_front no_motion = absurd cc

-- the min and the max safe front end without the estimated one
ends : (e n x : Bool) → IsTrue (e && n && x) → IsTrue (n && x)
ends true n x is = is
ends false n x is = absurd cc

with_est : (e n x : Bool) → e ≡ true → IsTrue (n && x) → IsTrue (e && n && x)
with_est true n x is both = both
with_est false n x is both = absurd cc

all_of : (t fronts motion : Bool) → IsTrue t → IsTrue fronts → IsTrue motion → IsTrue (t && fronts && motion)
all_of true true true x y z = refl
all_of true true false x y z = absurd cc
all_of true false motion x y z = absurd cc
all_of false fronts motion x y z = absurd cc

parts_of : (t fronts motion : Bool) → IsTrue (t && fronts && motion) → IsTrue t × IsTrue fronts × IsTrue motion
parts_of true true true is = (refl, refl, refl)
parts_of true true false is = absurd cc
parts_of true false motion is = absurd cc
parts_of false fronts motion is = absurd cc

both : (a b : Bool) → IsTrue (a && b) → IsTrue a × IsTrue b
both true b h = (refl, h)
both false b h = absurd cc

-- between the min and the max safe front end the estimated one is in its range
lies : (least greatest est min max : ℤ) → IsTrue (is_within least est min) → IsTrue (is_within est greatest max) →
    is_within least greatest est ≡ true
lies least greatest est min max low high =
    let below = both (int_le least min) (int_le min est) low in
    let above = both (int_le est max) (int_le max greatest) high in
    let least_min : least ≤ℤ min = le_of least min below.0 in
    let min_est : min ≤ℤ est = le_of min est below.1 in
    let est_max : est ≤ℤ max = le_of est max above.0 in
    let max_greatest : max ≤ℤ greatest = le_of max greatest above.1 in
    let low_is : least ≤ℤ est = omega (arith, ints, least_min, min_est) in
    let high_is : est ≤ℤ greatest = omega (arith, ints, est_max, max_greatest) in
    rw (le_is least est low_is, le_is est greatest high_is) refl

pub reading_in : (r : ReadingC) → (reading_field r ≡ 0) ↔ IsTrue (is_reading r)
reading_in r =
    let least = negsuc 9_999_999 in
    let greatest = pos 110_000_000 in
    let t = nat_le r.time_ds 100_000_000 in
    let e = is_within least greatest r.est_mm in
    let n = is_within least r.est_mm r.min_mm in
    let x = is_within r.est_mm greatest r.max_mm in
    let s = nat_le r.speed_mm_s 138_888 in
    let a = is_acceleration r.accel_cm_s2 in
    let u = nat_le r.under_mm_s 10_000 in (
      λ none. (
          let each = joined t (front_end_field r) (motion_field r) none in
          all_of t (n && x) (s && a && u) each.0 (ends e n x (three_in e n x 1 each.1)) (three_in s a u 4 each.2)
          ),
      λ is. (
          let each = parts_of t (n && x) (s && a && u) is in
          let fronts = both n x each.1 in
          let est : e ≡ true = lies least greatest r.est_mm r.min_mm r.max_mm fronts.0 fronts.1 in
          rejoined t (front_end_field r) (motion_field r) each.0
          (three_out e n x 1 (with_est e n x est each.1)) (three_out s a u 4 each.2)
          ),
    )
