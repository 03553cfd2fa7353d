-- The train from one reading to the next. What it can reach until its brakes work stays within the curve of the SvL:
-- while time is left, each ds is a slice of a motion; once none is left, a train that moves is braked.
use Rattle.std.proofs.Common.{◌≡◌, ℕ, ℤ, pos, negsuc, true, false, ◌||◌, not, Option, Some, None, suc, zero, ◌+◌, ◌-◌}
use Rattle.std.proofs.Common.{◌*◌, ◌<◌, ◌≤◌, min, refl, sym, subst, arith, inl, inr, ◌⊎◌, ◌∙◌}
use Rattle.std.proofs.lemmas.Int.{ints}
use Rattle.std.proofs.lemmas.Nat.{mul-le}
use Rattle.std.proofs.lemmas.Bool.{cases_lt, cond_both, or_parts, not-false, true≢false, le-leb, cases_Bool}
use Rattle.std.proofs.lemmas.Option.{none-some}
use Rattle.sdm_rules.specs.Slopes.{Slopes, IsUsable}
use Rattle.sdm_rules.specs.Reaction.{a_est1}
use Rattle.sdm_laws.specs.MotionLaws.{IsWithinCurve}
use Rattle.sdm_drive.specs.declared.orders.Orders.{Orders}
use Rattle.sdm_drive.specs.Drive.{TrueTrain, slope_ahead, after_braking, after_coasting, accelerated, after_driving}
use Rattle.sdm_drive.specs.Drive.{greatest_driven, is_braked, after_ds, after_several_ds}
use Rattle.sdm_drive.specs.DriveLaws.{IsSliceOf, point_of, reach}
use Rattle.sdm_drive.proofs.Braked.{IsBraked, braked_with, braked}
use Rattle.sdm_drive.proofs.Sliced.{within_before, sliced}

-- ---- each ds is a slice

-- what a ds of braking does
pub braking_does : (on : Slopes) (t : TrueTrain) → IsUsable on → IsBraked on.q (slope_ahead on t) t (after_braking on t)
unfolding after_braking
braking_does on t usable = braked_with on.q (slope_ahead on t) t usable.unit

-- braking makes no train faster
braking_slower : (on : Slopes) (t : TrueTrain) → IsUsable on → (after_braking on t).speed ≤ t.speed
braking_slower on t usable = (braking_does on t usable).slower

-- a ds of braking, of coasting and of driving is a slice
braking_is_slice : (on : Slopes) (a : ℕ) (t : TrueTrain) → IsUsable on → IsSliceOf a t (after_braking on t)
braking_is_slice on a t usable =
    let b = braking_does on t usable in
    let slower = b.slower in
    let mean = b.mean in
    record { length = b.way; moved = b.moved; slice = record { gains = omega arith; moves = omega arith } }

coasting_is_slice : (a : ℕ) (t : TrueTrain) → IsSliceOf a t (after_coasting t)
coasting_is_slice a t = record {
  length = 1_000_000 * t.speed;
  moved = refl;
  slice = record { gains = omega arith; moves = omega arith };
}

-- an acceleration gains no more than its part above 0
gains_at_most : (w : ℕ) (accel : ℤ) → accelerated accel w ≤ w + 54 * a_est1 accel
gains_at_most w (pos a) = omega arith
gains_at_most w (negsuc a) = omega arith

driving_is_slice : (accel : ℤ) (t : TrueTrain) → IsSliceOf (a_est1 accel) t (after_driving accel t)
unfolding after_driving
driving_is_slice accel t =
    let gains = gains_at_most t.speed accel in
    record {
      length = 500_000 * (t.speed + min (accelerated accel t.speed) greatest_driven);
      moved = refl;
      slice = record { gains = omega arith; moves = omega arith };
    }

-- ---- the three cases

-- what holds after braking, after coasting and after driving, each where it comes, holds after every ds
pub by_case : (P : TrueTrain → Type 0) (on : Slopes) (o : Orders) (time : ℕ) (t : TrueTrain) →
    (is_braked o time ≡ true → P (after_braking on t)) →
    (is_braked o time ≡ false → (o.eb || not o.within) ≡ true → P (after_coasting t)) →
    (o.eb ≡ false → o.within ≡ true → P (after_driving o.accel t)) → P (after_ds on o time t)
unfolding after_ds
by_case P on o time t brakes coasts drives =
    cond_both (is_braked o time) _ _ P brakes
    (λ e. cond_both (o.eb || not o.within) _ _ P (coasts e)
    (λ k. let h = or_parts o.eb (not o.within) k in drives h.0 (not-false o.within h.1)))

-- ---- what is kept

-- what holds of the orders after a reading, with the time of the last reading within the SvL: a brake that is commanded
-- has an onset, one that isn't has none, and where the reading is within the SvL, there was such a reading
pub record AreOrders (last : Option ℕ) (o : Orders) : Type 0 where
  pub working : o.eb ≡ true → (b : ℕ) × (o.onset ≡ Some b)
  pub free : o.eb ≡ false → o.onset ≡ None
  pub known : o.within ≡ true → last ≡ None → ⊥

-- what holds at each time until the next reading, where the brakes of a moving train work at `due` at the latest and
-- the curve's foot is at `f`: what the train can reach until then is within the curve, with the ordered acceleration
-- while it is driven; a train that is neither driven nor commanded to brake stands; and so does one whose brakes would
-- work too late, or that no reading within the SvL let start
pub record IsKept (on : Slopes) (f : ℤ) (due : ℕ) (last : Option ℕ) (o : Orders) (time : ℕ) (t : TrueTrain) :
    Type 0 where
  pub accel : ℕ
  pub reached : IsWithinCurve on 1 f 0 (reach accel (due - time) t)
  pub same : o.within ≡ true → accel ≡ a_est1 o.accel
  pub still : o.within ≡ false → o.eb ≡ false → t.speed ≡ 0
  pub late : (b : ℕ) → o.onset ≡ Some b → (t.speed ≡ 0) ⊎ (b ≤ due)
  pub standing : last ≡ None → t.speed ≡ 0

-- ---- one ds

-- from its onset on a commanded brake works
braked_from : (o : Orders) (time b : ℕ) → o.eb ≡ true → o.onset ≡ Some b → b ≤ time → is_braked o time ≡ true
braked_from o time b e is le = rw (e, is) (le-leb b time le)

-- with no time left the train reaches no more than it has
at_once : (on : Slopes) (f : ℤ) → IsUsable on → (a h : ℕ) (t : TrueTrain) → h ≡ 0 →
    IsWithinCurve on 1 f 0 (point_of t) → IsWithinCurve on 1 f 0 (reach a h t)
at_once on f usable a h t none within =
    subst (λ (j : ℕ). IsWithinCurve on 1 f 0 (reach a j t)) (sym none)
    (within_before on f 0 (point_of t) (reach a 0 t) usable (omega (arith, ints))
    (mul-le _ _ _ _ (omega arith) (omega arith)) within)

module _ (on : Slopes) (usable : IsUsable on) (f : ℤ) (due : ℕ) (last : Option ℕ) (o : Orders)
    (orders : AreOrders last o) (time : ℕ) (t : TrueTrain) (fresh : o.within ≡ true → time < due)
    (k : IsKept on f due last o time t) where
  -- a ds in which the train gets no faster keeps what is said of standing and of the onset
  kept_by : (t' : TrueTrain) → t'.speed ≤ t.speed → IsWithinCurve on 1 f 0 (reach k.accel (due - suc time) t') →
      IsKept on f due last o (suc time) t'
  kept_by t' slower within = record {
    accel = k.accel;
    reached = within;
    same = k.same;
    still = λ w e. (let s = k.still w e in omega arith);
    late = λ b is. elim (k.late b is) [ inl s ↦ inl (omega arith) | inr le ↦ inr le ];
    standing = λ none. (let s = k.standing none in omega arith);
  }

  -- while time is left
  before : time < due → IsKept on f due last o (suc time) (after_ds on o time t)
  before lt =
      let rest = due - suc time in
      let left : due - time ≡ suc rest = omega arith in
      let from = subst (λ (h : ℕ). IsWithinCurve on 1 f 0 (reach k.accel h t)) left k.reached in
      by_case (IsKept on f due last o (suc time)) on o time t
      (λ e. kept_by (after_braking on t) (braking_slower on t usable)
      (sliced on f 0 k.accel rest t (after_braking on t) usable (braking_is_slice on k.accel t usable) from))
      (λ e h. kept_by (after_coasting t) (omega arith)
      (sliced on f 0 k.accel rest t (after_coasting t) usable (coasting_is_slice k.accel t) from))
      (λ e h.
      let a = a_est1 o.accel in
      let driven = subst (λ (a : ℕ). IsWithinCurve on 1 f 0 (reach a (suc rest) t)) (k.same h) from in
      record {
        accel = a;
        reached = sliced on f 0 a rest t (after_driving o.accel t) usable (driving_is_slice o.accel t) driven;
        same = λ w. refl;
        still = λ w e. absurd (true≢false (sym h ∙ w));
        late = λ b is. absurd (none-some b (sym (orders.free e) ∙ is));
        standing = λ none. absurd (orders.known h none);
      })

  -- once none is left, a train that isn't braked stands
  stands : due ≤ time → is_braked o time ≡ false → o.within ≡ false → t.speed ≡ 0
  stands ge e w =
      elim (cases_Bool o.eb) [
        | inl eb ↦ (
            let onset = orders.working eb in
            elim (k.late onset.0 onset.1) [
              | inl still ↦ still
              | inr le ↦ absurd (true≢false (sym (braked_from o time onset.0 eb onset.1 (omega arith)) ∙ e))
            ])
        | inr none ↦ k.still w none
      ]

  -- a reading within the SvL leaves time
  not_within : due ≤ time → o.within ≡ true → ⊥
  not_within ge w = let lt = fresh w in omega arith

  -- once none is left
  after : due ≤ time → IsKept on f due last o (suc time) (after_ds on o time t)
  after ge =
      let none : due - suc time ≡ 0 = omega arith in
      let here : IsWithinCurve on 1 f 0 (point_of t) =
      within_before on f 0 (reach k.accel (due - time) t) (point_of t) usable (omega (arith, ints))
      (mul-le _ _ _ _ (omega arith) (omega arith)) k.reached in
      by_case (IsKept on f due last o (suc time)) on o time t
      (λ e. kept_by (after_braking on t) (braking_slower on t usable)
      (at_once on f usable k.accel (due - suc time) (after_braking on t) none (braked on f 0 t usable here)))
      (λ e h. elim (cases_Bool o.within) [
        | inl w ↦ absurd (not_within ge w)
        | inr w ↦ (
            let still = stands ge e w in
            kept_by (after_coasting t) (omega arith)
            (at_once on f usable k.accel (due - suc time) (after_coasting t) none
            (within_before on f 0 (point_of t) (point_of (after_coasting t)) usable (omega (arith, ints)) (omega arith)
            here)))
      ])
      (λ e w. absurd (not_within ge w))

-- one ds keeps it
kept_ds : (on : Slopes) → IsUsable on → (f : ℤ) (due : ℕ) (last : Option ℕ) (o : Orders) → AreOrders last o →
    (time : ℕ) (t : TrueTrain) → (o.within ≡ true → time < due) → IsKept on f due last o time t →
    IsKept on f due last o (suc time) (after_ds on o time t)
kept_ds on usable f due last o orders time t fresh k =
    elim (cases_lt time due) [
      | inl lt ↦ before on usable f due last o orders time t fresh k lt
      | inr ge ↦ after on usable f due last o orders time t fresh k ge
    ]

-- so do several, where a reading within the SvL leaves time for them all
pub kept_several_ds : (on : Slopes) → IsUsable on → (f : ℤ) (due : ℕ) (last : Option ℕ) (o : Orders) →
    AreOrders last o → (time n end : ℕ) (t : TrueTrain) → end ≡ time + n → (o.within ≡ true → end ≤ due) →
    IsKept on f due last o time t → IsKept on f due last o end (after_several_ds on o time n t)
kept_several_ds on usable f due last o orders time zero end t e fresh k =
    subst (λ (m : ℕ). IsKept on f due last o m t) (omega arith) k
kept_several_ds on usable f due last o orders time (suc n) end t e fresh k =
    kept_several_ds on usable f due last o orders (suc time) n end (after_ds on o time t) (omega arith) fresh
    (kept_ds on usable f due last o orders time t (λ w. (let le = fresh w in omega arith)) k)
