-- A motion as a ride: a slice is as many ticks as it has time, the greatest acceleration first; its braking is one
-- tick. A slice without time may lose speed, so the ride is at least as fast, until it loses the rest where it stands.
use Rattle.std.proofs.Common.{◌≡◌, ℕ, ℤ, zero, suc, pos, negsuc, List, [], ◌∷◌, ◌++◌, ◌+◌, ◌-◌, ◌*◌, ◌<◌, ◌≤◌, ◌+ℤ◌}
use Rattle.std.proofs.Common.{◌≤ℤ◌, None, Some, true, refl, subst, sym, ap, ◌∙◌, arith, inl, inr}
use Rattle.std.specs.Int.{int_gap}
use Rattle.std.proofs.lemmas.Bool.{cases_lt}
use Rattle.std.proofs.lemmas.Int.{ints}
use Rattle.std.proofs.lemmas.List.Elements.{All-nil, All-cons}
use Rattle.std.proofs.lemmas.Nat.{mul-le}
use Rattle.std.proofs.Math.Nat.{mul-le-mul_left}
use Rattle.std.proofs.lemmas.Option.{same_Some}
use Rattle.sdm_num.specs.Readings.{OdometerReading}
use Rattle.sdm_rules.specs.declared.data.SlopeKind.TheVariants.{Safe}
use Rattle.sdm_rules.specs.declared.motions.Phase.{Phase}
use Rattle.sdm_rules.specs.declared.motions.Phase.TheVariants.{Traction, Build}
use Rattle.sdm_rules.specs.declared.motions.Point.{Point}
use Rattle.sdm_rules.specs.declared.motions.Slice.{Slice}
use Rattle.sdm_rules.specs.declared.motions.Start.{Start}
use Rattle.sdm_rules.specs.Decelerations.{slopes_of}
use Rattle.sdm_rules.specs.Motion.{AreSlices, IsBraking, IsIn, IsSlice, accel_in, last_point, slice_ends, time_of}
use Rattle.sdm_rules.specs.Slopes.{Slopes, IsUsable}
use Rattle.sdm_rules.specs.Supervision.{Supervision, after_reading}
use Rattle.sdm_laws.proofs.Moving.SliceBounds.{distance_of, distance_of-append, last_end, last_speed, last_speed-append}
use Rattle.sdm_laws.proofs.Moving.SliceBounds.{slices_split}
use Rattle.sdm_laws.proofs.Rows.Headline.{open_usable}
use Rattle.sdm_ride.specs.Happenings.{Tick}
use Rattle.sdm_ride.specs.Moments.{Judging, Moment, Promise, after}
use Rattle.sdm_ride.specs.Rides.{BrakesBy, IsBraked, IsByClock, IsTick, start_of}
use Rattle.sdm_ride.specs.MotionRides.{ComesTo, LawOfMotionRides, is_tick}
use Rattle.sdm_ride.proofs.InPlace.{drop}

-- ---- braking

-- steps over points to the last of those that follow
record Reaches (on : Slopes) (m : ℕ) (x y : Point) (more : List Point) : Type 0 where
  via : List Point
  steps : BrakesBy on m x via (last_point y more)
  stands : (last_point y more).square ≡ 0
  ahead : y.place ≤ℤ (last_point y more).place

one_more : (on : Slopes) (m : ℕ) (x : Point) (via : List Point) (y z : Point) → BrakesBy on m x via y →
    BrakesBy on m y [] z → BrakesBy on m x (via ++ y ∷ []) z
one_more on m x [] y z steps last = (steps, last)
one_more on m x (w ∷ ws) y z steps last = (steps.0, one_more on m w ws y z steps.1 last)

reaches : (on : Slopes) (m : ℕ) (x : Point) (via : List Point) (y : Point) (more : List Point) →
    BrakesBy on m x via y → IsBraking on m y more → Reaches on m x y more
reaches on m x via y [] steps h = record { via = via; steps = steps; stands = h; ahead = omega (arith, ints) }
reaches on m x via y (z ∷ zs) steps h =
    let rest = reaches on m x (via ++ y ∷ []) z zs (one_more on m x via y z steps h.0) h.1 in
    let on_from_z = rest.ahead in
    record {
      via = rest.via;
      steps = rest.steps;
      stands = rest.stands;
      ahead = omega (arith, ints, h.0.brakes.forward);
    }

-- the distance from a place to one that isn't before it
int_gap_is : (a b : ℤ) → a ≤ℤ b → b ≡ a +ℤ pos (int_gap a b)
int_gap_is (pos a) (pos b) le = omega (arith, ints)
int_gap_is (pos a) (negsuc b) le = omega (arith, ints)
int_gap_is (negsuc a) (pos b) le = omega (arith, ints)
int_gap_is (negsuc a) (negsuc b) le = omega (arith, ints)

-- ---- a slice in ticks

-- what is left of a slice after a tick with the greatest acceleration over its whole way
moves_after : (a v to n length : ℕ) → to ≤ v + 54 * a * suc (suc n) →
    2 * length ≤ 1_000_000 * (v + to) * suc (suc n) → 500_000 * (v + (v + 54 * a)) ≤ length →
    2 * (length - 500_000 * (v + (v + 54 * a))) ≤ 1_000_000 * (v + 54 * a + to) * suc n
moves_after a v to n length gains moves le = omega arith

module _ (j : Judging) (s : ℕ) (t under : Supervision) (r : OdometerReading) (end : Point) where
  -- the promise at an age
  abbrev promise_at : ℕ → Promise
  promise_at age = record { under = under; reading = r; age = age }

  -- a moment at which it stands
  abbrev moment : ℤ → ℕ → ℕ → ℕ → Moment
  moment p v age silence = record {
    supervision = t;
    place = p;
    speed = v;
    silence = silence;
    order = None;
    promise = Some (promise_at age);
  }

  -- the ride comes to the end
  abbrev Comes : ℤ → ℕ → ℕ → ℕ → Type 0
  Comes p v age silence = ComesTo j s (moment p v age silence) end

  -- after a tick by the clock
  tick_first : (p : ℤ) (v age silence to length : ℕ) →
      IsByClock s (promise_at age) (moment p v age silence) to length →
      Comes (p +ℤ pos length) to (suc age) (suc silence) → Comes p v age silence
  unfolding after
  tick_first p v age silence to length by rest = record {
    happenings = Tick to length ∷ rest.happenings;
    ticks = All-cons (λ h. is_tick h ≡ true) (Tick to length) rest.happenings refl rest.ticks;
    ride = (
      (λ c e. subst (λ (c : Promise). IsByClock s c (moment p v age silence) to length) (same_Some _ c e) by),
      rest.ride,
    );
    ends = rest.ends;
  }

  -- from an age to another a tick may gain as much as the acceleration `a` allows
  abbrev MayGain : ℕ → ℕ → ℕ → Type 0
  MayGain a from to = (p : ℤ) (v age silence v' length : ℕ) → from ≤ age → age < to → IsTick a v v' length →
      IsByClock s (promise_at age) (moment p v age silence) v' length

  -- a slice of some time
  slice_goes : (a from till n : ℕ) (p : ℤ) (v age silence to length : ℕ) → MayGain a from till → from ≤ age →
      age + suc n ≤ till → to ≤ v + 54 * a * suc n → 2 * length ≤ 1_000_000 * (v + to) * suc n →
      ((age' silence' : ℕ) → age' ≡ age + suc n → Comes (p +ℤ pos length) to age' silence') →
      Comes p v age silence
  slice_goes a from till zero p v age silence to length may low high gains moves rest =
      tick_first p v age silence to length
      (may p v age silence to length low (omega arith) (record { gains = omega arith; moves = omega arith }))
      (rest (suc age) (suc silence) (omega arith))
  slice_goes a from till (suc n) p v age silence to length may low high gains moves rest =
      let most = 500_000 * (v + (v + 54 * a)) in
      elim (cases_lt length most) [
        | inl lt ↦ (
            let e : (p +ℤ pos length) +ℤ pos 0 ≡ p +ℤ pos length = omega (arith, ints) in
            tick_first p v age silence (v + 54 * a) length
            (may p v age silence (v + 54 * a) length low (omega arith)
            (record { gains = omega arith; moves = omega arith }))
            (slice_goes a from till n (p +ℤ pos length) (v + 54 * a) (suc age) (suc silence) to 0 may (omega arith)
            (omega arith) (omega arith) (omega arith)
            (λ age' silence' is. subst (λ (q : ℤ). Comes q to age' silence') (sym e)
            (rest age' silence' (omega arith)))))
        | inr ge ↦ (
            let e : (p +ℤ pos most) +ℤ pos (length - most) ≡ p +ℤ pos length = omega (arith, ints) in
            tick_first p v age silence (v + 54 * a) most
            (may p v age silence (v + 54 * a) most low (omega arith)
            (record { gains = omega arith; moves = omega arith }))
            (slice_goes a from till n (p +ℤ pos most) (v + 54 * a) (suc age) (suc silence) to (length - most) may
            (omega arith) (omega arith) (omega arith) (moves_after a v to n length gains moves ge)
            (λ age' silence' is. subst (λ (q : ℤ). Comes q to age' silence') (sym e)
            (rest age' silence' (omega arith)))))
      ]

  -- a slice from a greater speed, which may be as it is where it has no time
  slice_from : (a from till time : ℕ) (p : ℤ) (v w age silence to length : ℕ) → MayGain a from till → from ≤ age →
      age + time ≤ till → v ≤ w → to ≤ v + 54 * a * time → 2 * length ≤ 1_000_000 * (v + to) * time →
      ((u age' silence' : ℕ) → to ≤ u → age' ≡ age + time → Comes (p +ℤ pos length) u age' silence') →
      Comes p w age silence
  slice_from a from till zero p v w age silence to length may low high faster gains moves rest =
      let e : p +ℤ pos length ≡ p = omega (arith, ints) in
      subst (λ (q : ℤ). Comes q w age silence) e (rest w age silence (omega arith) (omega arith))
  slice_from a from till (suc n) p v w age silence to length may low high faster gains moves rest =
      slice_goes a from till n p w age silence to length may low high (omega arith)
      (omega (arith, mul-le-mul_left (suc n) faster))
      (λ age' silence' is. rest to age' silence' (omega arith) is)

  -- slices of one phase, from a greater speed
  phase_goes : (start : Start) (phase : Phase) (from till : ℕ) (xs : List Slice) (p : ℤ) (v w age silence : ℕ) →
      MayGain (accel_in start phase) from till → IsIn phase xs → AreSlices start v xs → v ≤ w → from ≤ age →
      age + time_of xs ≤ till →
      ((u age' silence' : ℕ) → last_speed v xs ≤ u → age' ≡ age + time_of xs →
      Comes (p +ℤ pos (distance_of xs)) u age' silence') →
      Comes p w age silence
  phase_goes start phase from till [] p v w age silence may in_phase slices faster low high rest =
      let e : p +ℤ pos 0 ≡ p = omega (arith, ints) in
      subst (λ (q : ℤ). Comes q w age silence) e (rest w age silence faster (omega arith))
  phase_goes start phase from till (x ∷ xs) p v w age silence may in_phase slices faster low high rest =
      let a = accel_in start phase in
      let slice : IsSlice a v x = subst (λ (k : Phase). IsSlice (accel_in start k) v x) (in_phase 0 x (omega arith))
      slices.0 in
      let e : (p +ℤ pos x.length) +ℤ pos (distance_of xs) ≡ p +ℤ pos (x.length + distance_of xs) =
      omega (arith, ints) in
      slice_from a from till x.time p v w age silence x.to x.length may low (omega arith) faster slice.gains slice.moves
      (λ u age' silence' le is. phase_goes start phase from till xs (p +ℤ pos x.length) x.to u age' silence' may
      (λ k d lt. in_phase (suc k) d (omega arith)) slices.1 le (omega arith) (omega arith)
      (λ u' age'' silence'' le' is'. subst (λ (q : ℤ). Comes q u' age'' silence'') (sym e)
      (rest u' age'' silence'' le' (omega arith))))

  -- braking, once the brake works
  brakes_to : (p : ℤ) (v w age silence : ℕ) (more : List Point) →
      let start = start_of (promise_at age) in
      let first : Point = record { place = p; square = v * v } in
      IsUsable (slopes_of Safe under.train_and_track) → v ≤ w → s * (start.traction + start.berem) ≤ age →
      IsBraking (slopes_of Safe under.train_and_track) (s * s) first more → last_point first more ≡ end →
      Comes p w age silence
  unfolding after
  brakes_to p v w age silence more usable faster old braking ends =
      let on = slopes_of Safe under.train_and_track in
      let first : Point = record { place = p; square = v * v } in
      let here : Point = record { place = p; square = w * w } in
      let d = drop on (s * s) p (w * w) (v * v) usable (mul-le _ _ _ _ faster faster) in
      let reached = reaches on (s * s) here d.via first more d.steps braking in
      let last = last_point first more in
      let length = int_gap p last.place in
      let far : last.place ≡ p +ℤ pos length = int_gap_is p last.place reached.ahead in
      let is : last ≡ record { place = p +ℤ pos length; square = 0 } = same_point last (p +ℤ pos length) far
      reached.stands in
      let braked : IsBraked s (promise_at age) (moment p w age silence) 0 length = (
        reached.via,
        subst (λ (y : Point). BrakesBy on (s * s) here reached.via y) is reached.steps,
      ) in
      tick_first p w age silence 0 length
      (record {
        traction = λ young. absurd (omega arith);
        build = λ begun young. absurd (omega arith);
        brakes = λ _. braked;
      })
      (record {
        happenings = [];
        ticks = All-nil (λ h. is_tick h ≡ true);
        ride = tt;
        ends = sym is ∙ ends;
      })
    where
      same_point : (x : Point) (place : ℤ) → x.place ≡ place → x.square ≡ 0 → x ≡ record { place = place; square = 0 }
      same_point x place far stands =
          ap (λ (q : ℤ). record { place = q; square = x.square }) far
          ∙ ap (λ (u : ℕ). record { place = place; square = u }) stands

-- ---- a whole motion

-- the law of motions as rides
pub motion_rides : LawOfMotionRides
motion_rides j under r m o is =
    let s = m.scale in
    let place = m.place in
    let speed = m.speed in
    let first = m.first in
    let more = m.more in
    let motion = is.1.motion in
    let start = start_of (record { under = under; reading = r; age = 0 }) in
    let on = slopes_of Safe under.train_and_track in
    let t = after_reading under r in
    let end = last_point first more in
    let h = motion.reaction in
    let slices : AreSlices start speed (h.traction ++ h.build) = subst
    (λ (zs : List Slice). AreSlices start speed zs) h.split h.slices in
    let parts = slices_split start speed h.traction h.build slices in
    let middle = last_speed speed h.traction in
    let whole : m.slices ≡ h.traction ++ h.build = h.split in
    let begins : first ≡ record {
      place = place +ℤ pos (distance_of (h.traction ++ h.build));
      square = last_speed speed (h.traction ++ h.build) * last_speed speed (h.traction ++ h.build);
    } = motion.begins
    ∙ ap (λ (zs : List Slice). last_point (record { place = place; square = speed * speed })
    (slice_ends place speed zs)) whole
    ∙ last_end place speed (h.traction ++ h.build) in
    let far : place +ℤ pos (distance_of (h.traction ++ h.build))
    ≡ (place +ℤ pos (distance_of h.traction)) +ℤ pos (distance_of h.build) =
    (let e = distance_of-append h.traction h.build in omega (arith, ints)) in
    let fast : last_speed speed (h.traction ++ h.build) ≡ last_speed middle h.build =
    last_speed-append speed h.traction h.build in
    let at_last : first ≡ record {
      place = (place +ℤ pos (distance_of h.traction)) +ℤ pos (distance_of h.build);
      square = last_speed middle h.build * last_speed middle h.build;
    } = begins
    ∙ ap (λ (q : ℤ). record {
      place = q;
      square = last_speed speed (h.traction ++ h.build) * last_speed speed (h.traction ++ h.build);
    }) far
    ∙ ap (λ (v : ℕ). record {
      place = (place +ℤ pos (distance_of h.traction)) +ℤ pos (distance_of h.build);
      square = v * v;
    }) fast in
    let traction_time = h.traction_time in
    let build_time = h.build_time in
    phase_goes j s t under r end start Traction 0 (s * start.traction) h.traction place speed speed 0 0
    (λ p v age silence v' length low high tick. record {
      traction = λ _. tick;
      build = λ begun _. absurd (omega arith);
      brakes = λ begun. absurd (omega arith);
    }) h.in_traction parts.0 (omega arith) (omega arith) (omega arith)
    (λ u age silence faster is.
    phase_goes j s t under r end start Build (s * start.traction) (s * (start.traction + start.berem)) h.build
    (place +ℤ pos (distance_of h.traction)) middle u age silence
    (λ p v age silence v' length low high tick. record {
      traction = λ young. absurd (omega arith);
      build = λ _ _. tick;
      brakes = λ begun. absurd (omega arith);
    }) h.in_build parts.1 faster (omega arith) (omega arith)
    (λ u' age' silence' faster' is'.
    brakes_to j s t under r end
    ((place +ℤ pos (distance_of h.traction)) +ℤ pos (distance_of h.build)) (last_speed middle h.build) u' age'
    silence' more (open_usable under o Safe) faster' (omega arith)
    (subst (λ (x : Point). IsBraking on (s * s) x more) at_last motion.braking)
    (ap (λ (x : Point). last_point x more) (sym at_last))))
