-- Rides under the service brake by the clock: a reading that promises the EOA leaves whole the promise of each place by
-- which every motion from it stops, a tick that gains no more than the allowance leaves what is left of it, and what is
-- left is true of the train.
use Rattle.std.proofs.Common.{◌≡◌, ◌⊎◌, ℕ, ℤ, zero, suc, pos, Bool, true, false, List, [], ◌∷◌, ◌+◌, ◌*◌, ◌<◌, ◌≤◌, ◌+ℤ◌}
use Rattle.std.proofs.Common.{Option, Some, None, refl, subst, sym, arith, inl, inr, if◌then◌else◌, not, ◌&&◌, ◌||◌}
use Rattle.std.specs.Prelude.{All, IfOk, Result, Ok, Err, nat_lt, ◌≢◌}
use Rattle.std.proofs.lemmas.Bool.{and_parts, leb-true, ltb-true, not-true, or_parts, true≢false}
use Rattle.std.proofs.lemmas.Int.{ints}
use Rattle.std.proofs.lemmas.Option.{none-some}
use Rattle.std.proofs.lemmas.List.Elements.{All-nil, All-cons, All-weaker}
use Rattle.sdm_num.specs.Readings.{OdometerReading}
use Rattle.sdm_rules.specs.declared.authorities.Authority.{Authority}
use Rattle.sdm_rules.specs.declared.authorities.Authority.TheVariants.{Stop}
use Rattle.sdm_rules.specs.declared.commands.State.{State}
use Rattle.sdm_rules.specs.declared.commands.State.TheVariants.{R}
use Rattle.sdm_rules.specs.declared.data.SlopeKind.TheVariants.{Expected}
use Rattle.sdm_rules.specs.declared.faults.EventCause.{EventCause}
use Rattle.sdm_rules.specs.declared.faults.TakeOverFault.{TakeOverFault}
use Rattle.sdm_rules.specs.declared.motions.Phase.TheVariants.{Traction}
use Rattle.sdm_rules.specs.declared.motions.Point.{Point}
use Rattle.sdm_rules.specs.declared.motions.Slice.{Slice}
use Rattle.sdm_rules.specs.declared.motions.Start.{Start}
use Rattle.sdm_rules.specs.declared.records.Event.{Event}
use Rattle.sdm_rules.specs.declared.records.Event.TheVariants as record_kinds
use Rattle.sdm_rules.specs.Cells.{place_of_cell}
use Rattle.sdm_rules.specs.Decelerations.{slopes_of}
use Rattle.sdm_rules.specs.Motion.{IsBy, Motion, last_point, slice_ends}
use Rattle.sdm_rules.specs.Opening.{IsOpen}
use Rattle.sdm_rules.specs.Records.{step}
use Rattle.sdm_rules.specs.Slopes.{Slopes, IsUsable}
use Rattle.sdm_rules.specs.Stop.{IsMotionOn, StopsBy}
use Rattle.sdm_rules.specs.Supervision.{Supervision, after_reading, row_of}
use Rattle.sdm_rules.specs.TakeOver.{change}
use Rattle.sdm_laws.proofs.Rows.Headline.{open_usable, over_kinds, still_open}
use Rattle.sdm_row_laws.specs.Clearances.{start_with}
use Rattle.sdm_row_laws.specs.ServiceStop.{StopsByEoa, is_before_eoa}
use Rattle.sdm_row_laws.proofs.Service.{clear_stops, service_rows, service_stop}
use Rattle.sdm_ride.specs.Happenings.{Happening, Record, Unread, Overdue, Change, Tick}
use Rattle.sdm_ride.specs.Moments.{Moment, Promise, after, after_change, after_record, after_taken, after_tick, aged}
use Rattle.sdm_ride.specs.Moments.{is_release}
use Rattle.sdm_ride.specs.RideLaws.{IsRideStart, KeepsPromise}
use Rattle.sdm_ride.proofs.Left.{LeftBraking, LeftBuild, at, brakes_on, braking_begins, build_tick, now_braking}
use Rattle.sdm_ride.proofs.Left.{now_build}
use Rattle.sdm_ride.proofs.Promises.{change_opens, mapped, next_promise}
use Rattle.sdm_service_ride.specs.ServiceMoments.{Allowance, by_eoa, commands_brake, has_eoa, is_steady, no_allowance}
use Rattle.sdm_service_ride.specs.ServiceMoments.{promises_eoa, steady_after, steady_moments}
use Rattle.sdm_service_ride.specs.ServiceRides.{IsByServiceClock, IsEstimatedRecord, IsServiceRide, IsTrueEstimate}
use Rattle.sdm_service_ride.specs.ServiceRides.{MayFollow, service_time}
use Rattle.sdm_service_ride.specs.ServiceRideLaws.{IsByItsEoa, LawOfTimedServiceRides, StaysClear}

-- ---- a reading

-- the slopes of the reading of a promise
abbrev slopes_at : Promise → Slopes
slopes_at c = slopes_of Expected c.under.train_and_track

-- the train at that reading, with the allowance
abbrev allowed_start : Allowance → Promise → Start
allowed_start a c = start_with a c.under.train_and_track c.reading

-- a point is at or before each place by which every motion from the reading of a promise stops
abbrev IsByStops : Allowance → ℕ → Promise → Point → Type 0
IsByStops a s c x = (place : ℤ) → StopsBy (slopes_at c) (allowed_start a c) place → IsBy s place x

-- a reading whose estimate is true leaves the promise whole
whole : (a : Allowance) (s : ℕ) (m : Moment) (c : Promise) → 0 < s → IsTrueEstimate a s m c.reading →
    LeftBuild s (allowed_start a c) (slopes_at c) (IsByStops a s c) (s * service_time c) m.place m.speed
whole a s m c s_pos told = λ build in_build time slices more brakes.
    let first = last_point (at m.place m.speed) (slice_ends m.place m.speed build) in
    let motion : Motion = record {
      scale = s;
      place = m.place;
      speed = m.speed;
      slices = build;
      first = first;
      more = more;
    } in
    let is_motion : IsMotionOn (slopes_at c) (allowed_start a c) motion = (
      s_pos,
      record {
        place = told.front;
        speed = told.speed;
        motion = record {
          reaction = record {
            traction = [];
            build = build;
            split = refl;
            in_traction = All-nil (λ (y : Slice). y.phase ≡ Traction);
            in_build = in_build;
            traction_time = omega arith;
            build_time = time;
            slices = slices;
          };
          begins = refl;
          braking = brakes;
        };
      },
    ) in
    λ k d lt. λ place stops. stops motion is_motion k d lt

-- ---- what is left by the clock

-- what is left until the brake works
record InBuild (a : Allowance) (s : ℕ) (c : Promise) (p : ℤ) (v : ℕ) : Type 0 where
  rest : ℕ
  time : c.age + rest ≡ s * service_time c
  left : LeftBuild s (allowed_start a c) (slopes_at c) (IsByStops a s c) rest p v

-- what is left once it works
record InBraking (a : Allowance) (s : ℕ) (c : Promise) (p : ℤ) (v : ℕ) : Type 0 where
  begun : s * service_time c ≤ c.age
  left : LeftBraking (slopes_at c) (s * s) (IsByStops a s c) (at p v)

-- what is left of a promise
abbrev IsLeft : Allowance → ℕ → Promise → ℤ → ℕ → Type 0
IsLeft a s c p v = InBuild a s c p v ⊎ InBraking a s c p v

module _ (a : Allowance) (s : ℕ) (c : Promise) where
  -- it is true of the train
  left_now : (p : ℤ) (v : ℕ) → IsUsable (slopes_at c) → IsLeft a s c p v → IsByStops a s c (at p v)
  left_now p v usable (inl h) =
      now_build s (allowed_start a c) (slopes_at c) (IsByStops a s c) h.rest p v usable h.left
  left_now p v usable (inr h) = now_braking (slopes_at c) (s * s) (IsByStops a s c) (at p v) usable h.left

  -- it stays after a tick of braking
  braking_left : (m : Moment) (to length : ℕ) → IsByServiceClock s c m to length → InBraking a s c m.place m.speed →
      IsLeft a s (aged c) (m.place +ℤ pos length) to
  braking_left m to length by h =
      let begun = h.begun in
      let braked = by.brakes begun in
      inr (record {
        begun = omega arith;
        left = brakes_on (slopes_at c) (s * s) (IsByStops a s c) (at m.place m.speed) braked.0 _ braked.1 h.left;
      })

  -- after a tick of the build-up
  build_left : (m : Moment) (to length rest : ℕ) → IsByServiceClock s c m to length →
      to ≤ m.speed + 54 * a.accel → c.age + rest ≡ s * service_time c →
      LeftBuild s (allowed_start a c) (slopes_at c) (IsByStops a s c) rest m.place m.speed →
      IsLeft a s (aged c) (m.place +ℤ pos length) to
  build_left m to length zero by gains time left =
      braking_left m to length by (record {
        begun = omega arith;
        left = braking_begins s (allowed_start a c) (slopes_at c) (IsByStops a s c) m.place m.speed left;
      })
  build_left m to length (suc rest) by gains time left =
      inl (record {
        rest = rest;
        time = omega arith;
        left = build_tick s (allowed_start a c) (slopes_at c) (IsByStops a s c) rest m.place m.speed to length
            (record { gains = gains; moves = by.moves }) left;
      })

  -- so after each tick that gains no more than the allowance
  tick_left : (m : Moment) (to length : ℕ) → IsByServiceClock s c m to length → to ≤ m.speed + 54 * a.accel →
      IsLeft a s c m.place m.speed →
      IsLeft a s (aged c) (m.place +ℤ pos length) to
  tick_left m to length by gains (inl h) = build_left m to length h.rest by gains h.time h.left
  tick_left m to length by gains (inr h) = braking_left m to length by h

-- ---- along the ride

-- what is kept of a promise
record AtPromise (a : Allowance) (s : ℕ) (c : Promise) (p : ℤ) (v : ℕ) : Type 0 where
  is_open : IsOpen c.under
  promised : promises_eoa c.under c.reading ≡ true
  left : IsLeft a s c p v

record IsOnRide (a : Allowance) (s : ℕ) (m : Moment) : Type 0 where
  is_open : IsOpen m.supervision
  promise : (c : Promise) → m.promise ≡ Some c → AtPromise a s c m.place m.speed

-- what is true of the train by a promise
pub record IsKept (a : Allowance) (s : ℕ) (c : Promise) (x : Point) : Type 0 where
  pub is_open : IsOpen c.under
  pub promised : promises_eoa c.under c.reading ≡ true
  pub stops : IsByStops a s c x

-- so where one stands
abbrev pub KeepsStops : Allowance → ℕ → Moment → Type 0
KeepsStops a s m = (c : Promise) → m.promise ≡ Some c → IsKept a s c (at m.place m.speed)

module _ (a : Allowance) (s : ℕ) (s_pos : 0 < s) where
  -- what a ride keeps is true of the train
  kept : (m : Moment) → IsOnRide a s m → KeepsStops a s m
  kept m h c e =
      let k = h.promise c e in
      record {
        is_open = k.is_open;
        promised = k.promised;
        stops = left_now a s c m.place m.speed (open_usable c.under k.is_open Expected) k.left;
      }

  -- it stays after a reading
  read_keeps : (m : Moment) (r : OdometerReading) → IsOnRide a s m → IsEstimatedRecord a s m (record_kinds.Read r) →
      IsOnRide a s (after_taken by_eoa m (record_kinds.Read r) (after_reading m.supervision r))
  unfolding after_reading
  read_keeps m r h told =
      let under = m.supervision in
      let new : Promise = record { under = under; reading = r; age = 0 } in
      record {
        is_open = still_open under _ refl h.is_open;
        promise = λ c e. elim (next_promise (promises_eoa under r) (commands_brake (row_of under r)) new m.promise c e) [
          | inl x ↦ subst (λ (y : Promise). AtPromise a s y m.place m.speed) (sym x.1) (record {
            is_open = h.is_open;
            promised = x.0;
            left = inl (record {
              rest = s * service_time new;
              time = omega arith;
              left = whole a s m new s_pos (told x.0);
            });
          })
          | inr x ↦ h.promise c x
        ];
      }

  -- after a record that is taken
  taken_keeps : (m : Moment) (e : Event) → IsOnRide a s m →
      IfOk (step m.supervision e) (λ t. IsEstimatedRecord a s m e → IsOnRide a s (after_taken by_eoa m e t))
  taken_keeps m e h =
      let o = h.is_open in
      over_kinds (λ e t. IsEstimatedRecord a s m e → IsOnRide a s (after_taken by_eoa m e t)) m.supervision
      (λ r. read_keeps m r h)
      (λ x told. record { is_open = still_open m.supervision _ refl o; promise = h.promise })
      (λ eoa svl trip none told. record { is_open = still_open m.supervision _ refl o; promise = h.promise })
      (λ r told. record { is_open = still_open m.supervision _ refl o; promise = h.promise })
      (λ id told. record { is_open = still_open m.supervision _ refl o; promise = h.promise }) e

  -- after a record
  record_keeps : (m : Moment) (e : Event) (t : Result Supervision EventCause) → IsOnRide a s m →
      IfOk t (λ t. IsEstimatedRecord a s m e → IsOnRide a s (after_taken by_eoa m e t)) → IsEstimatedRecord a s m e →
      IsOnRide a s (after_record by_eoa m e t)
  record_keeps m e (Ok t) h k told = k told
  record_keeps m e (Err cause) h k told = h

  -- after a tick, which ends the promise or gains no more than the allowance
  tick_keeps : (m : Moment) (to length : ℕ) (steady : Bool) → is_steady a m (Tick to length) ≡ steady →
      IsOnRide a s m → MayFollow (IsByServiceClock s) a s m (Tick to length) →
      IsOnRide a s (let next = after_tick m to length in if steady then next else record next { promise = None })
  tick_keeps m to length false e h may =
      record { is_open = h.is_open; promise = λ c e. absurd (none-some c e) }
  tick_keeps m to length true e h may = record {
    is_open = h.is_open;
    promise = λ c is.
        let x = mapped aged m.promise c is in
        let k = h.promise x.0 x.1 in
        subst (λ (y : Promise). AtPromise a s y (m.place +ℤ pos length) to) (sym x.2) (record {
          is_open = k.is_open;
          promised = k.promised;
          left = tick_left a s x.0 m to length (may x.0 x.1) (leb-true _ _ e) k.left;
        });
  }

  -- after a change of data
  change_keeps : (m : Moment) (t : Result Supervision TakeOverFault) → IsOnRide a s m → IfOk t IsOpen →
      IsOnRide a s (after_change m t)
  change_keeps m (Ok t) h o = record { is_open = o; promise = h.promise }
  change_keeps m (Err fault) h o = h

  -- after whatever happens
  keeps : (m : Moment) (h : Happening) → IsOnRide a s m → MayFollow (IsByServiceClock s) a s m h →
      IsOnRide a s (steady_after a m h)
  unfolding after
  keeps m (Record e) h may = record_keeps m e (step m.supervision e) h (taken_keeps m e h) may
  keeps m Unread h may = h
  keeps m Overdue h may = record { is_open = h.is_open; promise = h.promise }
  keeps m (Change next) h may = change_keeps m (change next m.supervision) h (change_opens next m.supervision may)
  keeps m (Tick to length) h may = tick_keeps m to length (is_steady a m (Tick to length)) refl h may

  -- so from what a ride keeps on
  rides_on : (m : Moment) (hs : List Happening) → IsOnRide a s m → IsServiceRide (IsByServiceClock s) a s m hs →
      All (KeepsStops a s) (steady_moments a m hs)
  rides_on m [] h ride = All-nil (KeepsStops a s)
  rides_on m (x ∷ xs) h ride =
      let n = steady_after a m x in
      let next = keeps m x h ride.0 in
      All-cons (KeepsStops a s) n (steady_moments a n xs) (kept n next) (rides_on n xs next ride.1)

  -- every ride by the clock keeps each place by which every motion from the reading of its promise stops
  pub stops_kept : (m : Moment) (hs : List Happening) → IsRideStart m →
      IsServiceRide (IsByServiceClock s) a s m hs →
      All (KeepsStops a s) (steady_moments a m hs)
  stops_kept m hs start ride = rides_on m hs (record {
    is_open = start.is_open;
    promise = λ c e. absurd (none-some c (subst (λ (o : Option Promise). o ≡ Some c) start.none e));
  }) ride

-- ---- the EOA

either_true : (a b : Bool) → (a || b) ≡ true → (a ≡ true) ⊎ (b ≡ true)
either_true true b e = inl refl
either_true false b e = inr e

not_release : (state : State) → is_release state ≡ false → state ≢ R
not_release state e is = true≢false (subst (λ (x : State). is_release x ≡ false) is e)

-- by the EOA of a reading that promises it every motion stops
promised_stops : (under : Supervision) (r : OdometerReading) → IsOpen under → promises_eoa under r ≡ true →
    (eoa svl release : ℕ) → under.authority ≡ Stop eoa svl release →
    StopsByEoa under.train_and_track r eoa
promised_stops under r o promised eoa svl release is =
    let d = under.train_and_track in
    let row = row_of under r in
    let parts = and_parts (has_eoa d r under.authority) (not (is_release row.state) && not (commands_brake row)) promised
    in
    let calm = and_parts (not (is_release row.state)) (not (commands_brake row)) parts.1 in
    let brakes = or_parts row.held.sb row.held.eb (not-true _ calm.1) in
    let ahead : (nat_lt 0 r.speed || is_before_eoa d r eoa) ≡ true =
    subst (λ (x : Authority). has_eoa d r x ≡ true) is parts.0 in
    elim (either_true (nat_lt 0 r.speed) (is_before_eoa d r eoa) ahead) [
      | inl x ↦ service_rows under r o (record {
        moving = ltb-true 0 r.speed x;
        state = not_release row.state (not-true _ calm.0);
        sb = brakes.0;
        eb = brakes.1;
      }) eoa svl release is
      | inr x ↦ service_stop under r eoa o x
    ]

-- without an allowance the motions are those of the service stop
exact_stops : (c : Promise) (place : ℤ) → StopsBy (slopes_at c) (record {
  front = c.reading.est;
  speed = c.reading.speed;
  accel1 = 0;
  accel2 = 0;
  traction = 0;
  berem = service_time c;
}) place →
    StopsBy (slopes_at c) (allowed_start no_allowance c) place
exact_stops c place h =
    let r = c.reading in
    let front : r.est ≡ r.est +ℤ pos 0 = omega (arith, ints) in
    let speed : r.speed ≡ r.speed + 0 = omega arith in
    subst (λ (f : ℤ). StopsBy (slopes_at c)
    (record { front = f; speed = r.speed + 0; accel1 = 0; accel2 = 0; traction = 0; berem = service_time c }) place) front
    (subst (λ (v : ℕ). StopsBy (slopes_at c)
    (record { front = r.est; speed = v; accel1 = 0; accel2 = 0; traction = 0; berem = service_time c }) place) speed h)

pub eoa_kept : (s : ℕ) (m : Moment) → KeepsStops no_allowance s m → KeepsPromise IsByItsEoa s m
eoa_kept s m h c e eoa svl release is =
    let k = h c e in
    let place = place_of_cell (pos eoa) in
    k.stops place
    (exact_stops c place (promised_stops c.under c.reading k.is_open k.promised eoa svl release is))

-- with an allowance each place that the reading was clear of
pub clear_kept : (a : Allowance) (s : ℕ) (m : Moment) → KeepsStops a s m → StaysClear a s m
clear_kept a s m h c e place clear =
    let k = h c e in k.stops place (clear_stops a c.under c.reading place k.is_open clear)

-- the law of rides by the clock
pub timed_service_rides : LawOfTimedServiceRides
timed_service_rides s m hs s_pos start ride =
    All-weaker (KeepsStops no_allowance s) (KeepsPromise IsByItsEoa s) (λ n h. eoa_kept s n h)
    (steady_moments no_allowance m hs) (stops_kept no_allowance s s_pos m hs start ride)
