-- Rides by the clock: a reading that gives a promise leaves it whole, each tick by the clock leaves what is left of it,
-- and what is left is true of the train. All of it for any judging, and for whatever its readings promise.
use Rattle.std.proofs.Common.{◌≡◌, ◌⊎◌, ℕ, ℤ, zero, suc, pos, Bool, true, false, List, [], ◌∷◌, ◌++◌, ◌+◌, ◌*◌, ◌<◌}
use Rattle.std.proofs.Common.{◌≤◌, ◌+ℤ◌, Option, Some, None, refl, subst, sym, arith, inl, inr, not}
use Rattle.std.proofs.Common.{◌||◌}
use Rattle.std.specs.Prelude.{All, IfOk, Result, Ok, Err, option_map}
use Rattle.std.proofs.lemmas.Bool.{and_parts, not-true}
use Rattle.std.proofs.lemmas.Option.{none-some, same_Some}
use Rattle.std.proofs.lemmas.List.Elements.{All-nil, All-cons}
use Rattle.sdm_num.specs.Readings.{OdometerReading}
use Rattle.sdm_rules.specs.declared.data.SlopeKind.TheVariants.{Safe}
use Rattle.sdm_rules.specs.declared.faults.EventCause.{EventCause}
use Rattle.sdm_rules.specs.declared.faults.TakeOverFault.{TakeOverFault}
use Rattle.sdm_rules.specs.declared.motions.Point.{Point}
use Rattle.sdm_rules.specs.declared.records.Event.{Event}
use Rattle.sdm_rules.specs.declared.records.Event.TheVariants as record_kinds
use Rattle.sdm_rules.specs.Cells.{place_of_cell}
use Rattle.sdm_rules.specs.Decelerations.{slopes_of}
use Rattle.sdm_rules.specs.Motion.{Motion, KeepsTo, last_point, slice_ends}
use Rattle.sdm_rules.specs.Opening.{IsOpen}
use Rattle.sdm_rules.specs.Reaction.{reaction_start}
use Rattle.sdm_rules.specs.Records.{step}
use Rattle.sdm_rules.specs.Slopes.{Slopes, IsUsable}
use Rattle.sdm_rules.specs.Stop.{IsMotionOn}
use Rattle.sdm_rules.specs.Supervision.{Supervision, after_reading, profile_of, row_of}
use Rattle.sdm_rules.specs.TakeOver.{change, take_over_fault, taken_over, unless_refused}
use Rattle.sdm_rules.specs.Targets.{fall_at, foot_speed_of}
use Rattle.sdm_rules.specs.Within.{is_within_svl}
use Rattle.sdm_laws.specs.Falls.{allowance}
use Rattle.sdm_laws.proofs.Rows.Falls.{falls}
use Rattle.sdm_laws.proofs.Rows.Headline.{open_usable, over_kinds, still_open, stop}
use Rattle.sdm_laws.proofs.Rows.WithinSvl.{commanded, within_stops}
use Rattle.sdm_ride.specs.Happenings.{Happening, Record, Unread, Overdue, Change, Tick}
use Rattle.sdm_ride.specs.Moments.{Judging, Moment, Promise, after, after_change, after_record, after_taken, aged, by_free_rows}
use Rattle.sdm_ride.specs.Moments.{by_rows, by_svl, moments, promise_after}
use Rattle.sdm_ride.specs.Rides.{IsByClock, IsRide, IsTrueReading, IsTrueRecord, MayHappen, start_of}
use Rattle.sdm_ride.specs.RideLaws.{AreKeptByClock, IsAsCovered, IsAsFree, IsByItsSvl, IsRideStart, KeepsPromise}
use Rattle.sdm_ride.specs.RideLaws.{LawOfSvlOrders, LawOfTimedRides, Promised}
use Rattle.sdm_ride.proofs.Left.{LeftBraking, LeftBuild, LeftTraction, at, brakes_on, braking_begins, build_begins}
use Rattle.sdm_ride.proofs.Left.{build_tick, now_braking, now_build, now_traction, traction_tick}

-- ---- what readings promise

-- a reading that gives a promise promises it of every braking point of every motion
abbrev pub Gives : Judging → Promised → Type 0
Gives j what = (under : Supervision) (r : OdometerReading) → IsOpen under → j.promises under r ≡ true →
    (m : Motion) → IsMotionOn (slopes_of Safe under.train_and_track) (reaction_start under.train_and_track r) m →
    All (what m.scale under r) (m.first ∷ m.more)

-- what holds of a list holds of its later part
later_all : (Q : Point → Type 0) (xs ys : List Point) → All Q (xs ++ ys) → All Q ys
later_all Q [] ys h = h
later_all Q (x ∷ xs) ys h = later_all Q xs ys (λ k d lt. h (suc k) d (omega arith))

-- a covered row
pub covered_gives : Gives by_rows IsAsCovered
covered_gives under r o covered m is =
    let safe = stop under r o covered in
    λ k d lt. record {
      stops = λ eoa svl release a. safe.stops eoa svl release a m is k d lt;
      meets = λ t among speed. later_all (KeepsTo m.scale t.place (foot_speed_of t))
          (slice_ends m.place m.speed m.slices) (m.first ∷ m.more) (safe.meets t among speed m is) k d lt;
    }

-- a free row
free_gives : Gives by_free_rows IsAsFree
free_gives under r o free m is =
    let parts = and_parts (row_of under r).covered (not (row_of under r).held.eb) free in
    let met = falls under r o parts.0 (not-true _ parts.1) in
    λ k d lt. record {
      covered = covered_gives under r o parts.0 m is k d lt;
      falls = λ cell ahead. later_all (KeepsTo m.scale (place_of_cell cell)
          (foot_speed_of (fall_at (profile_of under) cell) + allowance under.train_and_track r cell))
          (slice_ends m.place m.speed m.slices) (m.first ∷ m.more) (met cell ahead m is) k d lt;
    }

-- a reading within the SvL
svl_gives : Gives by_svl IsByItsSvl
svl_gives under r o within m is =
    λ k d lt eoa svl release a. within_stops under r o within eoa svl release a m is k d lt

-- ---- what is left by the clock

-- the slopes of the reading of a promise
abbrev pub slopes_at : Promise → Slopes
slopes_at c = slopes_of Safe c.under.train_and_track

-- what is left while the traction may push
pub record InTraction (s : ℕ) (c : Promise) (Q : Point → Type 0) (p : ℤ) (v : ℕ) : Type 0 where
  rest : ℕ
  time : c.age + rest ≡ s * (start_of c).traction
  left : LeftTraction s (start_of c) (slopes_at c) Q rest p v

-- what is left while the brake builds up
pub record InBuild (s : ℕ) (c : Promise) (Q : Point → Type 0) (p : ℤ) (v : ℕ) : Type 0 where
  rest : ℕ
  begun : s * (start_of c).traction ≤ c.age
  time : c.age + rest ≡ s * ((start_of c).traction + (start_of c).berem)
  left : LeftBuild s (start_of c) (slopes_at c) Q rest p v

-- what is left once the brake works
pub record InBraking (s : ℕ) (c : Promise) (Q : Point → Type 0) (p : ℤ) (v : ℕ) : Type 0 where
  begun : s * ((start_of c).traction + (start_of c).berem) ≤ c.age
  left : LeftBraking (slopes_at c) (s * s) Q (at p v)

-- what is left of a promise
abbrev pub IsLeft : ℕ → Promise → (Point → Type 0) → ℤ → ℕ → Type 0
IsLeft s c Q p v = InTraction s c Q p v ⊎ (InBuild s c Q p v ⊎ InBraking s c Q p v)

module _ (s : ℕ) (c : Promise) (Q : Point → Type 0) where
  -- it is true of the train
  left_now : (p : ℤ) (v : ℕ) → IsUsable (slopes_at c) → IsLeft s c Q p v → Q (at p v)
  left_now p v usable (inl h) = now_traction s (start_of c) (slopes_at c) Q h.rest p v usable h.left
  left_now p v usable (inr (inl h)) = now_build s (start_of c) (slopes_at c) Q h.rest p v usable h.left
  left_now p v usable (inr (inr h)) = now_braking (slopes_at c) (s * s) Q (at p v) usable h.left

  -- it stays after a tick of braking
  braking_left : (m : Moment) (to length : ℕ) → IsByClock s c m to length → InBraking s c Q m.place m.speed →
      IsLeft s (aged c) Q (m.place +ℤ pos length) to
  braking_left m to length by h =
      let begun = h.begun in
      let braked = by.brakes begun in
      inr (inr (record {
        begun = omega arith;
        left = brakes_on (slopes_at c) (s * s) Q (at m.place m.speed) braked.0 _ braked.1 h.left;
      }))

  -- after a tick of the build-up
  build_left : (m : Moment) (to length rest : ℕ) → IsByClock s c m to length →
      s * (start_of c).traction ≤ c.age → c.age + rest ≡ s * ((start_of c).traction + (start_of c).berem) →
      LeftBuild s (start_of c) (slopes_at c) Q rest m.place m.speed →
      IsLeft s (aged c) Q (m.place +ℤ pos length) to
  build_left m to length zero by begun time left =
      braking_left m to length by
      (record { begun = omega arith; left = braking_begins s (start_of c) (slopes_at c) Q m.place m.speed left })
  build_left m to length (suc rest) by begun time left =
      inr (inl (record {
        rest = rest;
        begun = omega arith;
        time = omega arith;
        left =
            build_tick s (start_of c) (slopes_at c) Q rest m.place m.speed to length
            (by.build begun (omega arith)) left;
      }))

  -- after a tick of the traction
  traction_left : (m : Moment) (to length rest : ℕ) → IsByClock s c m to length →
      c.age + rest ≡ s * (start_of c).traction →
      LeftTraction s (start_of c) (slopes_at c) Q rest m.place m.speed →
      IsLeft s (aged c) Q (m.place +ℤ pos length) to
  traction_left m to length zero by time left =
      build_left m to length (s * (start_of c).berem) by (omega arith) (omega arith)
      (build_begins s (start_of c) (slopes_at c) Q m.place m.speed left)
  traction_left m to length (suc rest) by time left =
      inl (record {
        rest = rest;
        time = omega arith;
        left =
            traction_tick s (start_of c) (slopes_at c) Q rest m.place m.speed to length
            (by.traction (omega arith)) left;
      })

  -- so after each tick
  tick_left : (m : Moment) (to length : ℕ) → IsByClock s c m to length → IsLeft s c Q m.place m.speed →
      IsLeft s (aged c) Q (m.place +ℤ pos length) to
  tick_left m to length by (inl h) = traction_left m to length h.rest by h.time h.left
  tick_left m to length by (inr (inl h)) = build_left m to length h.rest by h.begun h.time h.left
  tick_left m to length by (inr (inr h)) = braking_left m to length by h

-- ---- the promise after a happening

-- what a map over an option gives comes of what it had
pub mapped : {A B : Type 0} (f : A → B) (o : Option A) (b : B) → option_map f o ≡ Some b →
    (a : A) × (o ≡ Some a) × (b ≡ f a)
mapped f None b e = absurd (none-some b e)
mapped f (Some a) b e = (a, refl, sym (same_Some _ _ e))

-- the promise that stands after a reading is that of this one, or the one that stood
pub next_promise : (promises orders : Bool) (new : Promise) (last : Option Promise) (c : Promise) →
    promise_after promises orders new last ≡ Some c →
    ((promises ≡ true) × (c ≡ new)) ⊎ (last ≡ Some c)
next_promise true orders new last c e = inl (refl, sym (same_Some _ _ e))
next_promise false true new last c e = inr e
next_promise false false new last c e = absurd (none-some c e)

-- ---- a change of data

-- what holds of the state that takes over holds after a change that is taken
pub over_change : (P : Supervision → Type 0) (next before : Supervision) → P (taken_over next before) →
    IfOk (change next before) P
unfolding change
over_change P next before h = unless (take_over_fault next.train_and_track.track.length_cm before.restrictions)
  where
    unless : (f : Option TakeOverFault) → IfOk (unless_refused f (taken_over next before)) P
    unless None = h
    unless (Some fault) = tt

-- the state over accepted data is open
pub change_opens : (next before : Supervision) → IsOpen next → IfOk (change next before) IsOpen
change_opens next before o = over_change IsOpen next before (still_open next _ refl o)

-- ---- the ride

-- what a ride keeps: the data are accepted, and what is left of the promise that stands
pub record IsOnRide (what : Promised) (s : ℕ) (m : Moment) : Type 0 where
  pub is_open : IsOpen m.supervision
  pub left : (c : Promise) → m.promise ≡ Some c →
      IsLeft s c (what s c.under c.reading) m.place m.speed × IsUsable (slopes_at c)

module _ (j : Judging) (what : Promised) (gives : Gives j what) (s : ℕ) (s_pos : 0 < s) where
  -- a true reading that gives a promise leaves it whole
  whole : (m : Moment) (r : OdometerReading) → IsOpen m.supervision → j.promises m.supervision r ≡ true →
      IsTrueReading s m r →
      let c : Promise = record { under = m.supervision; reading = r; age = 0 } in
      LeftTraction s (start_of c) (slopes_at c) (what s m.supervision r) (s * (start_of c).traction) m.place m.speed
  whole m r o promises told = λ traction build in_traction in_build time build_time slices more brakes.
      let xs = traction ++ build in
      let first = last_point (at m.place m.speed) (slice_ends m.place m.speed xs) in
      let motion : Motion = record {
        scale = s;
        place = m.place;
        speed = m.speed;
        slices = xs;
        first = first;
        more = more;
      } in
      gives m.supervision r o promises motion (
        s_pos,
        record {
          place = told.front;
          speed = told.speed;
          motion = record {
            reaction = record {
              traction = traction;
              build = build;
              split = refl;
              in_traction = in_traction;
              in_build = in_build;
              traction_time = time;
              build_time = build_time;
              slices = slices;
            };
            begins = refl;
            braking = brakes;
          };
        },
      )

  -- what a ride keeps stays after a reading
  read_keeps : (m : Moment) (r : OdometerReading) → IsOnRide what s m →
      (j.promises m.supervision r ≡ true → IsTrueReading s m r) →
      IsOnRide what s (after_taken j m (record_kinds.Read r) (after_reading m.supervision r))
  unfolding after_reading
  read_keeps m r h told =
      let under = m.supervision in
      let new : Promise = record { under = under; reading = r; age = 0 } in
      record {
        is_open = still_open under _ refl h.is_open;
        left = λ c e. elim (next_promise (j.promises under r) (j.orders under r) new m.promise c e) [
          | inl x ↦ subst (λ (y : Promise). IsLeft s y (what s y.under y.reading) m.place m.speed
              × IsUsable (slopes_at y)) (sym x.1) (
                inl (record {
                  rest = s * (start_of new).traction;
                  time = omega arith;
                  left = whole m r h.is_open x.0 (told x.0);
                }),
                open_usable under h.is_open Safe,
              )
          | inr x ↦ h.left c x
        ];
      }

  -- after a record that is taken
  taken_keeps : (m : Moment) (e : Event) → IsOnRide what s m →
      IfOk (step m.supervision e) (λ t. IsTrueRecord j s m e → IsOnRide what s (after_taken j m e t))
  taken_keeps m e h =
      let o = h.is_open in
      over_kinds (λ e t. IsTrueRecord j s m e → IsOnRide what s (after_taken j m e t)) m.supervision
      (λ r. read_keeps m r h)
      (λ a told. record { is_open = still_open m.supervision _ refl o; left = h.left })
      (λ eoa svl trip none told. record { is_open = still_open m.supervision _ refl o; left = h.left })
      (λ r told. record { is_open = still_open m.supervision _ refl o; left = h.left })
      (λ id told. record { is_open = still_open m.supervision _ refl o; left = h.left }) e

  -- after a record
  record_keeps : (m : Moment) (e : Event) (t : Result Supervision EventCause) → IsOnRide what s m →
      IfOk t (λ t. IsTrueRecord j s m e → IsOnRide what s (after_taken j m e t)) → IsTrueRecord j s m e →
      IsOnRide what s (after_record j m e t)
  record_keeps m e (Ok t) h k told = k told
  record_keeps m e (Err cause) h k told = h

  -- after a change of data
  change_keeps : (m : Moment) (t : Result Supervision TakeOverFault) → IsOnRide what s m → IfOk t IsOpen →
      IsOnRide what s (after_change m t)
  change_keeps m (Ok t) h o = record { is_open = o; left = h.left }
  change_keeps m (Err fault) h o = h

  -- after whatever happens
  keeps : (m : Moment) (h : Happening) → IsOnRide what s m → MayHappen j (IsByClock s) s m h →
      IsOnRide what s (after j m h)
  unfolding after
  keeps m (Record e) h may = record_keeps m e (step m.supervision e) h (taken_keeps m e h) may
  keeps m Unread h may = h
  keeps m Overdue h may = record { is_open = h.is_open; left = h.left }
  keeps m (Change next) h may = change_keeps m (change next m.supervision) h (change_opens next m.supervision may)
  keeps m (Tick to length) h may = record {
    is_open = h.is_open;
    left = λ c e.
        let x = mapped aged m.promise c e in
        let k = h.left x.0 x.1 in
        subst (λ (y : Promise). IsLeft s y (what s y.under y.reading) (m.place +ℤ pos length) to
        × IsUsable (slopes_at y)) (sym x.2)
        (tick_left s x.0 (what s x.0.under x.0.reading) m to length (may x.0 x.1) k.0, k.1);
  }

  -- what a ride keeps is the promise
  kept : (m : Moment) → IsOnRide what s m → KeepsPromise what s m
  kept m h c e = let k = h.left c e in left_now s c (what s c.under c.reading) m.place m.speed k.1 k.0

  -- so from what a ride keeps on
  rides_on : (m : Moment) (hs : List Happening) → IsOnRide what s m → IsRide j (IsByClock s) s m hs →
      All (KeepsPromise what s) (moments j m hs)
  rides_on m [] h ride = All-nil (KeepsPromise what s)
  rides_on m (x ∷ xs) h ride =
      let next = keeps m x h ride.0 in
      All-cons (KeepsPromise what s) (after j m x) (moments j (after j m x) xs) (kept (after j m x) next)
      (rides_on (after j m x) xs next ride.1)

-- at its start a ride has nothing to keep
starts : (what : Promised) (s : ℕ) (m : Moment) → IsRideStart m → IsOnRide what s m
starts what s m h = record {
  is_open = h.is_open;
  left = λ c e. absurd (none-some c (subst (λ (o : Option Promise). o ≡ Some c) h.none e));
}

-- promises are kept by the clock
pub kept_by_clock : (j : Judging) (what : Promised) → Gives j what → AreKeptByClock j what
kept_by_clock j what gives s m hs s_pos start ride = rides_on j what gives s s_pos m hs (starts what s m start) ride

-- the law of rides by the clock
pub timed_rides : LawOfTimedRides
timed_rides = record {
  rows = kept_by_clock by_rows IsAsCovered covered_gives;
  free_rows = kept_by_clock by_free_rows IsAsFree free_gives;
  svl = kept_by_clock by_svl IsByItsSvl svl_gives;
}

-- ---- the orders of a ride by the SvL

or_known : (eb within : Bool) → (within ≡ false → eb ≡ true) → (eb || not within) ≡ eb
or_known true within h = refl
or_known false true h = refl
or_known false false h = let e : false ≡ true = h refl in absurd cc

-- of a moving train they are the supervisor's commands
pub svl_orders : LawOfSvlOrders
svl_orders s r eoa svl a moving =
    or_known (row_of s r).held.eb (is_within_svl s r) (λ e. commanded s r eoa svl a e moving)
