-- The drive: what is kept from reading to reading, and so over every number of steps. A reading within the SvL begins
-- the time of reaction anew; at any other a train that moves is commanded to brake.
use Rattle.std.proofs.Common.{◌≡◌, ℕ, pos, Bool, true, false, Option, Some, None, suc, zero, ◌+◌, ◌-◌, ◌*◌, ◌<◌, ◌≤◌}
use Rattle.std.proofs.Common.{◌+ℤ◌, ◌*ℤ◌, ◌≤ℤ◌, min, refl, sym, subst, arith, inl, inr, ◌⊎◌, ◌∙◌}
use Rattle.std.specs.Prelude.{unsigned_abs}
use Rattle.std.proofs.lemmas.Int.{ints}
use Rattle.std.proofs.lemmas.Bool.{cases_lt, cases_Bool, true≢false}
use Rattle.std.proofs.lemmas.Option.{none-some}
use Rattle.sdm_num.specs.Fractions.{Fraction, IsAtMost, whole}
use Rattle.sdm_num.specs.Readings.{OdometerReading, estimate_of}
use Rattle.sdm_num.proofs.Order.{whole_at_most}
use Rattle.sdm_rules.specs.declared.authorities.Authority.TheVariants.{Stop}
use Rattle.sdm_rules.specs.declared.data.SlopeKind.TheVariants.{Safe}
use Rattle.sdm_rules.specs.declared.motions.Point.{Point}
use Rattle.sdm_rules.specs.Cells.{place_of_cell}
use Rattle.sdm_rules.specs.Slopes.{Slopes}
use Rattle.sdm_rules.specs.Data.{TrainAndTrack}
use Rattle.sdm_rules.specs.Decelerations.{slopes_of}
use Rattle.sdm_rules.specs.Reaction.{a_est1, reaction_times, build_up_from, v_bec, d_bec}
use Rattle.sdm_rules.specs.Supervision.{Supervision, row_of, after_reading}
use Rattle.sdm_rules.specs.Opening.{IsOpen}
use Rattle.sdm_rules.specs.Within.{is_within_svl}
use Rattle.sdm_laws.specs.MotionLaws.{IsWithinCurve}
use Rattle.sdm_laws.proofs.Moving.Braking.{within_held}
use Rattle.sdm_laws.proofs.BrakeCurves.CurveOrder.{exact_foot}
use Rattle.sdm_laws.proofs.Rows.Headline.{open_usable}
use Rattle.sdm_laws.proofs.Rows.WithinSvl.{front_within, commanded}
use Rattle.sdm_drive.specs.Drive.{TrueTrain, Drive, after_several_ds, brake_delay, brake_of, last_within, onset_after}
use Rattle.sdm_drive.specs.Drive.{next_reading, orders_after, after_step, after_step_from, after_steps, reading_by}
use Rattle.sdm_drive.specs.Drive.{step_time}
use Rattle.sdm_drive.specs.DriveLaws.{IsDrivable, IsInRanges, LawOfDrive, LawOfDriveRanges, most_steps}
use Rattle.sdm_drive.specs.DriveLaws.{reach, start_under}
use Rattle.sdm_drive.specs.Held.{IsHeldDrive, IsRanged, due_after, due_of}
use Rattle.sdm_drive.proofs.Sliced.{within_before}
use Rattle.sdm_drive.proofs.Readings.{IsReadOf, is_read, reached}
use Rattle.sdm_drive.proofs.Ranges.{step_ranged, in_ranges, not_back}
use Rattle.sdm_drive.proofs.Deciseconds.{AreOrders, IsKept, kept_several_ds}

-- ---- the onset

-- a command has an onset
onset_some : (eb : Bool) (onset last : Option ℕ) (time delay : ℕ) → eb ≡ true →
    (b : ℕ) × (onset_after eb onset last time delay ≡ Some b)
onset_some true (Some b) last time delay e = (b, refl)
onset_some true None (Some l) time delay e = (l + delay, refl)
onset_some true None None time delay e = (time + delay, refl)
onset_some false onset last time delay e = absurd (true≢false (sym e))

-- without a command there is none
onset_none : (eb : Bool) (onset last : Option ℕ) (time delay : ℕ) → eb ≡ false →
    onset_after eb onset last time delay ≡ None
onset_none false onset last time delay e = refl
onset_none true onset last time delay e = absurd (true≢false e)

-- what is said of the onset of a drive whose train has the speed `v`: it isn't past the time that is due, or the train
-- stands
abbrev IsInTime : Option ℕ → Option ℕ → ℕ → ℕ → Type 0
IsInTime onset last delay v = (b : ℕ) → onset ≡ Some b → (v ≡ 0) ⊎ (b ≤ due_after last delay)

-- so it is after a reading, where before it, and where a train stands that no reading let start
onset_late : (eb : Bool) (onset last : Option ℕ) (time delay v : ℕ) → IsInTime onset last delay v →
    (last ≡ None → v ≡ 0) → IsInTime (onset_after eb onset last time delay) last delay v
onset_late false onset last time delay v late standing b is = absurd (none-some b is)
onset_late true (Some o) last time delay v late standing b is = late b is
onset_late true None (Some l) time delay v late standing b is =
    inr (let e : l + delay ≡ b = cc in omega arith)
onset_late true None None time delay v late standing b is = inl (standing refl)

-- ---- the last reading within the SvL

-- after a reading within the SvL there was one
last_known : (within : Bool) (time : ℕ) (last : Option ℕ) → within ≡ true → last_within within time last ≡ None → ⊥
last_known true time last e none = none-some time (sym none)
last_known false time last e none = true≢false (sym e)

last-true : (within : Bool) (time : ℕ) (last : Option ℕ) → within ≡ true → last_within within time last ≡ Some time
last-true within time last e = rw e refl

last-false : (within : Bool) (time : ℕ) (last : Option ℕ) → within ≡ false → last_within within time last ≡ last
last-false within time last e = rw e refl

-- the time that is due is at most the delay past the reading
due_past : (within : Bool) (time : ℕ) (last : Option ℕ) (delay : ℕ) → due_after last delay ≤ time + delay →
    due_after (last_within within time last) delay ≤ time + delay
due_past true time last delay h = omega arith
due_past false time last delay h = h

-- after a reading within the SvL a whole step is left
due_fresh : (within : Bool) (time : ℕ) (last : Option ℕ) (delay : ℕ) → step_time ≤ delay → within ≡ true →
    time + step_time ≤ due_after (last_within within time last) delay
due_fresh true time last delay h e = omega arith
due_fresh false time last delay h e = absurd (true≢false (sym e))

-- what is said of the onset and of standing before a reading holds after it
late_last : (within : Bool) (time : ℕ) (last : Option ℕ) (delay v : ℕ) (onset : Option ℕ) →
    due_after last delay ≤ time + delay → IsInTime onset last delay v →
    IsInTime onset (last_within within time last) delay v
late_last true time last delay v onset past late b is =
    elim (late b is) [ inl s ↦ inl s | inr le ↦ inr (omega arith) ]
late_last false time last delay v onset past late b is = late b is

standing_last : (within : Bool) (time : ℕ) (last : Option ℕ) (v : ℕ) → (last ≡ None → v ≡ 0) →
    last_within within time last ≡ None → v ≡ 0
standing_last true time last v standing none = absurd (none-some time (sym none))
standing_last false time last v standing none = standing none

-- ---- a reading

-- from a reading within the SvL all that the train can reach is within its curve
from_reading : (s : Supervision) (r : OdometerReading) (t : TrueTrain) (eoa svl : ℕ) → IsOpen s →
    s.authority ≡ Stop eoa svl 0 → is_within_svl s r ≡ true → IsReadOf s.train_and_track t r →
    IsWithinCurve (slopes_of Safe s.train_and_track) 1 (place_of_cell (pos svl)) 0
    (reach (a_est1 r.accel) (brake_delay s.train_and_track) t)
unfolding brake_delay
from_reading s r t eoa svl o a e read =
    let b = build_up_from s.train_and_track (estimate_of r) in
    let gentle = read.gentle in
    let same : min (a_est1 r.accel) 40 ≡ a_est1 r.accel = omega arith in
    let bounded = reached b t r.max same read.front read.speed in
    let most : Point = record { place = r.max +ℤ pos (d_bec b 0); square = v_bec b 0 * v_bec b 0 } in
    within_before (slopes_of Safe s.train_and_track) (place_of_cell (pos svl)) 0 most _ (open_usable s o Safe)
    bounded.place bounded.square (front_within s r eoa svl 0 o a e)

module _ (s : Drive) (r : OdometerReading) where
  -- whether the reading is within the SvL
  abbrev now_within : Bool
  now_within = is_within_svl s.supervision r

  -- the time of the last one that is, this one included
  abbrev now_last : Option ℕ
  now_last = last_within now_within r.time s.last

  -- how long after its command the brake works
  abbrev delay : ℕ
  delay = brake_delay s.supervision.train_and_track

  -- what the orders of a reading keep
  are_orders : AreOrders now_last (orders_after s r)
  unfolding orders_after
  are_orders =
      let eb = (row_of s.supervision r).held.eb in
      record {
        working = λ e. onset_some eb s.onset now_last r.time delay e;
        free = λ e. onset_none eb s.onset now_last r.time delay e;
        known = λ e none. last_known now_within r.time s.last e none;
      }

-- ---- a step

module _ (eoa svl : ℕ) (s : Drive) (h : IsHeldDrive eoa svl s) (r : OdometerReading)
    (time : r.time ≡ step_time * suc s.steps) (read : IsReadOf s.supervision.train_and_track s.train r) where
  -- what is kept from the reading on, with the time of the last one within the SvL
  abbrev IsKeptFrom : Option ℕ → ℕ → TrueTrain → Type 0
  IsKeptFrom last now t =
      IsKept (brake_of s) (place_of_cell (pos svl)) (due_after last (delay s r)) last (orders_after s r) now t

  -- at a reading within the SvL
  begins_within : (last : Option ℕ) → last ≡ Some r.time → now_within s r ≡ true →
      IsInTime (orders_after s r).onset last (delay s r) s.train.speed → IsKeptFrom last r.time s.train
  unfolding orders_after
  begins_within last is e late =
      let left : due_after last (delay s r) - r.time ≡ delay s r = rw is (omega arith) in
      let a = a_est1 r.accel in
      record {
        accel = a;
        reached = subst (λ (j : ℕ). IsWithinCurve (brake_of s) 1 (place_of_cell (pos svl)) 0 (reach a j s.train))
            (sym left) (from_reading s.supervision r s.train eoa svl h.is_open h.authority e read);
        same = λ w. refl;
        still = λ w none. absurd (true≢false (sym e ∙ w));
        late = late;
        standing = λ none. absurd (none-some r.time (sym none ∙ is));
      }

  -- at another
  begins_past : (last : Option ℕ) → last ≡ s.last → now_within s r ≡ false →
      IsInTime (orders_after s r).onset last (delay s r) s.train.speed → IsKeptFrom last r.time s.train
  unfolding orders_after
  begins_past last is e late =
      let left : due_of s - step_time * suc s.steps ≡ due_after last (delay s r) - r.time = rw (is, time) refl in
      record {
        accel = h.accel;
        reached = subst (λ (j : ℕ). IsWithinCurve (brake_of s) 1 (place_of_cell (pos svl)) 0 (reach h.accel j s.train))
            left h.held;
        same = λ w. absurd (true≢false (sym w ∙ e));
        still = λ w none. elim (cases_lt 0 s.train.speed) [
          | inl moves ↦
              let eb = commanded s.supervision r eoa svl h.authority e (read.moving moves) in
              absurd (true≢false (sym eb ∙ none))
          | inr stands ↦ omega arith
        ];
        late = late;
        standing = λ none. h.standing (sym is ∙ none);
      }

  -- the onset at the reading is in time
  late_at : IsInTime (orders_after s r).onset (now_last s r) (delay s r) s.train.speed
  unfolding orders_after
  late_at =
      let past : due_of s ≤ r.time + delay s r = (let p = h.past in omega arith) in
      onset_late (row_of s.supervision r).held.eb s.onset (now_last s r) r.time (delay s r) s.train.speed
      (late_last (now_within s r) r.time s.last (delay s r) s.train.speed s.onset past h.late)
      (standing_last (now_within s r) r.time s.last s.train.speed h.standing)

  -- at the reading
  begins : IsKeptFrom (now_last s r) r.time s.train
  begins =
      elim (cases_Bool (now_within s r)) [
        | inl e ↦ begins_within (now_last s r) (last-true (now_within s r) r.time s.last e) e late_at
        | inr e ↦ begins_past (now_last s r) (last-false (now_within s r) r.time s.last e) e late_at
      ]

  -- at the next reading
  ends : IsKeptFrom (now_last s r) (step_time * suc (suc s.steps))
      (after_several_ds (brake_of s) (orders_after s r) r.time step_time s.train)
  unfolding orders_after
  ends =
      kept_several_ds (brake_of s) (open_usable s.supervision h.is_open Safe) (place_of_cell (pos svl))
      (due_after (now_last s r) (delay s r)) (now_last s r) (orders_after s r) (are_orders s r) r.time step_time
      (step_time * suc (suc s.steps)) s.train (omega arith)
      (λ w. (let fresh = due_fresh (now_within s r) r.time s.last (delay s r) h.slow w in omega arith)) begins

  -- so the step keeps what every drive keeps
  stepped : IsHeldDrive eoa svl (after_step_from s r)
  unfolding after_step_from after_reading orders_after
  stepped =
      let k = ends in
      let past = due_past (now_within s r) r.time s.last (delay s r) (let p = h.past in omega arith) in
      record {
        is_open = record { bands = h.is_open.bands; usable = h.is_open.usable };
        authority = h.authority;
        slow = h.slow;
        accel = k.accel;
        held = k.reached;
        standing = k.standing;
        late = k.late;
        past = omega arith;
      }

read_time : (inhibited : Bool) (time x : ℕ) (t : TrueTrain) → (reading_by inhibited time x t).time ≡ time
unfolding reading_by
read_time inhibited time x t = refl

-- a step of the drive keeps what every drive keeps
pub step_held : (eoa svl : ℕ) (s : Drive) → IsHeldDrive eoa svl s → IsHeldDrive eoa svl (after_step s)
step_held eoa svl s h =
    let d = s.supervision.train_and_track in
    stepped eoa svl s h (next_reading s)
    (read_time d.national.inhibit_under_reading (step_time * suc s.steps) _ s.train)
    (is_read d (step_time * suc s.steps) _ s.train)

-- ---- all steps

-- a train that stands at the place 0 is within every curve whose foot isn't before it
at_start : (on : Slopes) (svl : ℕ) →
    IsWithinCurve on 1 (place_of_cell (pos svl)) 0 (record { place = pos 0; square = 0 })
at_start on svl =
    let f = place_of_cell (pos svl) in
    subst (λ (x : Fraction). IsAtMost (whole (pos 0)) x) (sym (exact_foot on 1 f 0))
    (whole_at_most (pos 0) (pos 1 *ℤ f) (omega (arith, ints)))

-- a brake that takes a step to build up works no sooner after its command
enough_time : (d : TrainAndTrack) → step_time ≤ unsigned_abs d.train.emergency_time → step_time ≤ brake_delay d
unfolding brake_delay reaction_times
enough_time d long = omega arith

-- the start of a drive keeps it
pub start_held : (d : TrainAndTrack) (eoa svl seed : ℕ) → IsDrivable d eoa svl →
    IsHeldDrive eoa svl (start_under d eoa svl seed)
start_held d eoa svl seed may = record {
  is_open = may.is_open;
  authority = refl;
  slow = enough_time d may.build_up;
  accel = 0;
  held = at_start (slopes_of Safe d) svl;
  standing = λ none. refl;
  late = λ b is. inl refl;
  past = omega arith;
}

-- and so do all its steps
pub held_after : (eoa svl n : ℕ) (s : Drive) → IsHeldDrive eoa svl s → IsHeldDrive eoa svl (after_steps n s)
held_after eoa svl zero s h = h
held_after eoa svl (suc n) s h = held_after eoa svl n (after_step s) (step_held eoa svl s h)

-- what can be reached is at or before the SvL, and so is the front end
pub by_svl : (eoa svl : ℕ) (s : Drive) → IsHeldDrive eoa svl s → s.train.place ≤ℤ place_of_cell (pos svl)
by_svl eoa svl s h =
    let held = within_held (brake_of s) 1 (place_of_cell (pos svl)) 0 _ (open_usable s.supervision h.is_open Safe)
    (omega arith) h.held in
    let far = held.standing refl in
    omega (arith, ints, far)

-- THE DRIVE
pub driven : LawOfDrive
driven d eoa svl seed n may = by_svl eoa svl _ (held_after eoa svl n _ (start_held d eoa svl seed may))

-- ---- its ranges

-- steps keep the ranges
ranged_after : (eoa svl n m : ℕ) (s : Drive) → IsHeldDrive eoa svl s → IsRanged m s → IsRanged (m + n) (after_steps n s)
ranged_after eoa svl zero m s h k = subst (λ (j : ℕ). IsRanged j s) (omega arith) k
ranged_after eoa svl (suc n) m s h k =
    let e : suc m + n ≡ m + suc n = omega arith in
    subst (λ (j : ℕ). IsRanged j (after_steps n (after_step s))) e
    (ranged_after eoa svl n (suc m) (after_step s) (step_held eoa svl s h)
    (step_ranged m s (open_usable s.supervision h.is_open Safe) k))

-- the start is in them
pub start_ranged : (d : TrainAndTrack) (eoa svl seed : ℕ) → IsRanged 0 (start_under d eoa svl seed)
start_ranged d eoa svl seed = record {
  on_way = record { place = omega (arith, ints); speed = omega arith };
  steps = refl;
  last = λ time is. absurd (none-some time is);
}

-- what is kept gives the ranges of the next step
pub ranges_of : (eoa svl n : ℕ) (s : Drive) → IsHeldDrive eoa svl s → IsRanged n s → svl ≤ 10_000_000 →
    n < most_steps → IsInRanges svl s
ranges_of eoa svl n s h k short few =
    let by = by_svl eoa svl s h in
    let steps = k.steps in
    let inhibited = s.supervision.train_and_track.national.inhibit_under_reading in
    let time = step_time * suc s.steps in
    record {
      from_start = k.on_way.place;
      by_svl = by;
      speed = k.on_way.speed;
      reading = in_ranges inhibited time _ svl s.train (omega arith) short k.on_way by;
      in_time = rw (read_time inhibited time _ s.train)
          (not_back s.supervision.last_time time (λ t is. (let le = k.last t is in omega arith)));
    }

-- every drive is in its ranges before each of its steps
pub in_drive_ranges : LawOfDriveRanges
in_drive_ranges d eoa svl seed n may short few =
    let start = start_held d eoa svl seed may in
    let s = after_steps n (start_under d eoa svl seed) in
    let ranged = ranged_after eoa svl n 0 _ start (start_ranged d eoa svl seed) in
    ranges_of eoa svl n s (held_after eoa svl n _ start) (subst (λ (j : ℕ). IsRanged j s) (omega arith) ranged)
    short few
