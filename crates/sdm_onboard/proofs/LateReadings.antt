-- Ticks alone move the train, and nothing else than a tick changes what the supervisor holds. So both go on by themselves,
-- in whatever order ticks and other happenings come.
use Rattle.std.proofs.Common.{◌≡◌, ◌∙◌, ℕ, ℤ, pos, Bool, true, false, List, [], ◌∷◌, ◌++◌, ◌+ℤ◌, refl, ap, sym}
use Rattle.std.specs.Prelude.{Result, Ok, Err, if◌then◌else◌}
use Rattle.sdm_num.specs.Readings.{OdometerReading}
use Rattle.sdm_rules.specs.declared.faults.EventCause.{EventCause}
use Rattle.sdm_rules.specs.declared.faults.TakeOverFault.{TakeOverFault}
use Rattle.sdm_rules.specs.declared.records.Event.{Event}
use Rattle.sdm_rules.specs.declared.records.Event.TheVariants as record_kinds
use Rattle.sdm_rules.specs.Records.{step}
use Rattle.sdm_rules.specs.Supervision.{Supervision}
use Rattle.sdm_rules.specs.TakeOver.{change}
use Rattle.sdm_ride.specs.Happenings.{Happening, Record, Unread, Overdue, Change, Tick}
use Rattle.sdm_ride.specs.Moments.{Judging, Moment, after, after_change, after_record}
use Rattle.sdm_ride.specs.MotionRides.{is_tick, last_moment}
use Rattle.sdm_ride.specs.Orders.{supervision_after}
use Rattle.sdm_onboard.specs.LateReadings.{IsPutBack, LawOfLateReadings, judged_late, others_in, put_back, ticks_in}
use Rattle.sdm_ride.proofs.Computers.{leads}

-- ---- one by one

abbrev place_after : ℤ → Happening → ℤ
place_after p (Tick to length) = p +ℤ pos length
place_after p other = p

abbrev speed_after : ℕ → Happening → ℕ
speed_after v (Tick to length) = to
speed_after v other = v

same_place : (j : Judging) (m : Moment) (e : Event) (t : Result Supervision EventCause) →
    (after_record j m e t).place ≡ m.place
same_place j m (record_kinds.Read r) (Ok t) = refl
same_place j m (record_kinds.Authority a) (Ok t) = refl
same_place j m (record_kinds.Calculated eoa svl trip) (Ok t) = refl
same_place j m (record_kinds.Restrict r) (Ok t) = refl
same_place j m (record_kinds.Revoke id) (Ok t) = refl
same_place j m e (Err cause) = refl

same_speed : (j : Judging) (m : Moment) (e : Event) (t : Result Supervision EventCause) →
    (after_record j m e t).speed ≡ m.speed
same_speed j m (record_kinds.Read r) (Ok t) = refl
same_speed j m (record_kinds.Authority a) (Ok t) = refl
same_speed j m (record_kinds.Calculated eoa svl trip) (Ok t) = refl
same_speed j m (record_kinds.Restrict r) (Ok t) = refl
same_speed j m (record_kinds.Revoke id) (Ok t) = refl
same_speed j m e (Err cause) = refl

change_place : (m : Moment) (t : Result Supervision TakeOverFault) → (after_change m t).place ≡ m.place
change_place m (Ok t) = refl
change_place m (Err fault) = refl

change_speed : (m : Moment) (t : Result Supervision TakeOverFault) → (after_change m t).speed ≡ m.speed
change_speed m (Ok t) = refl
change_speed m (Err fault) = refl

moves : (j : Judging) (m : Moment) (h : Happening) → (after j m h).place ≡ place_after m.place h
unfolding after
moves j m (Record e) = same_place j m e (step m.supervision e)
moves j m Unread = refl
moves j m Overdue = refl
moves j m (Change next) = change_place m (change next m.supervision)
moves j m (Tick to length) = refl

speeds : (j : Judging) (m : Moment) (h : Happening) → (after j m h).speed ≡ speed_after m.speed h
unfolding after
speeds j m (Record e) = same_speed j m e (step m.supervision e)
speeds j m Unread = refl
speeds j m Overdue = refl
speeds j m (Change next) = change_speed m (change next m.supervision)
speeds j m (Tick to length) = refl

-- ---- one after the other

-- what goes on by itself over happenings
abbrev along : {X : Type 0} → (X → Happening → X) → X → List Happening → X
along f x [] = x
along f x (h ∷ hs) = along f (f x h) hs

along_both : {X : Type 0} (f : X → Happening → X) (x : X) (hs ks : List Happening) →
    along f x (hs ++ ks) ≡ along f (along f x hs) ks
along_both f x [] ks = refl
along_both f x (h ∷ hs) ks = along_both f (f x h) hs ks

-- a part of a moment that goes on so
part_along : {X : Type 0} (j : Judging) (f : X → Happening → X) (part : Moment → X) →
    ((m : Moment) (h : Happening) → part (after j m h) ≡ f (part m) h) → (m : Moment) (hs : List Happening) →
    part (last_moment j m hs) ≡ along f (part m) hs
part_along j f part one m [] = refl
part_along j f part one m (h ∷ hs) =
    part_along j f part one (after j m h) hs ∙ ap (λ x. along f x hs) (one m h)

-- either of two lists leads there
either : {X : Type 0} (f : X → Happening → X) (x y : X) (b : Bool) (one other : List Happening) →
    (b ≡ true → along f x one ≡ y) → (b ≡ false → along f x other ≡ y) → along f x (if b then one else other) ≡ y
either f x y true one other so or_so = so refl
either f x y false one other so or_so = or_so refl

-- what ticks leave alone goes on over the others; and what only they change goes on over them
over_others : {X : Type 0} (f : X → Happening → X) → ((x : X) (h : Happening) → is_tick h ≡ true → f x h ≡ x) → (x : X)
    (hs : List Happening) → along f x (others_in hs) ≡ along f x hs
over_others f still x [] = refl
over_others f still x (h ∷ hs) =
    either f x (along f (f x h) hs) (is_tick h) (others_in hs) (h ∷ others_in hs)
    (λ e. over_others f still x hs ∙ ap (λ y. along f y hs) (sym (still x h e))) (λ e. over_others f still (f x h) hs)

no_others : {X : Type 0} (f : X → Happening → X) → ((x : X) (h : Happening) → is_tick h ≡ false → f x h ≡ x) → (x : X)
    (hs : List Happening) → along f x (others_in hs) ≡ x
no_others f still x [] = refl
no_others f still x (h ∷ hs) =
    either f x x (is_tick h) (others_in hs) (h ∷ others_in hs) (λ e. no_others f still x hs)
    (λ e. ap (λ y. along f y (others_in hs)) (still x h e) ∙ no_others f still x hs)

over_ticks : {X : Type 0} (f : X → Happening → X) → ((x : X) (h : Happening) → is_tick h ≡ false → f x h ≡ x) → (x : X)
    (hs : List Happening) → along f x (ticks_in hs) ≡ along f x hs
over_ticks f still x [] = refl
over_ticks f still x (h ∷ hs) =
    either f x (along f (f x h) hs) (is_tick h) (h ∷ ticks_in hs) (ticks_in hs) (λ e. over_ticks f still (f x h) hs)
    (λ e. over_ticks f still x hs ∙ ap (λ y. along f y hs) (sym (still x h e)))

no_ticks : {X : Type 0} (f : X → Happening → X) → ((x : X) (h : Happening) → is_tick h ≡ true → f x h ≡ x) → (x : X)
    (hs : List Happening) → along f x (ticks_in hs) ≡ x
no_ticks f still x [] = refl
no_ticks f still x (h ∷ hs) =
    either f x x (is_tick h) (h ∷ ticks_in hs) (ticks_in hs)
    (λ e. ap (λ y. along f y (ticks_in hs)) (still x h e) ∙ no_ticks f still x hs) (λ e. no_ticks f still x hs)

-- ---- the train and the supervisor

place_still : (p : ℤ) (h : Happening) → is_tick h ≡ false → place_after p h ≡ p
place_still p (Record e) is = refl
place_still p Unread is = refl
place_still p Overdue is = refl
place_still p (Change next) is = refl
place_still p (Tick to length) is = absurd cc

speed_still : (v : ℕ) (h : Happening) → is_tick h ≡ false → speed_after v h ≡ v
speed_still v (Record e) is = refl
speed_still v Unread is = refl
speed_still v Overdue is = refl
speed_still v (Change next) is = refl
speed_still v (Tick to length) is = absurd cc

supervision_still : (s : Supervision) (h : Happening) → is_tick h ≡ true → supervision_after s h ≡ s
supervision_still s (Record e) is = absurd cc
supervision_still s Unread is = absurd cc
supervision_still s Overdue is = absurd cc
supervision_still s (Change next) is = absurd cc
supervision_still s (Tick to length) is = refl

-- put back, what ticks alone change is the same at the end; and so is what they leave alone
module _ {X : Type 0} (f : X → Happening → X) (x : X) (hs : List Happening) (r : OdometerReading) where
  ticked_same : ((x : X) (h : Happening) → is_tick h ≡ false → f x h ≡ x) →
      along f x (put_back hs r) ≡ along f x (judged_late hs r)
  ticked_same still =
      let h = Record (record_kinds.Read r) in
      along_both f x (others_in hs) (h ∷ ticks_in hs) ∙ ap (λ y. along f (f y h) (ticks_in hs)) (no_others f still x hs)
      ∙ ap (λ y. along f y (ticks_in hs)) (still x h refl) ∙ over_ticks f still x hs
      ∙ sym (still (along f x hs) h refl) ∙ sym (along_both f x hs (h ∷ []))

  handed_same : ((x : X) (h : Happening) → is_tick h ≡ true → f x h ≡ x) →
      along f x (put_back hs r) ≡ along f x (judged_late hs r)
  handed_same still =
      let h = Record (record_kinds.Read r) in
      along_both f x (others_in hs) (h ∷ ticks_in hs) ∙ no_ticks f still (f (along f x (others_in hs)) h) hs
      ∙ ap (λ y. f y h) (over_others f still x hs) ∙ sym (along_both f x hs (h ∷ []))

-- the law of late readings
pub late_readings : LawOfLateReadings
late_readings j m hs r =
    let place = λ (ks : List Happening). part_along j place_after (λ n. n.place) (moves j) m ks in
    let speed = λ (ks : List Happening). part_along j speed_after (λ n. n.speed) (speeds j) m ks in
    let held = λ (ks : List Happening). part_along j supervision_after (λ n. n.supervision) (leads j) m ks in
    record {
      place = place (others_in hs) ∙ no_others place_after place_still m.place hs;
      speed = speed (others_in hs) ∙ no_others speed_after speed_still m.speed hs;
      supervision = held (others_in hs) ∙ over_others supervision_after supervision_still m.supervision hs
          ∙ sym (held hs);
      end_place = place (put_back hs r) ∙ ticked_same place_after m.place hs r place_still
          ∙ sym (place (judged_late hs r));
      end_speed = speed (put_back hs r) ∙ ticked_same speed_after m.speed hs r speed_still
          ∙ sym (speed (judged_late hs r));
      end_supervision = held (put_back hs r)
          ∙ handed_same supervision_after m.supervision hs r supervision_still
          ∙ sym (held (judged_late hs r));
    }
