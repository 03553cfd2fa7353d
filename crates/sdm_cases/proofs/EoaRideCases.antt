-- There are rides under the service brake: a train runs at 0.2 m/s, and its reading 12 cm before the EOA, at the SBI,
-- promises the EOA. The next one, 0.1 s later, commands the service brake, as all that follow do. The brake works 0.4 s
-- after the order, and the train stops at the EOA to the grain. The scale is 1.
use Rattle.std.proofs.Common.{◌≡◌, ℕ, ℤ, suc, pos, Bool, true, false, List, [], ◌∷◌, ◌+◌, ◌*◌}
use Rattle.std.proofs.Common.{◌+ℤ◌}
use Rattle.std.proofs.Common.{refl, subst, sym, ap, ◌∙◌, arith}
use Rattle.std.specs.Prelude.{Option, Some, None, nat_le, not, ◌&&◌, ◌||◌, if◌then◌else◌, option_map}
use Rattle.std.proofs.lemmas.Bool.{and_parts, le-ltb, leb-true, true≢false}
use Rattle.std.proofs.lemmas.Int.{ints}
use Rattle.std.proofs.lemmas.Option.{same_Some}
use Rattle.sdm_num.specs.Readings.{OdometerReading, estimate_of}
use Rattle.sdm_rules.specs.declared.authorities.Authority.{Authority}
use Rattle.sdm_rules.specs.declared.authorities.Authority.TheVariants.{Stop}
use Rattle.sdm_rules.specs.declared.commands.Held.{Held}
use Rattle.sdm_rules.specs.declared.data.SlopeKind.TheVariants.{Expected}
use Rattle.sdm_rules.specs.declared.faults.CycleFault.TheVariants.{TimeBack}
use Rattle.sdm_rules.specs.declared.limits.LimitKind.TheVariants.{Sbi}
use Rattle.sdm_rules.specs.declared.records.Event.TheVariants as record_kinds
use Rattle.sdm_rules.specs.declared.rows.Row.{Row}
use Rattle.sdm_rules.specs.Cells.{place_of_cell}
use Rattle.sdm_rules.specs.Commands.{commands_after, emergency_after}
use Rattle.sdm_rules.specs.Curves.{place_at, corner, arc, stepped, arc_back, back}
use Rattle.sdm_rules.specs.Data.{TrainAndTrack}
use Rattle.sdm_rules.specs.Decelerations.{slope_at, slopes_of}
use Rattle.sdm_rules.specs.Limits.{computed, limits_of, release_start}
use Rattle.sdm_rules.specs.Profile.{mrsp}
use Rattle.sdm_rules.specs.Reaction.{reaction_times}
use Rattle.sdm_rules.specs.Records.{step, time_cause, time_fault, unless}
use Rattle.sdm_rules.specs.Supervision.{Supervision, after_reading, commands_in, opening, row_in, row_of, state_in}
use Rattle.sdm_rules.specs.Targets.{targets_of}
use Rattle.sdm_rules.specs.Triggers.{is_passed, triggers_of}
use Rattle.sdm_ride.specs.Happenings.{Happening, Record, Tick}
use Rattle.sdm_ride.specs.Moments.{Moment, Promise, after, after_record, is_release, ordered, promise_after}
use Rattle.sdm_ride.specs.RideLaws.{IsRideStart, KeepsPromise}
use Rattle.sdm_ride.proofs.Promises.{mapped}
use Rattle.sdm_service_ride.specs.ServiceMoments.{Allowance, by_eoa, commands_brake, has_eoa, no_allowance}
use Rattle.sdm_service_ride.specs.ServiceMoments.{promises_eoa, steady_after}
use Rattle.sdm_service_ride.specs.ServiceRides.{HoldsServiceDelays, IsByServiceOrders, IsServiceRide, MayFollow}
use Rattle.sdm_service_ride.specs.ServiceRideLaws.{IsByItsEoa, is_clear}
use Rattle.sdm_cases.proofs.Journeys.{plain_band, plain_national, plain_train_and_track, reading_at}
use Rattle.sdm_cases.proofs.Openings.{opening_row, situation_in, situation_with}
use Rattle.sdm_cases.proofs.TickTests.{braking_is, if_so, is_braking, is_old, old_is}
use Rattle.sdm_cases.proofs.RideLine.{braking_in, delays, line_open_under, ride_line}
use Rattle.sdm_cases.proofs.StopCases.{plain_slopes}

-- a service brake of 0.5 s, the EOA at 10 m, the SvL at 11 m
abbrev line : TrainAndTrack
line = ride_line (pos 2) (pos 5)

abbrev authority : Authority
authority = Stop 1000 1100 0

-- ---- the first reading

-- 12 cm before the EOA
abbrev first : OdometerReading
first = reading_at 0 (pos 5_335_200_000_000) 10_800

abbrev before : Supervision
before = opening line authority

abbrev promised : Promise
promised = record { under = before; reading = first; age = 0 }

-- the T_bs that was handed in holds a brake that works 0.3 s after the order at the interface
delays_held : HoldsServiceDelays (delays 3) promised
unfolding ride_line plain_train_and_track plain_national reaction_times
delays_held = omega arith

-- and none that works 0.4 s after it
delays_not_held : HoldsServiceDelays (delays 4) promised → ⊥
unfolding ride_line plain_train_and_track plain_national reaction_times
delays_not_held h = omega (arith, h)

-- whether a row promises the EOA
abbrev promises_by : Row → Bool
promises_by row = has_eoa line first authority && (not (is_release row.state) && not (commands_brake row))

-- it promises the EOA, and its row commands no brake
first_promises : promises_eoa before first ≡ true
unfolding ride_line plain_train_and_track plain_national plain_band reading_at row_in situation_with targets_of mrsp
    state_in commands_in commands_after emergency_after triggers_of limits_of release_start reaction_times slopes_of
    slope_at stepped place_at corner arc arc_back back
first_promises = ap promises_by (opening_row line authority first) ∙ refl

first_brakes : commands_brake (row_of before first) ≡ false
unfolding ride_line plain_train_and_track plain_national plain_band reading_at row_in situation_with targets_of mrsp
    state_in commands_in commands_after emergency_after triggers_of limits_of release_start reaction_times slopes_of
    slope_at stepped place_at corner arc arc_back back
first_brakes = ap commands_brake (opening_row line authority first) ∙ refl

-- ---- readings past the SBI

abbrev is_past_sbi : OdometerReading → Bool
is_past_sbi r = is_passed Sbi (limits_of computed line (estimate_of r)) 0 (situation_with line authority [] r)

-- the state after the opening with these commands held
abbrev holding : ℕ → Held → Supervision
holding time held = record before { last_time = Some time; commands = held }

sb_true : (used serv more eb : Bool) → used ≡ true → serv ≡ true → ((used && (serv || more)) || eb) ≡ true
sb_true true true more eb e f = refl
sb_true false serv more eb e f = absurd (true≢false (sym e))
sb_true true false more eb e f = absurd (true≢false (sym f))

in_use : (r : OdometerReading) → (situation_with line authority [] r).in_use ≡ true
unfolding ride_line plain_train_and_track plain_national situation_with
in_use r = refl

-- their rows command a brake
brakes_past : (time : ℕ) (held : Held) (r : OdometerReading) → is_past_sbi r ≡ true →
    commands_brake (row_of (holding time held) r) ≡ true
unfolding row_in commands_in commands_after triggers_of
brakes_past time held r past =
    ap (λ now. commands_brake (row_in line held r now)) (situation_in (holding time held) r refl)
    ∙ sb_true _ _ _ _ (in_use r) past

no_promise : (a b c : Bool) → c ≡ true → (a && (b && not c)) ≡ false
no_promise false b c e = refl
no_promise true false c e = refl
no_promise true true true e = refl
no_promise true true false e = absurd (true≢false (sym e))

-- ---- rides

-- at 0.2 m/s, 12 cm before the EOA
abbrev start : Moment
start = record {
  supervision = before;
  place = pos 5_335_200_000_000;
  speed = 10_800;
  silence = 0;
  order = None;
  promise = None;
}

start_is_one : IsRideStart start
start_is_one = record { is_open = line_open_under (pos 2) (pos 5) authority; none = refl }

-- a moment at which the promise of the first reading stands
abbrev moment : Supervision → ℤ → ℕ → ℕ → Option ℕ → ℕ → Moment
moment s place speed silence order age = record {
  supervision = s;
  place = place;
  speed = speed;
  silence = silence;
  order = order;
  promise = Some (record { under = before; reading = first; age = age });
}

-- the moment after all that happens
abbrev last_of : Allowance → Moment → List Happening → Moment
last_of a m [] = m
last_of a m (h ∷ hs) = last_of a (steady_after a m h) hs

-- a ride from a moment on that ends at a place, while the promise of the first reading still stands
record Going (a : Allowance) (b : ℕ) (m : Moment) (hs : List Happening) (end : ℤ) : Type 0 where
  ride : IsServiceRide (IsByServiceOrders (delays b) 1) a 1 m hs
  ends : (last_of a m hs).place ≡ end
  stands : option_map (λ c. c.under) (last_of a m hs).promise ≡ Some before

-- a happening with the moment that it leads to
go : (a : Allowance) (b : ℕ) (m m' : Moment) (h : Happening) (hs : List Happening) (end : ℤ) →
    steady_after a m h ≡ m' → MayFollow (IsByServiceOrders (delays b) 1) a 1 m h → Going a b m' hs end →
    Going a b m (h ∷ hs) end
go a b m m' h hs end e may rest = record {
  ride = (may, subst (λ n. IsServiceRide (IsByServiceOrders (delays b) 1) a 1 n hs) (sym e) rest.ride);
  ends = subst (λ (n : Moment). (last_of a n hs).place ≡ end) (sym e) rest.ends;
  stands = subst (λ (n : Moment). option_map (λ c. c.under) (last_of a n hs).promise ≡ Some before) (sym e) rest.stands;
}

-- a move of the train in a ds
record Move : Type 0 where
  to : ℕ
  length : ℕ

-- it gains no more than the allowance, is at most its mean speed long, and brakes once the order is old
abbrev may_move : Allowance → ℕ → Option ℕ → ℤ → ℕ → Move → Bool
may_move a b order p v x =
    nat_le x.to (v + 54 * a.accel)
    && (nat_le (2 * x.length) (1_000_000 * (v + x.to)) && (not (is_old (1 * (1 + b)) order) || is_braking p v x.to x.length))

-- a tick of a move
goes : (a : Allowance) (b : ℕ) (s : Supervision) (p : ℤ) (v age : ℕ) (order : Option ℕ) (x : Move)
    (hs : List Happening) (end : ℤ) → may_move a b order p v x ≡ true →
    Going a b (moment s (p +ℤ pos x.length) x.to 1 (option_map (λ o. suc o) order) (suc age)) hs end →
    Going a b (moment s p v 0 order age) (Tick x.to x.length ∷ hs) end
unfolding after
goes a b s p v age order x hs end may rest =
    let next = moment s (p +ℤ pos x.length) x.to 1 (option_map (λ o. suc o) order) (suc age) in
    let steady = and_parts (nat_le x.to (v + 54 * a.accel)) _ may in
    let moves = and_parts (nat_le (2 * x.length) (1_000_000 * (v + x.to))) _ steady.1 in
    go a b (moment s p v 0 order age) next (Tick x.to x.length) hs end
    (ap (λ (steady : Bool). if steady then next else record next { promise = None }) steady.0)
    (λ c is. subst (λ (c : Promise). IsByServiceOrders (delays b) 1 c (moment s p v 0 order age) x.to x.length)
    (same_Some _ c is)
    (record {
      in_time = omega arith;
      moves = leb-true _ _ moves.0;
      brakes = λ o is long. (
        [],
        braking_in (pos 2) (pos 5) Expected _ _
            (braking_is p v x.to x.length (if_so _ _ moves.1 (old_is _ o order is long))),
      );
    })) rest

abbrev reads : ℕ → ℤ → ℕ → Happening
reads time place speed = Record (record_kinds.Read (reading_at time place speed))

-- the next ds is in order
later : (last : ℕ) → time_fault (Some last) (suc last) ≡ None
later last = ap (λ (b : Bool). if b then Some (TimeBack last (suc last)) else None) (le-ltb (suc last) last (omega arith))

-- after a reading past the SBI the service brake is ordered, and the promise stands
read_past : (a : Allowance) (b last : ℕ) (held : Held) (p : ℤ) (v age : ℕ) (order : Option ℕ) (hs : List Happening)
    (end : ℤ) → is_past_sbi (reading_at (suc last) p v) ≡ true →
    ((held : Held) → Going a b (moment (holding (suc last) held) p v 0 (ordered order) age) hs end) →
    Going a b (moment (holding last held) p v 1 order age) (reads (suc last) p v ∷ hs) end
unfolding after step after_reading reading_at
read_past a b last held p v age order hs end past rest =
    let under = holding last held in
    let m = moment under p v 1 order age in
    let r = reading_at (suc last) p v in
    let row = row_of under r in
    let brakes = brakes_past last held r past in
    let unpromised : promises_eoa under r ≡ false = no_promise _ _ _ brakes in
    let next = after_reading under r in
    let stood : Promise = record { under = before; reading = first; age = age } in
    let new : Promise = record { under = under; reading = r; age = 0 } in
    go a b m (moment next p v 0 (ordered order) age) (reads (suc last) p v) hs end
    (ap (λ f. after_record by_eoa m (record_kinds.Read r) (unless time_cause f next)) (later last)
    ∙ ap (λ (x : Bool). record {
      supervision = next;
      place = p;
      speed = v;
      silence = 0;
      order = if commands_brake row then ordered order else None;
      promise = promise_after x (commands_brake row) new (Some stood);
    }) unpromised
    ∙ ap (λ (x : Bool). record {
      supervision = next;
      place = p;
      speed = v;
      silence = 0;
      order = if x then ordered order else None;
      promise = promise_after false x new (Some stood);
    }) brakes)
    (λ promises. absurd (true≢false (sym promises ∙ unpromised))) (rest _)

-- a reading after each move but the last one
abbrev drive : ℕ → ℤ → List Move → Move → List Happening
drive last p [] end = Tick end.to end.length ∷ []
drive last p (x ∷ xs) end =
    Tick x.to x.length ∷ reads (suc last) (p +ℤ pos x.length) x.to
    ∷ drive (suc last) (p +ℤ pos x.length) xs end

-- each move may be made, and each reading is past the SBI
abbrev may_drive : Allowance → ℕ → ℕ → Option ℕ → ℤ → ℕ → List Move → Move → Bool
may_drive a b last order p v [] end = may_move a b order p v end
may_drive a b last order p v (x ∷ xs) end =
    may_move a b order p v x
    && (is_past_sbi (reading_at (suc last) (p +ℤ pos x.length) x.to)
    && may_drive a b (suc last) (ordered (option_map (λ o. suc o) order)) (p +ℤ pos x.length) x.to xs end)

-- where the last one ends
abbrev end_of : ℤ → List Move → Move → ℤ
end_of p [] end = p +ℤ pos end.length
end_of p (x ∷ xs) end = end_of (p +ℤ pos x.length) xs end

drives : (a : Allowance) (b last : ℕ) (held : Held) (p : ℤ) (v age : ℕ) (order : Option ℕ) (xs : List Move)
    (end : Move) → may_drive a b last order p v xs end ≡ true →
    Going a b (moment (holding last held) p v 0 order age) (drive last p xs end) (end_of p xs end)
drives a b last held p v age order [] end may =
    goes a b (holding last held) p v age order end [] (end_of p [] end) may
    (record { ride = tt; ends = refl; stands = refl })
drives a b last held p v age order (x ∷ xs) end may =
    let q = p +ℤ pos x.length in
    let stood = option_map (λ o. suc o) order in
    let parts = and_parts (may_move a b order p v x) _ may in
    let rest = and_parts (is_past_sbi (reading_at (suc last) q x.to)) _ parts.1 in
    goes a b (holding last held) p v age order x (reads (suc last) q x.to ∷ drive (suc last) q xs end)
    (end_of q xs end) parts.0
    (read_past a b last held q x.to (suc age) stood (drive (suc last) q xs end) (end_of q xs end) rest.0
    (λ now. drives a b (suc last) now q x.to (suc age) (ordered stood) xs end rest.1))

-- from the first reading on
abbrev from_first : List Move → Move → List Happening
from_first xs end = reads 0 (pos 5_335_200_000_000) 10_800 ∷ drive 0 (pos 5_335_200_000_000) xs end

from_start : (a : Allowance) (b : ℕ) (xs : List Move) (end : Move) →
    may_drive a b 0 None (pos 5_335_200_000_000) 10_800 xs end ≡ true →
    Going a b start (from_first xs end) (end_of (pos 5_335_200_000_000) xs end)
unfolding after step after_reading reading_at
from_start a b xs end may =
    let next = after_reading before first in
    let row = row_of before first in
    let p : ℤ = pos 5_335_200_000_000 in
    let new : Promise = record { under = before; reading = first; age = 0 } in
    go a b start (moment next p 10_800 0 None 0) (reads 0 p 10_800) (drive 0 p xs end) (end_of p xs end)
    (ap (λ (x : Bool). record {
      supervision = next;
      place = p;
      speed = 10_800;
      silence = 0;
      order = if commands_brake row then Some 0 else None;
      promise = promise_after x (commands_brake row) new None;
    }) first_promises
    ∙ ap (λ (x : Bool). moment next p 10_800 0 (if x then Some 0 else None) 0) first_brakes)
    (λ promises. record { front = omega (arith, ints); speed = omega arith })
    (drives a b 0 _ p 10_800 0 None xs end may)

-- ---- without an allowance

-- 2 cm a ds at 0.2 m/s; then 1.5 cm and 0.5 cm at 1 m/s²
abbrev runs : Move
runs = record { to = 10_800; length = 10_800_000_000 }

abbrev brakes : Move
brakes = record { to = 5_400; length = 8_100_000_000 }

abbrev stops : Move
stops = record { to = 0; length = 2_700_000_000 }

-- A RIDE: all that the law asks for is true of it, and it ends at the EOA, to the grain
abbrev in_time : List Move
in_time = runs ∷ runs ∷ runs ∷ runs ∷ runs ∷ brakes ∷ []

a_ride : Going no_allowance 3 start (from_first in_time stops) (pos 5_400_000_000_000)
unfolding ride_line plain_train_and_track plain_national plain_band reading_at situation_with targets_of mrsp limits_of
    release_start reaction_times slopes_of slope_at stepped place_at corner arc arc_back back plain_slopes
a_ride = from_start no_allowance 3 in_time stops refl

-- The same with a brake that works 0.1 s later is a ride by the orders, too, and ends 2 cm past the EOA: the T_bs that
-- was handed in has to hold the delays
abbrev late : List Move
late = runs ∷ in_time

a_late_ride : Going no_allowance 4 start (from_first late stops) (pos 5_410_800_000_000)
unfolding ride_line plain_train_and_track plain_national plain_band reading_at situation_with targets_of mrsp limits_of
    release_start reaction_times slopes_of slope_at stepped place_at corner arc arc_back back plain_slopes
a_late_ride = from_start no_allowance 4 late stops refl

-- so what the law says is false of the second: while the promise of the first reading stands, the train is past its EOA
late_passes : KeepsPromise IsByItsEoa 1 (last_of no_allowance start (from_first late stops)) → ⊥
late_passes keeps =
    let n = last_of no_allowance start (from_first late stops) in
    let c = mapped (λ c. c.under) n.promise before a_late_ride.stands in
    let by = keeps c.0 c.1 1000 1100 0 (subst (λ (s : Supervision). s.authority ≡ authority) c.2 refl) in
    absurd (omega (arith, ints, by, a_late_ride.ends))

-- ---- with an allowance

-- the first reading is clear of the EOA itself
clear_of_eoa : is_clear no_allowance promised (place_of_cell (pos 1000)) ≡ true
unfolding ride_line plain_train_and_track plain_national plain_band reading_at slopes_of slope_at reaction_times stepped
    place_at corner arc arc_back back
clear_of_eoa = refl

-- a train that may gain 1 m/s² until the brake works passes the EOA by at most 35 cm
abbrev gaining : Allowance
gaining = record { front = 0; speed = 0; accel = 100 }

clear_if_gaining : is_clear gaining promised (place_of_cell (pos 1035)) ≡ true
unfolding ride_line plain_train_and_track plain_national plain_band reading_at slopes_of slope_at reaction_times stepped
    place_at corner arc arc_back back
clear_if_gaining = refl

-- and isn't promised a grain less
not_clear_if_gaining : is_clear gaining promised (pos 5_588_999_999_999) ≡ false
unfolding ride_line plain_train_and_track plain_national plain_band reading_at slopes_of slope_at reaction_times stepped
    place_at corner arc arc_back back
not_clear_if_gaining = refl

-- THE RIDE OF A DRIVER who gains 1 m/s² from the first reading until the brake works: all that the law with the
-- allowance asks for is true of it, and it ends 35 cm past the EOA, where the law says that it ends at most
abbrev gained : List Move
gained =
    record { to = 16_200; length = 13_500_000_000 } ∷ record { to = 21_600; length = 18_900_000_000 }
    ∷ record { to = 27_000; length = 24_300_000_000 } ∷ record { to = 32_400; length = 29_700_000_000 }
    ∷ record { to = 37_800; length = 35_100_000_000 } ∷ record { to = 32_400; length = 35_100_000_000 }
    ∷ record { to = 27_000; length = 29_700_000_000 } ∷ record { to = 21_600; length = 24_300_000_000 }
    ∷ record { to = 16_200; length = 18_900_000_000 } ∷ record { to = 10_800; length = 13_500_000_000 }
    ∷ brakes ∷ []

a_gaining_ride : Going gaining 3 start (from_first gained stops) (pos 5_589_000_000_000)
unfolding ride_line plain_train_and_track plain_national plain_band reading_at situation_with targets_of mrsp limits_of
    release_start reaction_times slopes_of slope_at stepped place_at corner arc arc_back back plain_slopes
a_gaining_ride = from_start gaining 3 gained stops refl
