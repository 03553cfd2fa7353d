-- Every driver: while the cut-off works no tick gains more than the allowance, so none ends a promise; and no row that
-- commands a brake, or promises the EOA and cuts the traction off, ends the promise or the cut-off.
use Rattle.std.proofs.Common.{◌≡◌, ℕ, suc, Bool, true, false, [], ◌∷◌, Option, Some, None}
use Rattle.std.proofs.Common.{refl, subst, sym, arith, if◌then◌else◌, ◌&&◌, ◌||◌}
use Rattle.std.specs.Prelude.{IsTrue, Result, Ok, Err, is_some, option_map}
use Rattle.std.proofs.lemmas.Bool.{true≢false}
use Rattle.std.proofs.lemmas.Option.{same_Some}
use Rattle.std.proofs.lemmas.List.Elements.{All-nil, All-cons}
use Rattle.sdm_num.specs.Readings.{OdometerReading}
use Rattle.sdm_rules.specs.declared.faults.EventCause.{EventCause}
use Rattle.sdm_rules.specs.declared.faults.TakeOverFault.{TakeOverFault}
use Rattle.sdm_rules.specs.declared.records.Event.{Event}
use Rattle.sdm_rules.specs.declared.records.Event.TheVariants as record_kinds
use Rattle.sdm_rules.specs.Records.{step}
use Rattle.sdm_rules.specs.Supervision.{Supervision, row_of}
use Rattle.sdm_rules.specs.TakeOver.{change}
use Rattle.sdm_ride.specs.Happenings.{Happening, Record, Unread, Overdue, Change, Tick}
use Rattle.sdm_ride.specs.Moments.{Moment, Promise, after, after_change, after_record, aged, ordered, promise_after}
use Rattle.sdm_ride.specs.Orders.{judged_in, reading_if}
use Rattle.sdm_ride.specs.Rides.{Delays}
use Rattle.sdm_service_ride.specs.ServiceMoments.{Allowance, by_eoa, commands_brake, is_steady, promises_eoa}
use Rattle.sdm_service_ride.specs.ServiceMoments.{steady_after, steady_moments}
use Rattle.sdm_service_ride.specs.CutOffs.{IsCut, LawOfCutOffs, StaysCut, cut_after, cut_after_reading}
use Rattle.sdm_service_ride.specs.CutOffs.{cuts_off, leaves_cut}

-- ---- the promise

promise_left : (promises brakes cuts : Bool) (new : Promise) (last : Option Promise) →
    (brakes || (promises && cuts)) ≡ true → is_some last ≡ true →
    is_some (promise_after promises brakes new last) ≡ true
promise_left true brakes cuts new last e h = refl
promise_left false true cuts new last e h = h
promise_left false false cuts new last e h = absurd (true≢false (sym e))

still : (o : Option Promise) → is_some o ≡ true → is_some (option_map aged o) ≡ true
still (Some c) h = refl
still None h = h

-- a promise stays after a record whose reading leaves it
record_left : (m : Moment) (e : Event) (t : Result Supervision EventCause) →
    leaves_cut m.supervision (reading_if e t) ≡ true → is_some m.promise ≡ true →
    is_some (after_record by_eoa m e t).promise ≡ true
record_left m (record_kinds.Read r) (Ok t) leaves h =
    let row = row_of m.supervision r in
    promise_left (promises_eoa m.supervision r) (commands_brake row) (cuts_off row)
    (record { under = m.supervision; reading = r; age = 0 }) m.promise leaves h
record_left m (record_kinds.Authority x) (Ok t) leaves h = h
record_left m (record_kinds.Calculated eoa svl trip) (Ok t) leaves h = h
record_left m (record_kinds.Restrict r) (Ok t) leaves h = h
record_left m (record_kinds.Revoke id) (Ok t) leaves h = h
record_left m e (Err cause) leaves h = h

-- ---- the cut-off

-- a row that commands a brake cuts the traction off
either_cuts : (tco brakes promises : Bool) → (brakes || (promises && (tco || brakes))) ≡ true →
    (tco || brakes) ≡ true
either_cuts true brakes promises e = refl
either_cuts false true promises e = refl
either_cuts false false true e = e
either_cuts false false false e = e

order_stands : (given : Bool) (order : Option ℕ) (n : ℕ) → given ≡ true → order ≡ Some n →
    (if given then ordered order else None) ≡ Some n
order_stands true (Some k) n e is = is
order_stands true None n e is = absurd cc
order_stands false order n e is = absurd (true≢false (sym e))

reading_cuts : (s : Supervision) (judged : Option OdometerReading) (cut : Option ℕ) (n : ℕ) →
    leaves_cut s judged ≡ true → cut ≡ Some n → cut_after_reading s judged cut ≡ Some n
reading_cuts s None cut n leaves is = is
reading_cuts s (Some r) cut n leaves is =
    let row = row_of s r in
    order_stands (cuts_off row) cut n
    (either_cuts row.held.tco (commands_brake row) (promises_eoa s r) leaves) is

missing : (order : Option ℕ) (n : ℕ) → order ≡ Some n → ordered order ≡ Some n
missing (Some k) n e = e
missing None n e = absurd cc

ticked : (order : Option ℕ) (n : ℕ) → order ≡ Some n → option_map (λ o. suc o) order ≡ Some (suc n)
ticked (Some k) n e = subst (λ (i : ℕ). Some (suc k) ≡ Some (suc i)) (same_Some k n e) refl
ticked None n e = absurd cc

cut_stays : (w : Delays) (a : Allowance) (s : ℕ) (m : Moment) (cut : Option ℕ) (h : Happening) → IsCut w s cut →
    StaysCut w a s m cut h → IsCut w s (cut_after m.supervision h cut)
cut_stays w a s m cut (Record e) h stays = record {
  since = h.since;
  is = reading_cuts m.supervision (judged_in m.supervision (Record e)) cut h.since stays h.is;
  long = h.long;
}
cut_stays w a s m cut Unread h stays = h
cut_stays w a s m cut Overdue h stays = record { since = h.since; is = missing cut h.since h.is; long = h.long }
cut_stays w a s m cut (Change next) h stays = h
cut_stays w a s m cut (Tick to length) h stays =
    let long = h.long in record { since = suc h.since; is = ticked cut h.since h.is; long = omega arith }

-- ---- along the ride

tick_stays : (m : Moment) (steady : Bool) → steady ≡ true → is_some m.promise ≡ true →
    is_some (if steady then m else record m { promise = None }).promise ≡ true
tick_stays m true e h = h
tick_stays m false e h = absurd (true≢false (sym e))

over_change : (m : Moment) (t : Result Supervision TakeOverFault) → is_some m.promise ≡ true →
    is_some (after_change m t).promise ≡ true
over_change m (Ok t) h = h
over_change m (Err fault) h = h

promise_stays : (w : Delays) (a : Allowance) (s : ℕ) (m : Moment) (cut : Option ℕ) (h : Happening) → IsCut w s cut →
    is_some m.promise ≡ true → StaysCut w a s m cut h → is_some (steady_after a m h).promise ≡ true
unfolding after
promise_stays w a s m cut (Record e) c h stays = record_left m e (step m.supervision e) stays h
promise_stays w a s m cut Unread c h stays = h
promise_stays w a s m cut Overdue c h stays = h
promise_stays w a s m cut (Change next) c h stays = over_change m (change next m.supervision) h
promise_stays w a s m cut (Tick to length) c h stays =
    tick_stays (after by_eoa m (Tick to length)) (is_steady a m (Tick to length)) (stays c) (still m.promise h)

-- the law of cut-offs
pub cut_offs : LawOfCutOffs
cut_offs w a s m cut [] c h all = All-nil (λ (n : Moment). IsTrue (is_some n.promise))
cut_offs w a s m cut (x ∷ xs) c h all =
    let n = steady_after a m x in
    let stands = promise_stays w a s m cut x c h all.0 in
    All-cons (λ (n : Moment). IsTrue (is_some n.promise)) n (steady_moments a n xs) stands
    (cut_offs w a s n (cut_after m.supervision x cut) xs (cut_stays w a s m cut x c all.0) stands all.1)
