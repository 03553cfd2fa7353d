-- What the laws of messages say of a run of the computer, at scale 2. Before its reading the computer brakes. The reading
-- is past the SBI of the EOA and before the EBI of the SvL, so it takes the emergency brake away and leaves the service
-- brake; from the first missing reading on it orders the emergency brake. The service brake does nothing here: a train
-- whose emergency brake were that one would have to brake sooner.
use Rattle.std.proofs.Common.{◌≡◌, ℕ, pos, Bool, true, false, List, [], ◌∷◌, refl, subst, sym, ap, ◌∙◌}
use Rattle.std.proofs.Common.{◌⊎◌, inl, inr, ◌≤ℤ◌, arith}
use Rattle.std.specs.Prelude.{All, IsTrue, Some, None, map, not, ◌&&◌, ◌||◌}
use Rattle.std.proofs.lemmas.Bool.{false≢true}
use Rattle.std.proofs.lemmas.Int.{ints}
use Rattle.std.proofs.lemmas.List.Elements.{All-nil, All-cons}
use Rattle.std.proofs.lemmas.Option.{none-some}
use Rattle.sdm_num.specs.Readings.{IsReading, OdometerReading}
use Rattle.sdm_rules.specs.declared.authorities.Authority.{Authority}
use Rattle.sdm_rules.specs.declared.authorities.Authority.TheVariants.{Stop}
use Rattle.sdm_rules.specs.declared.data.SlopeKind.TheVariants.{Safe}
use Rattle.sdm_rules.specs.declared.records.Event.TheVariants as record_kinds
use Rattle.sdm_rules.specs.declared.restrictions.Restriction.{Restriction}
use Rattle.sdm_rules.specs.Cells.{place_of_cell}
use Rattle.sdm_rules.specs.Commands.{commands_after, emergency_after, nothing_held}
use Rattle.sdm_rules.specs.Curves.{place_at, corner, arc, stepped, arc_back, back}
use Rattle.sdm_rules.specs.Data.{TrainAndTrack}
use Rattle.sdm_rules.specs.Decelerations.{slope_at, slopes_of}
use Rattle.sdm_rules.specs.Limits.{limits_of, release_start}
use Rattle.sdm_rules.specs.Motion.{IsBy}
use Rattle.sdm_rules.specs.Profile.{mrsp}
use Rattle.sdm_rules.specs.Reaction.{reaction_times}
use Rattle.sdm_rules.specs.Records.{step}
use Rattle.sdm_rules.specs.Supervision.{Supervision, after_reading, commands_in, is_covered_in, opening, row_in, row_of}
use Rattle.sdm_rules.specs.Supervision.{state_in}
use Rattle.sdm_rules.specs.Targets.{targets_of}
use Rattle.sdm_rules.specs.Triggers.{triggers_of}
use Rattle.sdm_ride.specs.ComputerRides.{IsRideBeside, moments_beside}
use Rattle.sdm_ride.specs.Happenings.{Happening, Record, Unread, Overdue, Change, Tick}
use Rattle.sdm_ride.specs.Moments.{Judging, Moment, Promise, after, by_rows, moments}
use Rattle.sdm_ride.specs.MotionRides.{last_moment}
use Rattle.sdm_ride.specs.Orders.{GoesOn, OrdersAs, judged_in}
use Rattle.sdm_ride.specs.Rides.{HoldsDelays, IsByTimelyOrders, IsTrueReading, point_of}
use Rattle.sdm_ride.specs.RideLaws.{EndsBy, IsAsCovered, IsNeverPast, IsRideStart, KeepsPromise}
use Rattle.sdm_release_ride.specs.ReleaseRideLaws.{StopsBefore}
use Rattle.sdm_laws.specs.TripPlaces.{has_trip_place}
use Rattle.sdm_release_ride.specs.TripPlaces.{by_guarded, is_untripped, is_within_bounds}
use Rattle.sdm_service_ride.specs.ServiceMoments.{Allowance, by_eoa}
use Rattle.sdm_cases.proofs.ComputerSteps.{all_go_on, holds, moments_are, overdue_goes_on, rides_beside}
use Rattle.sdm_cases.proofs.Journeys.{plain_band, plain_national, plain_train_and_track}
use Rattle.sdm_cases.proofs.Openings.{opening_situation, situation_with}
use Rattle.sdm_cases.proofs.ReleaseRideCases as release
use Rattle.sdm_cases.proofs.RideLawCases.{braking, delays, gaining, to_the_end}
use Rattle.sdm_cases.proofs.RideSteps.{IsGiven, at_the_end, ends_so, is_quiet, may_go, never_past, promised, to_given}
use Rattle.sdm_cases.proofs.TickTests.{aged_by, begins, by_orders, orders_show, stands}
use Rattle.sdm_cases.proofs.RideLine.{ride_line}
use Rattle.sdm_cases.proofs.RideTrain.{ride_train, train_open, train_slopes}
use Rattle.sdm_cases.proofs.StopCases.{plain_slopes}
use Rattle.sdm_onboard.specs.declared.messages.Message.TheVariants as messages
use Rattle.sdm_onboard.specs.declared.messages.Odometry.{Odometry}
use Rattle.sdm_onboard.specs.declared.onboard.Onboard.{Onboard}
use Rattle.sdm_onboard.specs.Guard.{bounds}
use Rattle.sdm_onboard.specs.Messages.{Follows, IsFor, computer_of, reading_in, service_of, Takes}
use Rattle.sdm_onboard.specs.Missing.{HoldsBrakes, Remembers}
use Rattle.sdm_onboard.specs.Runs.{IsOver, IsRun, LawOfBrakes, LawOfMessagePlaces, LawOfMessageRides, LawOfMessages}
use Rattle.sdm_onboard.specs.Runs.{LawOfGuardedMessages, LawOfServiceMessages}

-- ---- the train and its reading

abbrev line : TrainAndTrack
line = ride_train (pos 100) to_the_end (pos 3) (pos 5) (pos 0)

abbrev authority : Authority
authority = Stop 2000 3100 0

abbrev before : Supervision
before = opening line authority

-- at 24 m, 4 m past the EOA by the estimate, at 0.2 m/s
abbrev told : Odometry
told = record { time = 0; est = pos 24_000; speed = 200; accel = pos 100 }

abbrev reading : OdometerReading
reading = reading_in told

abbrev its_promise : Promise
its_promise = promised before reading

is_reading : IsReading reading
is_reading = record {
  time = omega arith;
  low = omega (arith, ints);
  back = omega (arith, ints);
  front = omega (arith, ints);
  high = omega (arith, ints);
  speed = omega arith;
  slowing = omega (arith, ints);
  gaining = omega (arith, ints);
  under = omega arith;
}

is_covered : (row_of before reading).covered ≡ true
unfolding ride_train to_the_end plain_train_and_track plain_national plain_band row_in situation_with targets_of mrsp
    is_covered_in limits_of release_start reaction_times slopes_of slope_at stepped place_at corner arc arc_back back
is_covered = ap (λ now. is_covered_in line reading now) (opening_situation line authority reading) ∙ refl

is_free : (row_of before reading).held.eb ≡ false
unfolding ride_train to_the_end plain_train_and_track plain_national plain_band row_in situation_with targets_of mrsp
    state_in commands_in commands_after emergency_after triggers_of limits_of release_start reaction_times slopes_of
    slope_at stepped place_at corner arc arc_back back
is_free = ap (λ now. (row_in line nothing_held reading now).held.eb) (opening_situation line authority reading) ∙ refl

-- its row commands the service brake, which stands from it on
is_served : (row_of before reading).held.sb ≡ true
unfolding ride_train to_the_end plain_train_and_track plain_national plain_band row_in situation_with targets_of mrsp
    state_in commands_in commands_after emergency_after triggers_of limits_of release_start reaction_times slopes_of
    slope_at stepped place_at corner arc arc_back back
is_served = ap (λ now. (row_in line nothing_held reading now).held.sb) (opening_situation line authority reading) ∙ refl

given : IsGiven by_rows before reading
given = record {
  is_open = train_open (pos 100) to_the_end (pos 3) (pos 5) (pos 0) authority;
  is_first = refl;
  promises = is_covered;
  orders = rw (is_free, is_covered) refl;
}

guarded : IsGiven (by_guarded bounds) before reading
guarded = record {
  is_open = given.is_open;
  is_first = refl;
  promises = rw (is_covered) refl;
  orders = rw (is_free, is_covered) refl;
}

-- what it is for the ride: nothing but its record
a_record_alone : (h : Happening) → IsFor before (messages.Odometry told) h → h ≡ Record (record_kinds.Read reading)
a_record_alone h (inl x) = x.1.1
a_record_alone h (inr (inl x)) = absurd (none-some 0 x.1.0)
a_record_alone h (inr (inr x)) = absurd (x.0 is_reading)

-- ---- the ride beside it

-- the train is where it is estimated
abbrev start : Moment
start = begins before (pos 51_840_000_000_000) 21_600 (Some 3)

abbrev what_follows : List Happening
what_follows = gaining braking

abbrev happenings : List Happening
happenings = Record (record_kinds.Read reading) ∷ what_follows

abbrev where_it_stands : Moment
where_it_stands = stands its_promise (after_reading before reading) (pos 52_663_392_000_000) 0 2 22 (Some 20)

may_stop : may_go (by_orders delays 2) its_promise (pos 51_840_000_000_000) 21_600 0 0 None what_follows ≡ true
unfolding ride_train plain_train_and_track plain_national reaction_times plain_slopes
may_stop = refl

held : HoldsDelays delays its_promise
unfolding ride_train plain_train_and_track plain_national reaction_times
held = record { traction = λ lower. omega arith; emergency = omega arith }

is_true : IsTrueReading 2 start reading
unfolding ride_train plain_train_and_track plain_national
is_true = record { front = omega (arith, ints); speed = omega arith }

is_start : IsRideStart start
is_start = record { is_open = given.is_open; none = refl }

-- ---- the run

-- the computer with the service brake ordered, and the emergency brake or not
abbrev orders : Onboard → Supervision → Bool → Onboard
orders o t braked = record o {
  supervisor = t;
  is_authority_missing = false;
  is_restriction_missing = false;
  orders = record { traction_off = true; service = true; emergency = braked };
}

-- after each tick and each missing reading
abbrev along : Onboard → Supervision → Bool → List Happening → List Onboard
along o t b [] = []
along o t b (Record e ∷ hs) = []
along o t b (Unread ∷ hs) = []
along o t b (Overdue ∷ hs) = orders o t true ∷ along o t true hs
along o t b (Change next ∷ hs) = []
along o t b (Tick to length ∷ hs) = orders o t b ∷ along o t b hs

abbrev computers : Onboard → List Onboard
computers o = orders o (after_reading before reading) false ∷ along o (after_reading before reading) false what_follows

none_missing : (b : Bool) → IsTrue false ⊎ IsTrue false → IsTrue b
none_missing b (inl e) = absurd (false≢true e)
none_missing b (inr e) = absurd (false≢true e)

holds_brakes : (o : Onboard) (t : Supervision) (b : Bool) → HoldsBrakes (orders o t b)
holds_brakes o t b = record { cut_off = λ either. refl; missing = none_missing b }

over_tick : (o : Onboard) (t : Supervision) (b : Bool) (to length : ℕ) →
    IsOver (orders o t b) (Tick to length) (orders o t b)
over_tick o t b to length = inr (inr (to, length, refl, refl))

over_overdue : (o : Onboard) (t : Supervision) (b : Bool) → IsOver (orders o t b) Overdue (orders o t true)
over_overdue o t b = inl (
  messages.Overdue,
  record {
    is_for = refl;
    follows = record { emergency = overdue_goes_on (by_guarded bounds) t b; service = overdue_goes_on by_eoa t true };
  },
  record { authority = refl; restriction = tt; stays = λ e. e; holds = λ h. holds_brakes o t true },
)

runs_on : (o : Onboard) (t : Supervision) (hs : List Happening) (b : Bool) → is_quiet hs ≡ true →
    IsRun (orders o t b) hs (along o t b hs)
runs_on o t [] b quiet = tt
runs_on o t (Record e ∷ hs) b quiet = absurd (false≢true quiet)
runs_on o t (Unread ∷ hs) b quiet = absurd (false≢true quiet)
runs_on o t (Overdue ∷ hs) b quiet = (over_overdue o t b, runs_on o t hs true quiet)
runs_on o t (Change next ∷ hs) b quiet = absurd (false≢true quiet)
runs_on o t (Tick to length ∷ hs) b quiet = (over_tick o t b to length, runs_on o t hs b quiet)

emergency_goes_on : GoesOn (by_guarded bounds) (holds before true) (Record (record_kinds.Read reading))
    (holds (after_reading before reading) false)
emergency_goes_on =
    (all_go_on (by_guarded bounds) (by_orders delays 2) before reading (pos 51_840_000_000_000) 21_600 [] guarded refl).0

over_reading : (o : Onboard) → IsOver (orders o before true) (Record (record_kinds.Read reading))
    (orders o (after_reading before reading) false)
over_reading o = inl (
  messages.Odometry told,
  record {
    is_for = inl (is_reading, ((λ repeated. none-some 0 repeated), refl));
    follows = record {
      emergency = emergency_goes_on;
      service = record {
        supervision = emergency_goes_on.supervision;
        judged = λ r is orders. refl;
        overdue = λ is. refl;
        stands = λ none stood. refl;
      };
    };
  },
  record {
    authority = refl;
    restriction = tt;
    stays = λ e. e;
    holds = λ h. holds_brakes o (after_reading before reading) false;
  },
)

-- A RUN of the computer
is_run : (o : Onboard) → IsRun (orders o before true) happenings (computers o)
is_run o = (over_reading o, runs_on o (after_reading before reading) what_follows false refl)

-- beside which the train rides, and its last moment, judged by the rows or guarded
module _ (j : Judging) (gives : IsGiven j before reading) (o : Onboard) where
  rides_beside_it : IsRideBeside j (IsByTimelyOrders delays 2) 2 start happenings (map computer_of (computers o))
  rides_beside_it =
      rides_beside j (IsByTimelyOrders delays 2) 2 (by_orders delays 2) before reading (pos 51_840_000_000_000) 21_600
      (Some 3) what_follows gives is_true
      (orders_show delays 2 its_promise (train_slopes (pos 100) to_the_end (pos 3) (pos 5) (pos 0) Safe) held) may_stop

  same_moments : moments_beside j start happenings (map computer_of (computers o)) ≡ moments j start happenings
  same_moments =
      moments_are j (by_orders delays 2) before reading (pos 51_840_000_000_000) 21_600 (Some 3) what_follows gives may_stop

  ends : last_moment j start happenings ≡ where_it_stands
  unfolding after
  ends = ends_so j before reading (pos 51_840_000_000_000) 21_600 (Some 3) what_follows gives ∙ refl

  -- it stands at or before 31 m, where it is never past that place
  stands_before : IsNeverPast 2 3100 (moments_beside j start happenings (map computer_of (computers o))) →
      where_it_stands.place ≤ℤ pos 66_960_000_000_000
  stands_before never =
      let first = ap (λ (n : Moment). n.promise)
      (to_given j before reading (pos 51_840_000_000_000) 21_600 (Some 3) gives) in
      let by = subst (λ (n : Moment). IsBy 2 (place_of_cell (pos 3100)) (point_of n)) ends
      (never_past j 2 3100 start (Record (record_kinds.Read reading)) what_follows its_promise first
      (subst (λ (ms : List Moment). IsNeverPast 2 3100 ms) same_moments never)) in
      omega (arith, ints, by)

-- its authority ends at 3100 cm
ends_by : EndsBy 3100 (after_reading before reading).authority
unfolding after_reading
ends_by = (omega arith, refl)

stops_before : StopsBefore 3100 (after_reading before reading).authority
unfolding after_reading
stops_before = omega arith

-- what is true of the authority is true of that of each computer
module _ (P : Authority → Type 0) (o : Onboard) where
  all_stay : (t : Supervision) (hs : List Happening) (b : Bool) → P t.authority →
      All (λ p. P p.supervisor.authority) (along o t b hs)
  all_stay t [] b is = All-nil (λ (p : Onboard). P p.supervisor.authority)
  all_stay t (Record e ∷ hs) b is = All-nil (λ (p : Onboard). P p.supervisor.authority)
  all_stay t (Unread ∷ hs) b is = All-nil (λ (p : Onboard). P p.supervisor.authority)
  all_stay t (Overdue ∷ hs) b is =
      All-cons (λ (p : Onboard). P p.supervisor.authority) (orders o t true) (along o t true hs) is (all_stay t hs true is)
  all_stay t (Change next ∷ hs) b is = All-nil (λ (p : Onboard). P p.supervisor.authority)
  all_stay t (Tick to length ∷ hs) b is =
      All-cons (λ (p : Onboard). P p.supervisor.authority) (orders o t b) (along o t b hs) is (all_stay t hs b is)

  all_have : P before.authority → P (after_reading before reading).authority →
      All (λ p. P p.supervisor.authority) (orders o before true ∷ computers o)
  all_have first is =
      let next = after_reading before reading in
      let Q = λ (p : Onboard). P p.supervisor.authority in
      All-cons Q (orders o before true) (computers o) first
      (All-cons Q (orders o next false) (along o next false what_follows) is (all_stay next what_follows false is))

-- ---- what the laws say of it

-- FROM MESSAGES TO THE PLACE: the train stands at or before 31 m
never_past_by_law : LawOfMessagePlaces → Onboard → where_it_stands.place ≤ℤ pos 66_960_000_000_000
never_past_by_law law o =
    stands_before by_rows given o
    (law delays 2 3100 start (orders o before true) happenings (computers o) (omega arith) is_start refl (is_run o)
    (rides_beside_it by_rows given o) (all_have (EndsBy 3100) o (omega arith, refl) ends_by))

-- GUARDED: so it does
guarded_by_law : LawOfGuardedMessages → Onboard → where_it_stands.place ≤ℤ pos 66_960_000_000_000
guarded_by_law law o =
    stands_before (by_guarded bounds) guarded o
    (law delays 2 3100 start (orders o before true) happenings (computers o) (omega arith) is_start refl (is_run o)
    (rides_beside_it (by_guarded bounds) guarded o) (all_have (StopsBefore 3100) o (omega arith) stops_before))

-- THE RIDE OF THE COMPUTER: so it is promised
kept_by_law : LawOfMessageRides → Onboard → where_it_stands.place ≤ℤ pos 66_960_000_000_000
kept_by_law law o =
    let P = KeepsPromise IsAsCovered 2 in
    let all = law delays 2 start (orders o before true) happenings (computers o) (omega arith) is_start refl (is_run o)
    (rides_beside_it by_rows given o) in
    let kept = subst P (ends by_rows given o) (at_the_end by_rows P start (Record (record_kinds.Read reading)) what_follows
    (subst (λ (ms : List Moment). All P ms) (same_moments by_rows given o) all)) (aged_by its_promise 22) refl in
    let by = kept.stops 2000 3100 0 refl in
    omega (arith, ints, by)

-- after a missing reading the emergency brake stands at the interface, over a tick
ordered_by_law : LawOfMessages → (m : Moment) (o p q : Onboard) → OrdersAs (record m { order = None }) (computer_of o) →
    IsOver o Overdue p → IsOver p (Tick 27_000 24_300_000_000) q → q.orders.emergency ≡ true
unfolding after
ordered_by_law law m o p q same first second =
    (law (record m { order = None }) o (Overdue ∷ Tick 27_000 24_300_000_000 ∷ []) (p ∷ q ∷ []) same
    (first, (second, tt))).1.0.ordered refl

-- and after two the service brake does
served_by_law : LawOfServiceMessages → (a : Allowance) (m : Moment) (o p q : Onboard) →
    OrdersAs (record m { order = None }) (service_of o) → IsOver o Overdue p → IsOver p Overdue q →
    q.orders.service ≡ true
unfolding after
served_by_law law a m o p q same first second =
    (law a (record m { order = None }) o (Overdue ∷ Overdue ∷ []) (p ∷ q ∷ []) same (first, (second, tt))).1.0.ordered refl

-- ---- the brakes: what the law says of two happenings, one after the other

-- the emergency brake that stands before a missing reading and a tick stands after them
stopped_by_law : LawOfBrakes → (o p q : Onboard) → o.orders.emergency ≡ true → IsOver o Overdue p →
    IsOver p (Tick 27_000 24_300_000_000) q → q.orders.emergency ≡ true
stopped_by_law law o p q stopped first second =
    law.begins o (Overdue ∷ Tick 27_000 24_300_000_000 ∷ []) (p ∷ q ∷ []) stopped (first, (second, tt)) (refl, (refl, tt))
    1 q (omega arith)

-- the service brake doesn't work against the traction after two readings, if the brakes were held before them
cut_by_law : LawOfBrakes → (o p q : Onboard) → HoldsBrakes o → IsOver o (Record (record_kinds.Read reading)) p →
    IsOver p (Record (record_kinds.Read reading)) q → q.orders.service ≡ true → q.orders.traction_off ≡ true
cut_by_law law o p q holds first second served =
    (law.holds o (Record (record_kinds.Read reading) ∷ Record (record_kinds.Read reading) ∷ []) (p ∷ q ∷ []) holds
    (first, (second, tt)) 1 q (omega arith)).cut_off (inr served)

-- with a restriction missing the emergency brake stands after two readings
missed_by_law : LawOfBrakes → (o p q : Onboard) → HoldsBrakes o → o.is_restriction_missing ≡ true →
    IsOver o (Record (record_kinds.Read reading)) p → IsOver p (Record (record_kinds.Read reading)) q →
    q.orders.emergency ≡ true
missed_by_law law o p q holds missing first second =
    law.restriction o (Record (record_kinds.Read reading) ∷ Record (record_kinds.Read reading) ∷ []) (p ∷ q ∷ []) holds
    missing (first, (second, tt)) 1 q (omega arith)

-- and with an authority missing
unauthorised_by_law : LawOfBrakes → (o p q : Onboard) → HoldsBrakes o → o.is_authority_missing ≡ true →
    IsOver o (Record (record_kinds.Read reading)) p → IsOver p (Record (record_kinds.Read reading)) q →
    q.orders.emergency ≡ true
unauthorised_by_law law o p q holds missing first second =
    law.authority o (Record (record_kinds.Read reading) ∷ Record (record_kinds.Read reading) ∷ []) (p ∷ q ∷ []) holds
    missing (first, (second, tt)) ((λ new. new), ((λ new. new), tt)) 1 q (omega arith)

-- ---- the guard: a reading of the train of `ReleaseRideCases` finds it untripped in release speed monitoring. Its row
-- orders nothing, and the guard orders the brake, since 10 m past the EOA lies past the SvL

uncovered : (row_of release.before release.first).covered ≡ false
unfolding ride_line plain_train_and_track plain_national plain_band release.first row_in situation_with targets_of mrsp
    is_covered_in limits_of release_start reaction_times slopes_of slope_at stepped place_at corner arc arc_back back
uncovered =
    ap (λ now. is_covered_in release.line release.first now) (opening_situation release.line release.ending release.first)
    ∙ refl

unplaced : has_trip_place bounds release.line release.ending ≡ false
unplaced = refl

unpromised : (ordered covered untripped within trip : Bool) → covered ≡ false → trip ≡ false →
    (ordered || not (covered || ((untripped && within) && trip))) ≡ true
unpromised true covered untripped within trip none lacks = refl
unpromised false true untripped within trip none lacks = absurd (false≢true (sym none))
unpromised false false true true trip none lacks = rw lacks refl
unpromised false false true false trip none lacks = refl
unpromised false false false within trip none lacks = refl

free_by_its_row : by_rows.orders release.before release.first ≡ false
free_by_its_row = release.first_free

ordered_by_guard : (by_guarded bounds).orders release.before release.first ≡ true
ordered_by_guard =
    unpromised _ _ (is_untripped (row_of release.before release.first))
    (is_within_bounds bounds release.line release.first) _ uncovered unplaced

first_judged : judged_in release.before (Record (record_kinds.Read release.first)) ≡ Some release.first
unfolding step release.first
first_judged = refl

-- so a computer that follows the guarded ride brakes
braked_by_guard : (o p : Onboard) → o.supervisor ≡ release.before →
    Follows o (Record (record_kinds.Read release.first)) p → p.orders.emergency ≡ true
braked_by_guard o p is follows =
    follows.emergency.judged release.first
    (subst (λ (s : Supervision). judged_in s (Record (record_kinds.Read release.first)) ≡ Some release.first) (sym is)
    first_judged)
    (subst (λ (s : Supervision). (by_guarded bounds).orders s release.first ≡ true) (sym is) ordered_by_guard)

-- ---- what the clauses say of one message

-- a missing reading orders the emergency brake
braked_when_missing : (o p : Onboard) (h : Happening) → Takes o messages.Overdue h p → p.orders.emergency ≡ true
braked_when_missing o p h takes = takes.follows.emergency.overdue takes.is_for

-- a restriction to 0 km/h is refused, and is missing still when an authority comes
abbrev standstill : Restriction
standstill = record { id = 7; start = 100; end = 200; speed = 0; delayed = true }

missing_still : (o p q : Onboard) (a : Authority) → Remembers o (messages.Restriction standstill) p →
    Remembers p (messages.Authority a) q → q.is_restriction_missing ≡ true
missing_still o p q a first second =
    second.stays (first.restriction (λ takes. let slow = takes.speed.slowest in absurd (omega (arith, slow))))
