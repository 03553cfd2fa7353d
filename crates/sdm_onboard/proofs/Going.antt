-- How a computer goes on with each kind of happening, over plain computers and any judging: what its supervisor answered,
-- and what came of its order.
use Rattle.std.proofs.Common.{◌≡◌, ◌&&◌, ◌||◌, not, ℕ, Bool, true, false, Some, None, refl, subst, sym}
use Rattle.std.proofs.Common.{ap, ◌∙◌}
use Rattle.std.specs.Prelude.{Result, Ok, Err}
use Rattle.std.proofs.lemmas.Option.{none-some, same_Some}
use Rattle.sdm_num.specs.Readings.{OdometerReading}
use Rattle.sdm_rules.specs.declared.authorities.Authority.{Authority}
use Rattle.sdm_rules.specs.declared.faults.AuthorityFault.{AuthorityFault}
use Rattle.sdm_rules.specs.declared.faults.CycleFault.{CycleFault}
use Rattle.sdm_rules.specs.declared.faults.EventCause.{EventCause}
use Rattle.sdm_rules.specs.declared.faults.EventCause.TheVariants as causes
use Rattle.sdm_rules.specs.declared.faults.RestrictFault.{RestrictFault}
use Rattle.sdm_rules.specs.declared.faults.RevokeFault.{RevokeFault}
use Rattle.sdm_rules.specs.declared.faults.TakeOverFault.{TakeOverFault}
use Rattle.sdm_rules.specs.declared.records.Event.{Event}
use Rattle.sdm_rules.specs.declared.records.Event.TheVariants as record_kinds
use Rattle.sdm_rules.specs.declared.restrictions.Restriction.{Restriction}
use Rattle.sdm_rules.specs.declared.rows.Row.{Row}
use Rattle.sdm_rules.specs.Records.{authority_fault, restrict_fault, revoke_fault, step, time_cause, time_fault, unless}
use Rattle.sdm_rules.specs.Supervision.{Supervision, after_authority, after_reading, after_restriction}
use Rattle.sdm_rules.specs.Supervision.{after_revocation, row_of}
use Rattle.sdm_rules.specs.TakeOver.{change, take_over_fault, taken_over, unless_refused}
use Rattle.sdm_ride.specs.Happenings.{Happening, Record, Unread, Overdue, Change}
use Rattle.sdm_ride.specs.Moments.{Judging, is_release}
use Rattle.sdm_ride.specs.Orders.{Computer, GoesOn, changed_or, reading_if, taken_or}
use Rattle.sdm_release_ride.specs.TripPlaces.{by_guarded, has_trip_place, is_within_bounds}
use Rattle.sdm_service_ride.specs.ServiceMoments.{commands_brake}
use Rattle.sdm_onboard.specs.Guard.{bounds, is_bounded, is_guarded_order}

-- a record in which no reading is judged, where it takes no order away
pub recorded : (j : Judging) (before now : Computer) (e : Event) (t : Result Supervision EventCause) →
    step before.supervision e ≡ t → now.supervision ≡ taken_or before.supervision t → reading_if e t ≡ None →
    (before.orders_brake ≡ true → now.orders_brake ≡ true) →
    GoesOn j before (Record e) now
recorded j before now e t is same none stands = record {
  supervision = same ∙ ap (taken_or before.supervision) (sym is);
  judged = λ r judged orders. absurd (none-some r (sym none ∙ ap (reading_if e) (sym is) ∙ judged));
  overdue = λ other. absurd cc;
  stands = λ _ stood. stands stood;
}

-- a reading that is judged
pub judged : (j : Judging) (before now : Computer) (r : OdometerReading) →
    time_fault before.supervision.last_time r.time ≡ None →
    now.supervision ≡ after_reading before.supervision r →
    (j.orders before.supervision r ≡ true → now.orders_brake ≡ true) →
    GoesOn j before (Record (record_kinds.Read r)) now
unfolding step
judged j before now r in_time taken orders =
    let s = before.supervision in
    let e = record_kinds.Read r in
    let is : step s e ≡ Ok (after_reading s r) = ap (λ f. unless time_cause f (after_reading s r)) in_time in
    record {
      supervision = taken ∙ ap (taken_or s) (sym is);
      judged = λ q is_judged asks.
          let same : r ≡ q = same_Some r q (ap (reading_if e) (sym is) ∙ is_judged) in
          orders (subst (λ (x : OdometerReading). j.orders s x ≡ true) (sym same) asks);
      overdue = λ other. absurd cc;
      stands = λ none _. absurd (none-some r (sym none ∙ ap (reading_if e) is));
    }

-- guarded, the brake is ordered after a reading just where the computer orders it
guarded_in : (eb covered release within trip : Bool) →
    ((eb || (not covered && not release)) || not (covered || (((release && not eb) && within) && trip)))
    ≡ (eb || (not covered && not (release && (within && trip))))
guarded_in true covered release within trip = refl
guarded_in false true release within trip = refl
guarded_in false false false within trip = refl
guarded_in false false true false trip = refl
guarded_in false false true true trip = refl

-- the order of the emergency brake after the row of a reading is that of the guarded ride
pub row_orders : (s now : Supervision) (r : OdometerReading) (row : Row) (relied unsupervised emergency : Bool) →
    now ≡ after_reading s r → relied ≡ (is_release row.state && is_bounded now r) →
    emergency ≡ (is_guarded_order row relied || unsupervised) → row ≡ row_of s r →
    (by_guarded bounds).orders s r ≡ true → emergency ≡ true
unfolding after_reading
row_orders s now r row relied unsupervised emergency taken is orders same asked =
    let d = s.train_and_track in
    let told = row_of s r in
    let relied_is : relied ≡ (is_release told.state && is_bounded s r) =
    is ∙ ap (λ (t : Supervision). is_release row.state && is_bounded t r) taken
    ∙ ap (λ (x : Row). is_release x.state && is_bounded s r) same in
    orders ∙ ap (λ b. b || unsupervised) (ap (λ (x : Row). is_guarded_order x relied) same
    ∙ ap (is_guarded_order told) relied_is
    ∙ sym (guarded_in told.held.eb told.covered (is_release told.state) (is_within_bounds bounds d r)
    (has_trip_place bounds d s.authority)) ∙ asked)

-- so is that of the service brake
either_brake : (sb eb more unsupervised : Bool) → (sb || eb) ≡ true → (sb || ((eb || more) || unsupervised)) ≡ true
either_brake true eb more unsupervised e = refl
either_brake false true more unsupervised e = refl
either_brake false false more unsupervised e = absurd cc

pub row_serves : (row row' : Row) (relied unsupervised emergency service : Bool) →
    emergency ≡ (is_guarded_order row relied || unsupervised) → service ≡ (row.held.sb || emergency) → row ≡ row' →
    commands_brake row' ≡ true → service ≡ true
row_serves row row' relied unsupervised emergency service is serves same brakes =
    serves ∙ ap (λ b. row.held.sb || b) is
    ∙ either_brake row.held.sb row.held.eb (not row.covered && not relied) unsupervised
    (ap commands_brake same ∙ brakes)

-- a reading whose time goes back
pub refused : (j : Judging) (before now : Computer) (r : OdometerReading) (fault : CycleFault) →
    time_fault before.supervision.last_time r.time ≡ Some fault → now.supervision ≡ before.supervision →
    (before.orders_brake ≡ true → now.orders_brake ≡ true) →
    GoesOn j before (Record (record_kinds.Read r)) now
unfolding step
refused j before now r fault back same stands =
    recorded j before now (record_kinds.Read r) (Err (time_cause fault))
    (ap (λ f. unless time_cause f (after_reading before.supervision r)) back) same refl stands

-- an authority that is taken, and one that is refused
pub authority : (j : Judging) (before now : Computer) (a : Authority) →
    authority_fault before.supervision.train_and_track.track.length_cm a ≡ None →
    now.supervision ≡ after_authority before.supervision a → (before.orders_brake ≡ true → now.orders_brake ≡ true) →
    GoesOn j before (Record (record_kinds.Authority a)) now
unfolding step
authority j before now a none taken stands =
    recorded j before now (record_kinds.Authority a) (Ok (after_authority before.supervision a))
    (ap (λ f. unless causes.Authority f (after_authority before.supervision a)) none) taken refl stands

pub refused_authority : (j : Judging) (before now : Computer) (a : Authority) (fault : AuthorityFault) →
    authority_fault before.supervision.train_and_track.track.length_cm a ≡ Some fault →
    now.supervision ≡ before.supervision → (before.orders_brake ≡ true → now.orders_brake ≡ true) →
    GoesOn j before (Record (record_kinds.Authority a)) now
unfolding step
refused_authority j before now a fault is same stands =
    recorded j before now (record_kinds.Authority a) (Err (causes.Authority fault))
    (ap (λ f. unless causes.Authority f (after_authority before.supervision a)) is) same refl stands

-- a restriction
pub restriction : (j : Judging) (before now : Computer) (r : Restriction) →
    restrict_fault before.supervision.train_and_track.track.length_cm before.supervision.restrictions r ≡ None →
    now.supervision ≡ after_restriction before.supervision r → (before.orders_brake ≡ true → now.orders_brake ≡ true) →
    GoesOn j before (Record (record_kinds.Restrict r)) now
unfolding step
restriction j before now r none taken stands =
    recorded j before now (record_kinds.Restrict r) (Ok (after_restriction before.supervision r))
    (ap (λ f. unless causes.Restrict f (after_restriction before.supervision r)) none) taken refl stands

pub refused_restriction : (j : Judging) (before now : Computer) (r : Restriction) (fault : RestrictFault) →
    restrict_fault before.supervision.train_and_track.track.length_cm before.supervision.restrictions r ≡ Some fault →
    now.supervision ≡ before.supervision → (before.orders_brake ≡ true → now.orders_brake ≡ true) →
    GoesOn j before (Record (record_kinds.Restrict r)) now
unfolding step
refused_restriction j before now r fault is same stands =
    recorded j before now (record_kinds.Restrict r) (Err (causes.Restrict fault))
    (ap (λ f. unless causes.Restrict f (after_restriction before.supervision r)) is) same refl stands

-- a revocation
pub revocation : (j : Judging) (before now : Computer) (id : ℕ) → revoke_fault before.supervision.restrictions id ≡ None →
    now.supervision ≡ after_revocation before.supervision id → (before.orders_brake ≡ true → now.orders_brake ≡ true) →
    GoesOn j before (Record (record_kinds.Revoke id)) now
unfolding step
revocation j before now id none taken stands =
    recorded j before now (record_kinds.Revoke id) (Ok (after_revocation before.supervision id))
    (ap (λ f. unless causes.Revoke f (after_revocation before.supervision id)) none) taken refl stands

pub refused_revocation : (j : Judging) (before now : Computer) (id : ℕ) (fault : RevokeFault) →
    revoke_fault before.supervision.restrictions id ≡ Some fault →
    now.supervision ≡ before.supervision → (before.orders_brake ≡ true → now.orders_brake ≡ true) →
    GoesOn j before (Record (record_kinds.Revoke id)) now
unfolding step
refused_revocation j before now id fault is same stands =
    recorded j before now (record_kinds.Revoke id) (Err (causes.Revoke fault))
    (ap (λ f. unless causes.Revoke f (after_revocation before.supervision id)) is) same refl stands

-- a record out of its form
pub unread : (j : Judging) (before now : Computer) → now.supervision ≡ before.supervision →
    (before.orders_brake ≡ true → now.orders_brake ≡ true) →
    GoesOn j before Unread now
unread j before now same stands = record {
  supervision = same;
  judged = λ r judged orders. absurd (none-some r judged);
  overdue = λ other. absurd cc;
  stands = λ _ stood. stands stood;
}

-- a missing reading
pub overdue : (j : Judging) (before now : Computer) → now.supervision ≡ before.supervision → now.orders_brake ≡ true →
    GoesOn j before Overdue now
overdue j before now same braked = record {
  supervision = same;
  judged = λ r judged orders. absurd (none-some r judged);
  overdue = λ _. braked;
  stands = λ _ _. braked;
}

-- a change of data that is taken, and one that is refused
changed : (j : Judging) (before now : Computer) (next : Supervision) (t : Result Supervision TakeOverFault) →
    change next before.supervision ≡ t → now.supervision ≡ changed_or before.supervision t →
    (before.orders_brake ≡ true → now.orders_brake ≡ true) →
    GoesOn j before (Change next) now
changed j before now next t is same stands = record {
  supervision = same ∙ ap (changed_or before.supervision) (sym is);
  judged = λ r judged orders. absurd (none-some r judged);
  overdue = λ other. absurd cc;
  stands = λ _ stood. stands stood;
}

pub taken_data : (j : Judging) (before now : Computer) (next : Supervision) →
    take_over_fault next.train_and_track.track.length_cm before.supervision.restrictions ≡ None →
    now.supervision ≡ taken_over next before.supervision → (before.orders_brake ≡ true → now.orders_brake ≡ true) →
    GoesOn j before (Change next) now
unfolding change
taken_data j before now next none taken stands =
    let t = taken_over next before.supervision in
    changed j before now next (Ok t) (ap (λ f. unless_refused f t) none) taken stands

pub refused_data : (j : Judging) (before now : Computer) (next : Supervision) (fault : TakeOverFault) →
    take_over_fault next.train_and_track.track.length_cm before.supervision.restrictions ≡ Some fault →
    now.supervision ≡ before.supervision → (before.orders_brake ≡ true → now.orders_brake ≡ true) →
    GoesOn j before (Change next) now
unfolding change
refused_data j before now next fault is same stands =
    changed j before now next (Err fault) (ap (λ f. unless_refused f (taken_over next before.supervision)) is) same
    stands

-- an order more than is asked for
pub braked : (j : Judging) (before now later : Computer) (h : Happening) → later.supervision ≡ now.supervision →
    later.orders_brake ≡ true → GoesOn j before h now → GoesOn j before h later
braked j before now later h same is g = record {
  supervision = same ∙ g.supervision;
  judged = λ r judged orders. is;
  overdue = λ _. is;
  stands = λ _ _. is;
}
