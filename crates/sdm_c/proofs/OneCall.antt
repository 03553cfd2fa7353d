-- What one call does, by cases: the handle has a supervisor or none, and the call is done or refused.
use Rattle.std.proofs.Common.{◌≡◌, ◌∙◌, ap, refl, sym, ℕ, Bool, true, false, inl, inr, arith}
use Rattle.std.proofs.lemmas.Bool.Decides.{eqb_tells}
use Rattle.std.specs.Prelude.{Option, Some, None, ◌==◌, if◌then◌else◌}
use Rattle.sdm_rules.specs.declared.authorities.Authority.{Authority}
use Rattle.sdm_rules.specs.declared.authorities.Authority.TheVariants.{Stop}
use Rattle.sdm_rules.specs.declared.faults.AuthorityFault.{AuthorityFault}
use Rattle.sdm_rules.specs.declared.faults.AuthorityFault.TheVariants.{SvlBeforeEoa, BeyondTrack, BadSpeed}
use Rattle.sdm_rules.specs.declared.faults.EventCause.{EventCause}
use Rattle.sdm_rules.specs.declared.faults.EventCause.TheVariants as causes
use Rattle.sdm_rules.specs.declared.faults.RestrictFault.{RestrictFault}
use Rattle.sdm_rules.specs.declared.faults.RestrictFault.TheVariants.{Full, IdInUse, Value}
use Rattle.sdm_rules.specs.declared.faults.TripFault.{TripFault}
use Rattle.sdm_rules.specs.declared.faults.TripFault.TheVariants as trip_faults
use Rattle.sdm_rules.specs.declared.records.Event.{Event}
use Rattle.sdm_rules.specs.declared.records.Event.TheVariants as record_kinds
use Rattle.sdm_rules.specs.Records.{authority_fault, restrict_fault, revoke_fault, step, time_cause, time_fault}
use Rattle.sdm_rules.specs.Records.{trip_cause, trip_fault, unless}
use Rattle.sdm_rules.specs.Release.{calculated}
use Rattle.sdm_rules.specs.Supervision.{Supervision, after_authority, after_reading, after_restriction}
use Rattle.sdm_rules.specs.Supervision.{after_revocation}
use Rattle.sdm_rules.specs.TakeOver.{taken_over}
use Rattle.sdm_ride.specs.Orders.{taken_or}
use Rattle.sdm_c.specs.declared.call_lists.Call.TheVariants as calls
use Rattle.sdm_c.specs.declared.call_lists.Written.{Written}
use Rattle.sdm_c.specs.declared.handle.Handle.{Handle}
use Rattle.sdm_c.specs.declared.structs.ReadingC.{ReadingC}
use Rattle.sdm_c.specs.declared.structs.RestrictionC.{RestrictionC}
use Rattle.sdm_c.specs.Lending.{with_state}
use Rattle.sdm_c.specs.Numbers.{is_identity, is_reading, is_restriction, reading_from, restriction_from}
use Rattle.sdm_c.specs.CallLists.{Answer, Asked, IsMade, after_change, after_record, answer, answer_closed}
use Rattle.sdm_c.specs.CallLists.{answer_of, change_answer, left, record_of, supervisor_in, told}
use Rattle.sdm_c.specs.Statuses.{authority_answer, authority_status, calculated_answer, closed, cycle_answer, done}
use Rattle.sdm_c.specs.Statuses.{in_range, restrict_answer, restrict_status, revoke_answer, revoke_status}
use Rattle.sdm_c.specs.Statuses.{take_over_answer, time_status, trip_status, unless_closed}

-- ---- A RECORD

-- where a status is done the state is the one after, else it is as before
pub record Does (status : ℕ) (before after now : Supervision) : Type 0 where
  pub done : status ≡ 0 → now ≡ after
  pub refused : ¬ (status ≡ 0) → now ≡ before

-- the supervisor's fault becomes the status
by_fault : {F : Type 0} (status : Option F → ℕ) (cause : F → EventCause) (s after : Supervision) → status None ≡ 0 →
    ((f : F) → ¬ (status (Some f) ≡ 0)) → (fault : Option F) →
    Does (status fault) s after (taken_or s (unless cause fault after))
by_fault status cause s after none some None = record { done = λ e. refl; refused = λ no. absurd (no none) }
by_fault status cause s after none some (Some f) = record { done = λ e. absurd (some f e); refused = λ no. refl }

-- a number outside its range is a fault too
ranged : (is : Bool) (n : ℕ) (e : Event) (s after : Supervision) → Does n s after (taken_or s (step s e)) →
    Does (in_range is n) s after (after_record s (if is then Some e else None))
ranged true n e s after does = does
ranged false n e s after does = record { done = λ e. absurd (omega arith); refused = λ no. refl }

no_authority : (f : AuthorityFault) → ¬ (authority_status (Some f) ≡ 0)
no_authority SvlBeforeEoa e = omega arith
no_authority BeyondTrack e = omega arith
no_authority BadSpeed e = omega arith

no_trip : (f : TripFault) → ¬ (trip_status (Some f) ≡ 0)
no_trip (trip_faults.Authority f) e = no_authority f e
no_trip trip_faults.BadTrip e = omega arith

no_restriction : (f : RestrictFault) → ¬ (restrict_status (Some f) ≡ 0)
no_restriction Full e = omega arith
no_restriction (IdInUse id) e = omega arith
no_restriction Value e = omega arith

module _ (s : Supervision) where
  pub reading_does : (r : ReadingC) → Does (cycle_answer s r) s (after_reading s (reading_from r))
      (after_record s (record_of (calls.Cycle r)))
  unfolding step
  reading_does r = ranged (is_reading r) _ (record_kinds.Read (reading_from r)) s _
      (by_fault time_status time_cause s _ refl (λ f e. omega arith) (time_fault s.last_time r.time_ds))

  pub authority_does : (a : Authority) → Does (authority_answer s a) s (after_authority s a)
      (taken_or s (step s (record_kinds.Authority a)))
  unfolding step
  authority_does a = by_fault authority_status causes.Authority s _ refl no_authority
      (authority_fault s.train_and_track.track.length_cm a)

  pub calculated_does : (eoa svl trip : ℕ) → Does (calculated_answer s eoa svl trip) s
      (after_authority s (Stop eoa svl (calculated s.train_and_track svl trip)))
      (taken_or s (step s (record_kinds.Calculated eoa svl trip)))
  unfolding step
  calculated_does eoa svl trip = by_fault trip_status trip_cause s _ refl no_trip
      (trip_fault s.train_and_track.track.length_cm eoa svl trip)

  pub restriction_does : (r : RestrictionC) → Does (restrict_answer s r) s (after_restriction s (restriction_from r))
      (after_record s (record_of (calls.Restrict r)))
  unfolding step
  restriction_does r = ranged (is_restriction r) _ (record_kinds.Restrict (restriction_from r)) s _
      (by_fault restrict_status causes.Restrict s _ refl no_restriction
      (restrict_fault s.train_and_track.track.length_cm s.restrictions (restriction_from r)))

  pub revocation_does : (id : ℕ) → Does (revoke_answer s id) s (after_revocation s id)
      (after_record s (record_of (calls.Revoke id)))
  unfolding step
  revocation_does id = ranged (is_identity id) _ (record_kinds.Revoke id) s _
      (by_fault revoke_status causes.Revoke s _ refl (λ f e. omega arith) (revoke_fault s.restrictions id))

-- a call that hands over nothing
pub nothing_does : (n : ℕ) (s : Supervision) → Does n s s s
nothing_does n s = record { done = λ e. refl; refused = λ no. refl }

-- ---- A CHANGE OF DATA

pub change_answers : (next : Supervision) (before : Handle) (b : Bool) →
    change_answer next (if b then Some before.state else None)
    ≡ (if b then take_over_answer next before.state else closed)
change_answers next before true = refl
change_answers next before false = refl

by_number : (n : ℕ) (next after : Supervision) → Does n next after (if n == done then after else next)
by_number n next after = elim (eqb_tells n 0) [
  | inl is ↦ record {
    done = λ e. ap (λ (b : Bool). if b then after else next) is.0;
    refused = λ no. absurd (no is.1);
  }
  | inr not ↦ record {
    done = λ e. absurd (not.1 e);
    refused = λ no. ap (λ (b : Bool). if b then after else next) not.0;
  }
]

pub change_does : (next : Supervision) (before : Handle) (b : Bool) →
    Does (if b then take_over_answer next before.state else closed) next (taken_over next before.state)
    (after_change next (if b then Some before.state else None))
change_does next before true = by_number (take_over_answer next before.state) next (taken_over next before.state)
change_does next before false = record { done = λ e. absurd (omega arith); refused = λ no. refl }

-- ---- A CALL ON A HANDLE

by_status : (n : ℕ) (v x y : Written) → (n ≡ 0 → v ≡ x) → (¬ (n ≡ 0) → v ≡ y) → v ≡ (if n == done then x else y)
by_status n v x y is same = elim (eqb_tells n 0) [
  | inl e ↦ is e.1 ∙ ap (λ (b : Bool). if b then x else y) (sym e.0)
  | inr e ↦ same e.1 ∙ ap (λ (b : Bool). if b then x else y) (sym e.0)
]

module _ (h now : Handle) (w v : Written) (a : Asked) (status : ℕ) where
  abbrev IsMadeSo : Type 0
  IsMadeSo = IsMade h w (record { asked = a; status = status; handle = now; written = v })

  -- with a supervisor
  pub with_one : (h.is_open == 1) ≡ true → status ≡ answer h.state a.before a.call →
      supervisor_in now ≡ left h.state a.before a.call →
      v ≡ (if answer h.state a.before a.call == done then told h.state a.call w else w) → IsMadeSo
  with_one is status_is supervisor written = record {
    answer = (λ k. record { status = status_is k; supervisor = supervisor k; written = written k })
        ∙ ap (λ (b : Bool). answer_of (if b then Some h.state else None) w a) (sym is);
  }

  -- and without one
  pub with_none : (h.is_open == 1) ≡ false → status ≡ (answer_closed a a.call w).status →
      supervisor_in now ≡ (answer_closed a a.call w).supervisor → v ≡ (answer_closed a a.call w).written → IsMadeSo
  with_none is status_is supervisor written = record {
    answer = (λ k. record { status = status_is k; supervisor = supervisor k; written = written k })
        ∙ ap (λ (b : Bool). answer_of (if b then Some h.state else None) w a) (sym is);
  }

  -- a call that a supervisor answers, without which it is closed: done it leaves what is after, refused what was before
  pub answered : (answers : Supervision → ℕ) (after last : Supervision → Supervision) →
      ((s : Supervision) → answer s a.before a.call ≡ answers s) →
      ((s : Supervision) → left s a.before a.call ≡ Some (last s)) →
      ((s : Supervision) → Does (answers s) s (after s) (last s)) →
      answer_closed a a.call w ≡ record { status = closed; supervisor = None; written = w } →
      status ≡ unless_closed h answers → (status ≡ 0 → now ≡ with_state h (after h.state)) →
      (¬ (status ≡ 0) → now ≡ h) → (status ≡ 0 → v ≡ told h.state a.call w) → (¬ (status ≡ 0) → v ≡ w) → IsMadeSo
  answered answers after last same_answer same_left does none status_is taken unchanged written kept =
      elim (eqb_tells h.is_open 1) [
        | inl is ↦
            let s = h.state in
            let here : status ≡ answers s = status_is ∙ ap (λ (b : Bool). if b then answers s else closed) is.0 in
            let now_is : supervisor_in now ≡ Some (last s) = elim (eqb_tells (answers s) 0) [
              | inl e ↦ ap supervisor_in (taken (here ∙ e.1))
                  ∙ ap (λ (b : Bool). if b then Some (after s) else None) is.0 ∙ ap Some (sym ((does s).done e.1))
              | inr e ↦ ap supervisor_in (unchanged (λ z. e.1 (sym here ∙ z)))
                  ∙ ap (λ (b : Bool). if b then Some s else None) is.0 ∙ ap Some (sym ((does s).refused e.1))
            ] in
            with_one is.0 (here ∙ sym (same_answer s)) (now_is ∙ sym (same_left s))
            (by_status _ v _ w (λ z. written (here ∙ sym (same_answer s) ∙ z))
            (λ no. kept (λ z. no (same_answer s ∙ sym here ∙ z))))
        | inr not ↦
            let here : status ≡ closed = status_is ∙ ap (λ (b : Bool). if b then answers h.state else closed) not.0 in
            let refused : ¬ (status ≡ 0) = λ z. omega (arith, here, z) in
            with_none not.0 (here ∙ sym (ap (λ (x : Answer). x.status) none))
            (ap supervisor_in (unchanged refused) ∙ ap (λ (b : Bool). if b then Some h.state else None) not.0
            ∙ sym (ap (λ (x : Answer). x.supervisor) none)) (kept refused ∙ sym (ap (λ (x : Answer). x.written) none))
      ]
