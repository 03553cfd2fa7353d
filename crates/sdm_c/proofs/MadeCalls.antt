-- A call that is made does what the fold says of it, by the clauses of the call alone.
use Rattle.std.proofs.Common.{◌≡◌, ◌∙◌, ap, refl, subst, ℕ, Bool, false, IsTrue, List, inl, inr, arith}
use Rattle.std.proofs.lemmas.Bool.Decides.{eqb_tells}
use Rattle.std.specs.Prelude.{Some, None, Result, Ok, Err, ◌==◌, ◌||◌, ◌↔◌, if◌then◌else◌}
use Rattle.sdm_rules.specs.declared.authorities.Authority.TheVariants.{Stop, Limit}
use Rattle.sdm_rules.specs.declared.records.Event.TheVariants as record_kinds
use Rattle.sdm_rules.specs.Records.{step}
use Rattle.sdm_rules.specs.Release.{calculated}
use Rattle.sdm_rules.specs.Supervision.{Supervision, after_authority, after_reading, after_restriction}
use Rattle.sdm_rules.specs.Supervision.{after_revocation}
use Rattle.sdm_rules.specs.TakeOver.{taken_over}
use Rattle.sdm_ride.specs.Orders.{taken_or}
use Rattle.sdm_opening.specs.Openings.{IsOpeningOf}
use Rattle.sdm_c.specs.declared.call_lists.Call.{Call}
use Rattle.sdm_c.specs.declared.call_lists.Call.TheVariants as calls
use Rattle.sdm_c.specs.declared.call_lists.Written.{Written}
use Rattle.sdm_c.specs.declared.handle.Handle.{Handle}
use Rattle.sdm_c.specs.declared.structs.ReadingC.{ReadingC}
use Rattle.sdm_c.specs.declared.structs.RestrictionC.{RestrictionC}
use Rattle.sdm_c.specs.Lending.{with_state}
use Rattle.sdm_c.specs.Numbers.{reading_from, restriction_from}
use Rattle.sdm_c.specs.CallLists.{Asked, IsMade, MayComeTo, after_change, after_record, answer, answer_closed, left}
use Rattle.sdm_c.specs.CallLists.{record_of, supervisor_in, told}
use Rattle.sdm_c.specs.Statuses.{IsOpen, authority_answer, calculated_answer, closed, cycle_answer, cycle_status}
use Rattle.sdm_c.specs.Statuses.{end_calculated_status, end_status, in_use, is_open_status}
use Rattle.sdm_c.specs.Statuses.{limit_status, restrict_answer, restriction_status, revocation_status, revoke_answer}
use Rattle.sdm_c.specs.Statuses.{take_over_answer, take_over_status, unless_closed}
use Rattle.sdm_c.proofs.OneCall.{answered, authority_does, calculated_does, change_answers, change_does, nothing_does}
use Rattle.sdm_c.proofs.OneCall.{reading_does, restriction_does, revocation_does, with_none, with_one}

module _ (given : List ℕ) (h now before : Handle) (w v : Written) (status : ℕ) where
  abbrev asked_by : Call → Result Supervision ℕ → Asked
  asked_by c opening = record { call = c; opening = opening; before = supervisor_in before }

  -- the call was made so
  abbrev pub IsMadeBy : Call → Type 0
  IsMadeBy c = (opening : Result Supervision ℕ) × MayComeTo given opening × IsMade h w (record {
    asked = record { call = c; opening = opening; before = supervisor_in before };
    status = status;
    handle = now;
    written = v;
  })

  module _ (kept : ¬ (status ≡ 0) → v ≡ w) (unchanged : ¬ (status ≡ 0) → now ≡ h) where
    pub reading : (r : ReadingC) → status ≡ cycle_status h r →
        (status ≡ 0 → now ≡ with_state h (after_reading h.state (reading_from r))) →
        (status ≡ 0 → v ≡ told h.state (calls.Cycle r) w) → IsMadeBy (calls.Cycle r)
    reading r is taken written = (
      Err 3,
      refl,
      answered h now w v (asked_by (calls.Cycle r) (Err 3)) status
          (λ s. cycle_answer s r) (λ s. after_reading s (reading_from r)) (λ s. after_record s (record_of (calls.Cycle r)))
          (λ s. refl) (λ s. refl) (λ s. reading_does s r) refl is taken unchanged written kept,
    )

    -- a call that asks alone: it hands over nothing
    pub asks : (c : Call) (n : ℕ) → ((s : Supervision) → answer s (supervisor_in before) c ≡ n) →
        ((s : Supervision) → left s (supervisor_in before) c ≡ Some s) →
        answer_closed (asked_by c (Err 3)) c w ≡ record { status = closed; supervisor = None; written = w } →
        status ≡ unless_closed h (λ s. n) → now ≡ h → (status ≡ 0 → v ≡ told h.state c w) → IsMadeBy c
    asks c n same_answer same_left none is same written = (
      Err 3,
      refl,
      answered h now w v (asked_by c (Err 3)) status (λ s. n) (λ s. s) (λ s. s) same_answer same_left
          (λ s. nothing_does n s) none is (λ z. same) unchanged written kept,
    )

  module _ (same : v ≡ w) (unchanged : ¬ (status ≡ 0) → now ≡ h) where
    pub ended : (eoa svl release : ℕ) → status ≡ end_status h eoa svl release →
        (status ≡ 0 → now ≡ with_state h (after_authority h.state (Stop eoa svl release))) →
        IsMadeBy (calls.End eoa svl release)
    ended eoa svl release is taken =
        let a = Stop eoa svl release in (
          Err 3,
          refl,
          answered h now w v (asked_by (calls.End eoa svl release) (Err 3)) status
              (λ s. authority_answer s a) (λ s. after_authority s a) (λ s. taken_or s (step s (record_kinds.Authority a)))
              (λ s. refl) (λ s. refl) (λ s. authority_does s a) refl is taken unchanged (λ z. same) (λ z. same),
        )

    pub ended_calculated : (eoa svl trip : ℕ) → status ≡ end_calculated_status h eoa svl trip →
        (status ≡ 0 → now ≡ with_state h (after_authority h.state
        (Stop eoa svl (calculated h.state.train_and_track svl trip)))) → IsMadeBy (calls.EndCalculated eoa svl trip)
    ended_calculated eoa svl trip is taken = (
      Err 3,
      refl,
      answered h now w v (asked_by (calls.EndCalculated eoa svl trip) (Err 3)) status
          (λ s. calculated_answer s eoa svl trip)
          (λ s. after_authority s (Stop eoa svl (calculated s.train_and_track svl trip)))
          (λ s. taken_or s (step s (record_kinds.Calculated eoa svl trip))) (λ s. refl) (λ s. refl)
          (λ s. calculated_does s eoa svl trip) refl is taken unchanged (λ z. same) (λ z. same),
    )

    pub limited : (loa speed : ℕ) → status ≡ limit_status h loa speed →
        (status ≡ 0 → now ≡ with_state h (after_authority h.state (Limit loa speed))) → IsMadeBy (calls.Limit loa speed)
    limited loa speed is taken =
        let a = Limit loa speed in (
          Err 3,
          refl,
          answered h now w v (asked_by (calls.Limit loa speed) (Err 3)) status
              (λ s. authority_answer s a) (λ s. after_authority s a) (λ s. taken_or s (step s (record_kinds.Authority a)))
              (λ s. refl) (λ s. refl) (λ s. authority_does s a) refl is taken unchanged (λ z. same) (λ z. same),
        )

    pub restricted : (r : RestrictionC) → status ≡ restriction_status h r →
        (status ≡ 0 → now ≡ with_state h (after_restriction h.state (restriction_from r))) →
        IsMadeBy (calls.Restrict r)
    restricted r is taken = (
      Err 3,
      refl,
      answered h now w v (asked_by (calls.Restrict r) (Err 3)) status
          (λ s. restrict_answer s r) (λ s. after_restriction s (restriction_from r))
          (λ s. after_record s (record_of (calls.Restrict r))) (λ s. refl) (λ s. refl) (λ s. restriction_does s r) refl
          is taken unchanged (λ z. same) (λ z. same),
    )

    pub revoked : (id : ℕ) → status ≡ revocation_status h id →
        (status ≡ 0 → now ≡ with_state h (after_revocation h.state id)) → IsMadeBy (calls.Revoke id)
    revoked id is taken = (
      Err 3,
      refl,
      answered h now w v (asked_by (calls.Revoke id) (Err 3)) status
          (λ s. revoke_answer s id) (λ s. after_revocation s id) (λ s. after_record s (record_of (calls.Revoke id)))
          (λ s. refl) (λ s. refl) (λ s. revocation_does s id) refl is taken unchanged (λ z. same) (λ z. same),
    )

    pub changed : status ≡ take_over_status h before →
        (status ≡ 0 → now ≡ with_state h (taken_over h.state before.state)) → IsMadeBy calls.TakeOver
    changed is taken = (
      Err 3,
      refl,
      answered h now w v (asked_by calls.TakeOver (Err 3)) status
          (λ s. unless_closed before (λ b. take_over_answer s b)) (λ s. taken_over s before.state)
          (λ s. after_change s (supervisor_in before)) (λ s. change_answers s before (before.is_open == 1)) (λ s. refl)
          (λ s. change_does s before (before.is_open == 1)) refl is taken unchanged (λ z. same) (λ z. same),
    )

    -- an opening: of a handle that is open, of data that open a supervisor, and of others
    pub opened : IsTrue (is_open_status status) → ((status ≡ in_use) ↔ IsOpen h) → (status ≡ 0 → IsOpen now) →
        (status ≡ 0 → IsOpeningOf given now.state) → IsMadeBy calls.Open
    opened known used is_open opening = elim (eqb_tells h.is_open 1) [
      | inl is ↦
          let here : status ≡ in_use = used.1 is.1 in (
            Err 3,
            refl,
            with_one h now w v (asked_by calls.Open (Err 3)) status is.0 here
                (ap supervisor_in (unchanged (λ z. omega (arith, here, z)))
                ∙ ap (λ (b : Bool). if b then Some h.state else None) is.0) same,
          )
      | inr not ↦ elim (eqb_tells status 0) [
        | inl z ↦ (
          Ok now.state,
          opening z.1,
          with_none h now w v (asked_by calls.Open (Ok now.state)) status not.0 z.1
              (ap (λ (n : ℕ). if n == 1 then Some now.state else None) (is_open z.1)) same,
        )
        | inr z ↦
            let other : (status == 2) ≡ false = elim (eqb_tells status 2) [
              | inl e ↦ absurd (not.1 (used.0 e.1))
              | inr e ↦ e.0
            ] in (
              Err status,
              subst (λ (b : Bool). IsTrue (b || status == 3 || status == 4 || status == 5)) other
                  (subst (λ (b : Bool). IsTrue (b || status == 2 || status == 3 || status == 4 || status == 5)) z.0 known),
              with_none h now w v (asked_by calls.Open (Err status)) status not.0 refl
                  (ap supervisor_in (unchanged z.1) ∙ ap (λ (b : Bool). if b then Some h.state else None) not.0) same,
            )
      ]
    ]

  -- the end
  pub closed_all : v ≡ w → status ≡ 0 → ¬ IsOpen now → IsMadeBy calls.Close
  closed_all same is closed =
      let none : supervisor_in now ≡ None = elim (eqb_tells now.is_open 1) [
        | inl e ↦ absurd (closed e.1)
        | inr e ↦ ap (λ (b : Bool). if b then Some now.state else None) e.0
      ] in
      elim (eqb_tells h.is_open 1) [
        | inl e ↦ (Err 3, refl, with_one h now w v (asked_by calls.Close (Err 3)) status e.0 is none same)
        | inr e ↦ (Err 3, refl, with_none h now w v (asked_by calls.Close (Err 3)) status e.0 is none same)
      ]
