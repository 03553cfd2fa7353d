-- What is told of a reading and of its turn: of `run` its row, of `display` what is shown, of `why` its causes, of
-- `certify` its certificate, which a covered reading under a stop has, since it is within the SvL.
use Rattle.std.proofs.Common.{◌≡◌, ℕ, ℤ, zero, suc, ◌-◌, Bool, true, false, not, List, [], ◌∷◌, ◌++◌, nat_lt, refl}
use Rattle.std.proofs.Common.{Option, None, ap, sym, subst, ◌∙◌, inl, inr, arith}
use Rattle.std.specs.Prelude.{◌<◌, ◌⊎◌, ◌&&◌, ◌||◌, is_some}
use Rattle.std.specs.List.{list_all}
use Rattle.std.proofs.lemmas.Bool.{and_parts, false≢true, not-true, true≢false}
use Rattle.std.proofs.lemmas.Bool.Decides.{nat_tests}
use Rattle.std.proofs.lemmas.List.Elements.{All-contains}
use Rattle.std.proofs.lemmas.List.Sums.{AllPass-from_list_all}
use Rattle.sdm_num.specs.Readings.{OdometerReading, estimate_of}
use Rattle.sdm_rules.specs.declared.authorities.Authority.{Authority}
use Rattle.sdm_rules.specs.declared.authorities.Authority.TheVariants.{Stop, Limit}
use Rattle.sdm_rules.specs.declared.records.Event.{Event}
use Rattle.sdm_rules.specs.declared.records.Event.TheVariants as record_kinds
use Rattle.sdm_rules.specs.declared.rows.Row.{Row}
use Rattle.sdm_rules.specs.declared.data.SlopeKind.TheVariants.{Safe}
use Rattle.sdm_rules.specs.Certificates.{Hold, IsClaimInRange}
use Rattle.sdm_rules.specs.Data.{TrainAndTrack}
use Rattle.sdm_rules.specs.Decelerations.{slopes_of}
use Rattle.sdm_rules.specs.Display.{display_of}
use Rattle.sdm_rules.specs.Limits.{limits_of}
use Rattle.sdm_rules.specs.Records.{Turn, row_at}
use Rattle.sdm_rules.specs.Supervision.{Supervision, after_reading, is_covered_for, is_covered_in, profile_of, row_in}
use Rattle.sdm_rules.specs.Supervision.{row_of, situation_of, release_of}
use Rattle.sdm_rules.specs.declared.targets.Target.{Target}
use Rattle.sdm_rules.specs.Targets.{svl_target, targets_of}
use Rattle.sdm_rules.specs.Within.{is_before_svl, is_within, is_within_svl}
use Rattle.sdm_formats.specs.Text.{display_tells, display_text, run_tells, row_text}
use Rattle.sdm_formats.specs.Flat.{Output}
use Rattle.sdm_formats.specs.Input.{End}
use Rattle.sdm_laws.proofs.Rows.Stops.{has_svl}
use Rattle.sdm_causes.specs.Causes.{causes_of}
use Rattle.sdm_causes.specs.Text.{causes_text, why_tells}
use Rattle.sdm_io.specs.Told.{AppendsPart}
use Rattle.sdm_report.specs.declared.outcome.Outcome.TheVariants.{WriteFault}
use Rattle.sdm_certify.specs.declared.certificates.Certificate.{Certificate}
use Rattle.sdm_certify.specs.Certificates.{IsCertificateOf}
use Rattle.sdm_run.specs.declared.tellers.Teller.{Teller}
use Rattle.sdm_run.specs.declared.tellers.Teller.TheVariants.{Rows, Displays, Causes, Certificates}
use Rattle.sdm_certify.specs.Lines.{Certified}
use Rattle.sdm_certify.specs.Made.{AreMarksInRange, marks_of}
use Rattle.sdm_certify.specs.WrittenLines.{marked_claim_text}
use Rattle.sdm_run.specs.Certifying.{certificate_text, certificates, certified_of, is_certified, is_stop}
use Rattle.sdm_run.specs.RunParts.{IsHeldBy, IsToldTurn, turns_text}
use Rattle.sdm_run.specs.Answers.{IsAnswer}
use Rattle.sdm_run.proofs.CertifyLines.{certificate_whole}
use Rattle.sdm_run.proofs.OutputLeft.{all_left, wrote_part}

-- ---- a covered reading under a stop is within the SvL

or_false : (b : Bool) → (b || false) ≡ b
or_false true = refl
or_false false = refl

-- an SvL is covered where the front end is before its EBI
covered_is_before : (d : TrainAndTrack) (r : OdometerReading) (svl : ℕ) →
    is_covered_for d r.max (estimate_of r) (svl_target svl) ≡ is_before_svl d r svl
unfolding limits_of
covered_is_before d r svl = or_false _

-- outside release speed monitoring a test that all targets pass is passed by the SvL
all_svl : (p : Target → Bool) (profile : ℤ → ℕ) (front : ℤ) (eoa svl release : ℕ) (monitored : Bool) →
    monitored ≡ false → list_all p (targets_of profile (Stop eoa svl release) front monitored) ≡ true →
    p (svl_target svl) ≡ true
all_svl p profile front eoa svl release monitored free h =
    All-contains (λ t. p t ≡ true) _ (svl_target svl)
    (AllPass-from_list_all p _ (rw free at h)) (has_svl profile front eoa svl release)

-- of any authority that is a stop
within_of : (s : Supervision) (r : OdometerReading) (a : Authority) → s.authority ≡ a → is_stop a ≡ true →
    (row_of s r).covered ≡ true → is_within s.train_and_track r a ≡ true
unfolding row_in is_covered_in situation_of
within_of s r (Limit loa speed) is stop covered = absurd (false≢true stop)
within_of s r (Stop eoa svl release) is stop covered =
    let d = s.train_and_track in
    let parts = rw is at (and_parts (not (is_some (release_of d s.authority r.max)))
    (list_all (is_covered_for d r.max (estimate_of r))
    (targets_of (profile_of s) s.authority r.max (is_some (release_of d s.authority r.max)))) covered) in
    let free = not-true (is_some (release_of d (Stop eoa svl release) r.max)) parts.0 in
    let before = sym (covered_is_before d r svl)
    ∙ all_svl (is_covered_for d r.max (estimate_of r)) (profile_of s) r.max eoa svl release _ free parts.1 in
    rw (parts.0, before) refl

pub covered_within : (s : Supervision) (r : OdometerReading) → is_stop s.authority ≡ true →
    (row_of s r).covered ≡ true → is_within_svl s r ≡ true
unfolding is_within_svl
covered_within s r stop covered = within_of s r s.authority refl stop covered

-- ---- the state after a reading

-- after a reading the same is within the SvL, and the same is claimed
within_after : (s : Supervision) (r : OdometerReading) → is_within_svl (after_reading s r) r ≡ is_within_svl s r
unfolding after_reading is_within_svl
within_after s r = refl

certificate_after : (s : Supervision) (r : OdometerReading) →
    certificate_text (after_reading s r) r ≡ certificate_text s r
unfolding after_reading
certificate_after s r = refl

-- what is made after a reading is the certificate of the reading
held_of : (before : Supervision) (r : OdometerReading) (c : Certificate) →
    IsCertificateOf (after_reading before r) r c.claim c.marks →
    IsCertificateOf before r (certified_of before r).claim (certified_of before r).marks
unfolding after_reading
held_of before r c made =
    let on = slopes_of Safe before.train_and_track in
    let claim : c.claim ≡ (certified_of before r).claim = made.claim_is in
    let marks : c.marks ≡ (certified_of before r).marks = made.marks_are ∙ ap (marks_of on) claim in
    record {
      within = sym (within_after before r) ∙ made.within;
      claim_is = refl;
      marks_are = refl;
      hold = subst (λ (x : Certified). Hold on x.claim x.marks)
          (λ k. record { claim = claim k; marks = marks k }) made.hold;
      claim_range = subst IsClaimInRange claim made.claim_range;
      marks_range = subst AreMarksInRange marks made.marks_range;
    }

-- a reading within the SvL is under a stop
stop_of_within : (d : TrainAndTrack) (r : OdometerReading) (a : Authority) → is_within d r a ≡ true → is_stop a ≡ true
stop_of_within d r (Stop eoa svl release) h = refl
stop_of_within d r (Limit loa speed) h = absurd (false≢true h)

stop_within : (s : Supervision) (r : OdometerReading) → is_within_svl s r ≡ true → is_stop s.authority ≡ true
unfolding is_within_svl
stop_within s r h = stop_of_within s.train_and_track r s.authority h

-- ---- a turn that has no text

-- a turn without a certificate, or past the last that is due
pub certificates_none : (turn : Turn) (more : List Turn) (left : ℕ) →
    (nat_lt 0 left ≡ false) ⊎ (is_certified turn ≡ false) → certificates left (turn ∷ more) ≡ certificates left more
certificates_none turn more zero h = refl
certificates_none turn more (suc left) (inl none) =
    let due : nat_lt 0 (suc left) ≡ true = grind (arith, nat_tests) in absurd (true≢false (sym due ∙ none))
certificates_none turn more (suc left) (inr none) = rw none refl

-- of which nothing need hold
held_none : (turn : Turn) (more : List Turn) (left : ℕ) →
    (nat_lt 0 left ≡ false) ⊎ (is_certified turn ≡ false) →
    IsHeldBy (Certificates left) more → IsHeldBy (Certificates left) (turn ∷ more)
held_none turn more zero h held = tt
held_none turn more (suc left) (inl none) held =
    let due : nat_lt 0 (suc left) ≡ true = grind (arith, nat_tests) in absurd (true≢false (sym due ∙ none))
held_none turn more (suc left) (inr none) held = rw none held

-- where each teller tells nothing
nothing_told : (teller : Teller) (turn : Turn) → run_tells turn ≡ [] → display_tells turn ≡ [] →
    why_tells turn ≡ [] → is_certified turn ≡ false → IsToldTurn teller teller turn []
nothing_told Rows turn row shown why none =
    record { rest = λ more. rw row refl; whole_lines = inl refl; held = λ more h. h }
nothing_told Displays turn row shown why none =
    record { rest = λ more. rw shown refl; whole_lines = inl refl; held = λ more h. h }
nothing_told Causes turn row shown why none =
    record { rest = λ more. rw why refl; whole_lines = inl refl; held = λ more h. h }
nothing_told (Certificates left) turn row shown why none = record {
  rest = λ more. certificates_none turn more left (inr none);
  whole_lines = inl refl;
  held = λ more. held_none turn more left (inr none);
}

-- of an event that has no row nothing is told
pub none_told : (teller : Teller) (s t : Supervision) (e : Event) → row_at s e ≡ None →
    IsToldTurn teller teller (record { before = s; event = e; after = t }) []
none_told teller s t (record_kinds.Read r) none = absurd cc
none_told teller s t (record_kinds.Authority a) none = nothing_told teller _ refl refl refl refl
none_told teller s t (record_kinds.Calculated eoa svl trip) none = nothing_told teller _ refl refl refl refl
none_told teller s t (record_kinds.Restrict r) none = nothing_told teller _ refl refl refl refl
none_told teller s t (record_kinds.Revoke id) none = nothing_told teller _ refl refl refl refl

-- ---- a reading

module _ (before : Supervision) (r : OdometerReading) (after : Supervision) where
  abbrev pub turn_of_reading : Turn
  turn_of_reading = record { before = before; event = record_kinds.Read r; after = after }

  -- `run` tells its row
  pub row_told : (row : Row) → row ≡ row_of before r → IsToldTurn Rows Rows turn_of_reading (row_text row)
  unfolding row_text
  row_told row is = record { rest = λ more. rw is refl; whole_lines = inr (_, refl); held = λ more h. h }

  -- `display` tells what is shown of it
  pub shown_told : IsToldTurn Displays Displays turn_of_reading (display_text (display_of after r))
  unfolding display_text
  shown_told = record { rest = λ more. refl; whole_lines = inr (_, refl); held = λ more h. h }

  -- `why` tells its causes
  pub explained_told : IsToldTurn Causes Causes turn_of_reading (causes_text (causes_of after r))
  unfolding causes_text
  explained_told = record { rest = λ more. refl; whole_lines = inr (_, refl); held = λ more h. h }

  module _ (left : ℕ) where
    -- `certify` tells nothing of one that isn't certified, or past the last that is due
    pub uncertified : (nat_lt 0 left ≡ false) ⊎ (is_certified turn_of_reading ≡ false) →
        IsToldTurn (Certificates left) (Certificates left) turn_of_reading []
    uncertified none = record {
      rest = λ more. certificates_none turn_of_reading more left none;
      whole_lines = inl refl;
      held = λ more. held_none turn_of_reading more left none;
    }

    -- nothing of one that isn't covered
    pub uncovered : (row : Row) → row ≡ row_of before r → row.covered ≡ false →
        IsToldTurn (Certificates left) (Certificates left) turn_of_reading []
    uncovered row is none =
        uncertified (inr (by_stop (is_stop before.authority) (sym (ap (λ (x : Row). x.covered) is) ∙ none)))
      where
        by_stop : (b : Bool) → (row_of before r).covered ≡ false → (b && (row_of before r).covered) ≡ false
        by_stop true none = none
        by_stop false none = refl

    module _ (is : after ≡ after_reading before r) where
      within_same : is_within_svl after r ≡ is_within_svl before r
      within_same = ap (λ (x : Supervision). is_within_svl x r) is ∙ within_after before r

      -- nothing of one that isn't within the SvL
      pub outside : is_within_svl after r ≡ false →
          IsToldTurn (Certificates left) (Certificates left) turn_of_reading []
      outside none = uncertified (inr (by_test (is_certified turn_of_reading) refl))
        where
          by_test : (b : Bool) → is_certified turn_of_reading ≡ b → is_certified turn_of_reading ≡ false
          by_test false none = none
          by_test true is_one =
              let parts = and_parts (is_stop before.authority) (row_of before r).covered is_one in
              absurd (false≢true (sym none ∙ within_same ∙ covered_within before r parts.0 parts.1))

      -- the certificate of a covered one that is within the SvL
      pub certified : (c : Certificate) → 0 < left → (row_of before r).covered ≡ true →
          IsCertificateOf after r c.claim c.marks →
          IsToldTurn (Certificates left) (Certificates (left - 1)) turn_of_reading (marked_claim_text c.claim c.marks)
      certified c due covered made =
          let stop = stop_within before r (sym within_same ∙ made.within) in
          let is_one : is_certified turn_of_reading ≡ true = rw (stop, covered) refl in
          let text : certificate_text before r ≡ marked_claim_text c.claim c.marks =
          sym (certificate_after before r) ∙ ap (λ (x : Supervision). certificate_text x r) (sym is)
          ∙ sym (rw (made.marks_are, made.claim_is) refl) in
          record {
            rest = λ more. certificates_some left due is_one more ∙ rw text refl;
            whole_lines = certificate_whole c.claim c.marks;
            held = λ more. held_some left due is_one more
                (held_of before r c (subst (λ (x : Supervision). IsCertificateOf x r c.claim c.marks) is made));
          }
        where
          held_some : (left : ℕ) → 0 < left → is_certified turn_of_reading ≡ true → (more : List Turn) →
              IsCertificateOf before r (certified_of before r).claim (certified_of before r).marks →
              IsHeldBy (Certificates (left - 1)) more → IsHeldBy (Certificates left) (turn_of_reading ∷ more)
          held_some zero due is_one more one h = absurd (omega (arith, due))
          held_some (suc left) due is_one more one h =
              let same : suc left - 1 ≡ left = omega arith in
              rw is_one (one, subst (λ (n : ℕ). IsHeldBy (Certificates n) more) same h)

          certificates_some : (left : ℕ) → 0 < left → is_certified turn_of_reading ≡ true → (more : List Turn) →
              certificates left (turn_of_reading ∷ more)
              ≡ certificate_text before r ++ certificates (left - 1) more
          certificates_some zero due is_one more = absurd (omega (arith, due))
          certificates_some (suc left) due is_one more =
              let same : suc left - 1 ≡ left = omega arith in rw (is_one, same) refl

-- a part of what is told of a turn answers as a write fault, whatever follows
pub told_in_part : (teller after : Teller) (turn : Turn) (text : List ℕ) → IsToldTurn teller after turn text →
    (old new : Option (List ℕ)) → AppendsPart old new text → (more : List Turn) (end : End) →
    IsAnswer (record { text = turns_text teller (turn ∷ more); end = end }) old new WriteFault
told_in_part teller after turn text told old new part more end =
    let whole : Output = record { text = turns_text teller (turn ∷ more); end = end } in
    let next : Output = record { text = turns_text after more; end = end } in
    wrote_part old old new whole whole (all_left old whole) text next
    (λ k. record { text = told.rest more k; end = end }) part
