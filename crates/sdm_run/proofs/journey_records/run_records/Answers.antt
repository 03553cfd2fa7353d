-- Each turn takes the first record that is left, or ends the run with the outcome of what is left.
use Rattle.std.proofs.Common.{◌≡◌, ◌+◌, suc, ◌∷◌, refl, inl, sym, subst, arith}
use Rattle.std.proofs.lemmas.Bool.{false≢true}
use Rattle.std.proofs.KnownBytes.{Appends-nil}
use Rattle.csv.specs.Records.{fields_of}
use Rattle.sdm_report.specs.declared.outcome.Outcome.TheVariants.{BadEvent, Done}
use Rattle.sdm_run.specs.RunParts.{TellsEach}
use Rattle.sdm_run.proofs.HeldRecords.{held_none_left, held_refused, reading_held, reading_no_end}
use Rattle.sdm_run.proofs.OutputLeft.{all_left, cut_off}
use Rattle.sdm_run.proofs.RunTexts.{first_refused, none_left, reading_cut, reading_some, reading_told, records_not_before}
use Rattle.sdm_run.proofs.RunTexts.{refused_outcome}
use Rattle.sdm_run.proofs.journey_records.run_records.Goals as goal

pub records-init : goal.records-init
records-init g c = record {
  left = rw c.begin-records.ensures.all (all_left _ _);
  held = rw c.begin-records.ensures.all (λ h. h);
  counted = omega arith;
  later = omega arith;
  due = λ is. (is, refl);
  untouched = λ due each none. (due, refl, refl);
}

pub returns-in-Ok-false-clause-answer : goal.returns-in-Ok-false-clause-answer
returns-in-Ok-false-clause-answer g c =
    let none = c.next.ensures.end (cc (c.in-Ok-false.is, c.in-Ok-false.field-0-test)) in
    rw c.new.ensures (cut_off _ _ _ _ _ c.records.invariant.left Done (λ h. h)
    (rw (none_left _ _ _ _ none.0) (record { ended = inl refl; taken = Appends-nil _ })))

pub returns-in-Ok-false-clause-held : goal.returns-in-Ok-false-clause-held
returns-in-Ok-false-clause-held g c end =
    let none = c.next.ensures.end (cc (c.in-Ok-false.is, c.in-Ok-false.field-0-test)) in
    c.records.invariant.held (held_none_left c.records.teller (c.records.number + 1) c.records.supervisor _ none.0)

pub returns-in-Err-take_record-clause-answer : goal.returns-in-Err-take_record-clause-answer
returns-in-Err-take_record-clause-answer g c =
    let found : c.records.records.left ≡ fields_of c.next.new.into ∷ c.next.new.self.left =
    c.next.ensures.found (cc (c.in-Ok-true.is, c.in-Ok-true.field-0-test)) in
    rw (c.new-in-Err-take_record.ensures, c.in-Err-take_record.ensures.untold)
    (cut_off _ _ _ _ _ c.records.invariant.left (BadEvent _ _) (λ h. h)
    (rw (first_refused _ _ _ _ _ _ found _ c.in-Err-take_record.ensures.refused)
    (record { ended = inl refl; taken = Appends-nil _ })))

pub returns-in-Err-take_record-clause-held : goal.returns-in-Err-take_record-clause-held
returns-in-Err-take_record-clause-held g c end =
    let found : c.records.records.left ≡ fields_of c.next.new.into ∷ c.next.new.self.left =
    c.next.ensures.found (cc (c.in-Ok-true.is, c.in-Ok-true.field-0-test)) in
    c.records.invariant.held (held_refused c.records.teller (c.records.number + 1) c.records.supervisor _ _ _ found _
    c.in-Err-take_record.ensures.refused)

pub returns-in-Err-take_record-clause-possible : goal.returns-in-Err-take_record-clause-possible
returns-in-Err-take_record-clause-possible g c = rw c.new-in-Err-take_record.ensures
    (refused_outcome _ c.records.supervisor _ _ (omega arith) c.in-Err-take_record.ensures.refused)

pub returns-in-Ok-Cut-clause-answer : goal.returns-in-Ok-Cut-clause-answer
returns-in-Ok-Cut-clause-answer g c =
    let found : c.records.records.left ≡ fields_of c.next.new.into ∷ c.next.new.self.left =
    c.next.ensures.found (cc (c.in-Ok-true.is, c.in-Ok-true.field-0-test)) in
    let taken = (rw c.in-Ok-Cut.field-0-is at c.in-Ok-Cut.ensures.taken) in
    reading_cut _ _ _ _ _ _ found _ _ _ _ c.records.invariant.left _ taken.0 taken.1 taken.2 c.in-Ok-Cut.ended
    (records_not_before _ (c.in-Ok-Cut.ensures.possible _ c.in-Ok-Cut.field-0-is)) taken.3

pub returns-in-Ok-Cut-clause-held : goal.returns-in-Ok-Cut-clause-held
returns-in-Ok-Cut-clause-held g c end =
    let taken = (rw c.in-Ok-Cut.field-0-is at c.in-Ok-Cut.ensures.taken) in
    absurd (reading_no_end c.records.teller (c.records.number + 1) c.records.supervisor (c.records.records.left) _ _
    (c.next.ensures.found (cc (c.in-Ok-true.is, c.in-Ok-true.field-0-test))) _ _ _ taken.2 _ _ c.in-Ok-Cut.ended taken.3 end)

pub records-preserved : goal.records-preserved
records-preserved g c =
    let found : c.records.records.left ≡ fields_of c.next.new.into ∷ c.next.new.self.left =
    c.next.ensures.found (cc (c.in-Ok-true.is, c.in-Ok-true.field-0-test)) in
    let next : c.records.number + 1 + 1 ≡ suc (c.records.number + 1) = omega arith in
    let taken = (rw c.in-Ok-Told.field-0-is at c.in-Ok-Told.ensures.taken) in
    record {
      left = rw next (reading_told _ _ _ _ _ _ found _ _ _ _ c.records.invariant.left _ taken.0 taken.1 taken.2 _
          taken.3);
      held = rw next (λ h. c.records.invariant.held
          (reading_held c.records.teller (c.records.number + 1) c.records.supervisor _ _ _ found _ _ _ taken.2 _ _ _
          taken.3 h));
      counted = omega (arith, c.in-Ok-Told.ensures.counted);
      later = omega (arith, c.records.invariant.later, c.in-Ok-Told.ensures.later);
      due = λ is. absurd (false≢true (sym is));
      untouched = λ due each none.
          let so_far = c.records.invariant.untouched due each none in
          absurd (reading_some _ _ _ _ _ _ found _ _ (g.O.Sink.taken c.records.out) _ c.records.invariant.left _ taken.0 taken.1 taken.2
          (subst TellsEach (sym so_far.2) each) none);
    }

pub returns-in-Ok-Cut-clause-untouched : goal.returns-in-Ok-Cut-clause-untouched
returns-in-Ok-Cut-clause-untouched g c =
    let found : c.records.records.left ≡ fields_of c.next.new.into ∷ c.next.new.self.left =
    c.next.ensures.found (cc (c.in-Ok-true.is, c.in-Ok-true.field-0-test)) in
    let taken = (rw c.in-Ok-Cut.field-0-is at c.in-Ok-Cut.ensures.taken) in
    λ due each none.
    let so_far = c.records.invariant.untouched due each none in
    absurd (reading_some _ _ _ _ _ _ found _ _ (g.O.Sink.taken c.records.out) _ c.records.invariant.left _ taken.0 taken.1 taken.2
    (subst TellsEach (sym so_far.2) each) none)
