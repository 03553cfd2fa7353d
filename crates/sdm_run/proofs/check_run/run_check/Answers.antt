-- Each turn writes the answer to the next claim, or a part of it; the end and a bad line come after all answers before.
use Rattle.std.proofs.Common.{◌≡◌, ◌∙◌, Err, refl, subst, arith}
use Rattle.std.specs.Io.KnownBytes.{Appends}
use Rattle.sdm_io.specs.Told.{AppendsPart}
use Rattle.sdm_certify.specs.Checker.{IsBeginFault}
use Rattle.sdm_certify.specs.Lines.{lines_in, map_in}
use Rattle.sdm_certify.proofs.LinesTaken.{claim_bad, claim_reads, map_bad, map_reads}
use Rattle.sdm_run.proofs.CheckTexts.{all_answered, answer_cut, answer_some, answer_written, line_refused, map_refused}
use Rattle.sdm_run.proofs.CheckTexts.{none_answered}
use Rattle.sdm_run.proofs.check_run.run_check.Given.{Over}
use Rattle.sdm_run.proofs.check_run.run_check.Goals.{After-refused}
use Rattle.sdm_run.proofs.check_run.run_check.Goals as goal

module _ (g : Over) (c : After-refused g) where
  -- the line of the map that is bad or wanting
  bad_line : map_in (lines_in c.args.bytes.now) ≡ Err c.in-Err-Line.bad.number
  bad_line = subst (IsBeginFault c.args.bytes.now) c.in-Err-Line.field-0-is c.in-Err-Line.ensures.fault

pub returns-in-Err-Line-clause-answer : goal.returns-in-Err-Line-clause-answer
returns-in-Err-Line-clause-answer g c =
    rw c.refused.ensures (λ output of. map_refused c.args.bytes.now _ _ output (bad_line g c) of)

pub returns-in-Err-Line-clause-possible : goal.returns-in-Err-Line-clause-possible
returns-in-Err-Line-clause-possible g c = rw c.refused.ensures (map_bad c.args.bytes.now _ (bad_line g c), refl)

pub claims-init : goal.claims-init
claims-init g c =
    let begun = c.in-Ok.ensures.begun in
    record {
      answered = λ output of. none_answered _ _ _ output begun of;
      counted = map_reads c.args.bytes.now _ _ begun.read;
      later = omega arith;
      due = λ _. refl;
      untouched = λ output of none. (refl, refl);
    }

pub returns-in-Ok-None-clause-answer : goal.returns-in-Ok-None-clause-answer
returns-in-Ok-None-clause-answer g c =
    let none = rw c.in-Ok-None.field-0-is at c.in-Ok-None.ensures.end in
    rw c.new-in-Ok-None.ensures (λ output of.
    all_answered _ _ _ output (c.claims.invariant.answered output of) none.0)

pub returns-in-Err-clause-answer : goal.returns-in-Err-clause-answer
returns-in-Err-clause-answer g c =
    rw c.refused-in-Err.ensures (λ output of.
    line_refused _ _ _ output (c.claims.invariant.answered output of) _ c.in-Err.ensures.bad.0)

pub returns-in-Err-clause-possible : goal.returns-in-Err-clause-possible
returns-in-Err-clause-possible g c =
    let later = claim_bad _ _ c.in-Err.ensures.bad.0 in
    rw c.refused-in-Err.ensures (omega (arith, c.claims.invariant.counted, later), refl)

pub returns-in_default-clause-answer : goal.returns-in_default-clause-answer
returns-in_default-clause-answer g c =
    let found = rw c.in-Ok-Some.field-0-is at c.in-Ok-Some.ensures.answer in
    let part = subst (AppendsPart (g.O.Sink.taken c.claims.out) (g.O.Sink.taken c.write_piece.new.sink))
    (c.bytes.ensures.value ∙ c.answer_line.ensures) c.in_default.ensures.err in
    rw c.new-in_default.ensures (λ output of.
    answer_cut _ _ _ output (c.claims.invariant.answered output of) _ _ found _ part)

pub claims-smaller : goal.claims-smaller
claims-smaller g c =
    let found = rw c.in-Ok-Some.field-0-is at c.in-Ok-Some.ensures.answer in
    let reads = claim_reads _ _ _ found.read in
    omega (arith, reads.1)

pub claims-preserved : goal.claims-preserved
claims-preserved g c =
    let found = rw c.in-Ok-Some.field-0-is at c.in-Ok-Some.ensures.answer in
    let whole = subst (Appends (g.O.Sink.taken c.claims.out) (g.O.Sink.taken c.write_piece.new.sink))
    (c.bytes.ensures.value ∙ c.answer_line.ensures) c.in-Ok-write_piece.ensures.ok in
    let reads = claim_reads _ _ _ found.read in
    record {
      answered = λ output of.
          answer_written _ _ _ output (c.claims.invariant.answered output of) _ _ found _ whole;
      counted = omega (arith, c.claims.invariant.counted, reads.0);
      later = omega (arith, c.claims.invariant.later, c.write_piece.ensures.cause.later);
      due = λ is. cc;
      untouched = λ output of none. absurd (answer_some _ _ _ output (c.claims.invariant.answered output of) _ _ found
          none);
    }

pub returns-in_default-clause-untouched : goal.returns-in_default-clause-untouched
returns-in_default-clause-untouched g c =
    let found = rw c.in-Ok-Some.field-0-is at c.in-Ok-Some.ensures.answer in
    λ output of none. absurd (answer_some _ _ _ output (c.claims.invariant.answered output of) _ _ found none)

pub returns-in-Ok-None-clause-untouched : goal.returns-in-Ok-None-clause-untouched
returns-in-Ok-None-clause-untouched g c = rw c.new-in-Ok-None.ensures c.claims.invariant.untouched

pub returns-in-Err-clause-untouched : goal.returns-in-Err-clause-untouched
returns-in-Err-clause-untouched g c = rw c.refused-in-Err.ensures c.claims.invariant.untouched
