-- Each turn writes the row of the first line that is left, or a part of it.
use Rattle.std.proofs.Common.{◌≡◌, ◌∷◌, ◌∙◌, map, add-one, ap, refl, subst, arith}
use Rattle.std.specs.Io.BufRead.{strip_last}
use Rattle.std.specs.Io.KnownBytes.{Appends}
use Rattle.sdm_formats.specs.Flat.{flat_output, flat_text}
use Rattle.sdm_formats.specs.Lines.{lines_of}
use Rattle.sdm_io.specs.Told.{AppendsPart}
use Rattle.sdm_run.proofs.FlatTexts.{accepted_output, row_is_line, row_some}
use Rattle.sdm_run.proofs.OutputLeft.{all_left, first_empty, wrote, wrote_part}
use Rattle.sdm_run.proofs.flat_run.run_flat.Goals as goal

pub lines-init : goal.lines-init
unfolding flat_output
lines-init g c = record {
  left = rw c.in-Ok.ensures (all_left _ _);
  few = omega arith;
  later = omega arith;
  due = λ _. refl;
  untouched = λ _. (refl, refl);
}

pub lines-preserved : goal.lines-preserved
lines-preserved g c =
    let first : lines_of c.lines.rest.now ≡ c.without_lf.result.now ∷ lines_of c.in-Some.after.now =
    rw c.without_lf.ensures (ap (map (strip_last 10)) c.in-Some.ensures.line) in
    let piece : c.bytes.result.now ≡ flat_text c.in-Some-take_line.row = c.bytes.ensures.value ∙ c.put_row.ensures in
    let row = subst (Appends (g.O.Sink.taken c.lines.out)
    (g.O.Sink.taken c.write_piece.new.sink)) piece c.in-Ok-write_piece.ensures.ok in
    record {
      left = rw add-one (wrote _ _ _ _ _ c.lines.invariant.left _ _
          (accepted_output _ _ _ _ _ _ _ first c.in-Some-take_line.ensures.accepted)
          (row_is_line c.in-Some-take_line.row) row);
      few = omega (arith, c.lines.invariant.few, c.in-Some.ensures.some, c.in-Some.ensures.whole);
      later = omega (arith, c.lines.invariant.later, c.write_piece.ensures.cause.later);
      due = λ is. cc;
      untouched = λ none. absurd (row_some c.in-Some-take_line.row (first_empty _ _ _ _ c.lines.invariant.left _ _
          (accepted_output _ _ _ _ _ _ _ first c.in-Some-take_line.ensures.accepted) none));
    }

pub returns-in_default-write_piece-clause-answer : goal.returns-in_default-write_piece-clause-answer
returns-in_default-write_piece-clause-answer g c =
    let first : lines_of c.lines.rest.now ≡ c.without_lf.result.now ∷ lines_of c.in-Some.after.now =
    rw c.without_lf.ensures (ap (map (strip_last 10)) c.in-Some.ensures.line) in
    let piece : c.bytes.result.now ≡ flat_text c.in-Some-take_line.row = c.bytes.ensures.value ∙ c.put_row.ensures in
    let part = subst (AppendsPart (g.O.Sink.taken c.lines.out)
    (g.O.Sink.taken c.write_piece.new.sink)) piece c.in_default-write_piece.ensures.err in
    wrote_part _ _ _ _ _ c.lines.invariant.left _ _
    (accepted_output _ _ _ _ _ _ _ first c.in-Some-take_line.ensures.accepted) part

pub returns-in_default-write_piece-clause-untouched : goal.returns-in_default-write_piece-clause-untouched
returns-in_default-write_piece-clause-untouched g c none =
    let first : lines_of c.lines.rest.now ≡ c.without_lf.result.now ∷ lines_of c.in-Some.after.now =
    rw c.without_lf.ensures (ap (map (strip_last 10)) c.in-Some.ensures.line) in
    absurd (row_some c.in-Some-take_line.row (first_empty _ _ _ _ c.lines.invariant.left _ _
    (accepted_output _ _ _ _ _ _ _ first c.in-Some-take_line.ensures.accepted) none))
