-- One line more, or a part of it.
use Rattle.std.proofs.Common.{◌≡◌, ◌+◌, ◌<◌, ◌∙◌, length, drop, suc, take, get_or, [], sym, subst, arith}
use Rattle.std.proofs.KnownBytes.{Appends-trans}
use Rattle.std.specs.Io.KnownBytes.{Appends}
use Rattle.sdm_io.specs.Told.{AppendsPart}
use Rattle.sdm_certify.specs.WrittenLines.{text_of_lines, written_lines}
use Rattle.sdm_run.proofs.CertifyLines.{on_err, part_after, text_at, text_more}
use Rattle.sdm_run.proofs.certify_texts.write_map.Goals as goal

pub returns-in_err-write_piece-clause-err : goal.returns-in_err-write_piece-clause-err
returns-in_err-write_piece-clause-err g c =
    let lines = written_lines c.args.map.now in
    let i = c.loop-i.i in
    let known : i < length lines = omega (arith, c.map_lines-i-end.ensures.count) in
    on_err c.from_residual.result _ (part_after _ _ _ (text_of_lines lines) (text_of_lines (take i lines))
    (get_or lines i []) (text_of_lines (drop (suc i) lines)) (text_at lines i known) c.loop-i.invariant.written
    (subst (AppendsPart _ _) (c.bytes.ensures.value ∙ c.map_line.ensures) c.in_err-write_piece.ensures.err))

pub loop-i-preserved : goal.loop-i-preserved
loop-i-preserved g c =
    let lines = written_lines c.args.map.now in
    let i = c.loop-i.i in
    let known : i < length lines = omega (arith, c.map_lines-i-end.ensures.count) in
    let one : i + 1 ≡ suc i = omega arith in
    record {
      written = subst (Appends _ _) (sym (rw one (text_more lines i known)))
          (Appends-trans _ _ _ (text_of_lines (take i lines)) (get_or lines i []) c.loop-i.invariant.written
          (subst (Appends _ _) (c.bytes.ensures.value ∙ c.map_line.ensures) c.in_ok-write_piece.ensures.ok));
      later = omega (arith, c.loop-i.invariant.later, c.write_piece.ensures.cause.later);
    }
