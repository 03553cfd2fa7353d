-- One mark more, or a part of its line.
use Rattle.std.proofs.Common.{◌≡◌, pos, List, ◌+◌, ◌<◌, ◌++◌, ◌∙◌, length, drop, suc, take, map, get_or, [], ap, sym}
use Rattle.std.proofs.Common.{subst, arith, append_assoc}
use Rattle.std.proofs.lemmas.List.{get_or-map, length-map}
use Rattle.std.proofs.KnownBytes.{Appends-trans}
use Rattle.std.specs.Io.KnownBytes.{Appends}
use Rattle.sdm_io.specs.Told.{AppendsPart}
use Rattle.sdm_rules.specs.declared.certificates.Mark.{Mark}
use Rattle.sdm_certify.specs.WrittenLines.{claim_text, mark_text, text_of_lines}
use Rattle.sdm_run.proofs.CertifyLines.{on_err, part_after, text_at, text_more}
use Rattle.sdm_run.proofs.certify_texts.write_certificate.Goals as goal

pub returns-in_err-write_piece-2-clause-err : goal.returns-in_err-write_piece-2-clause-err
returns-in_err-write_piece-2-clause-err g c =
    let marks = c.args.certificate.now.marks in
    let claim = claim_text c.args.certificate.now.claim (length marks) in
    let lines = map mark_text marks in
    let i = c.loop-mark.mark-index in
    let same : c.get-marks.result.now ≡ marks = c.get-marks.ensures.value in
    let count : length c.get-marks.result.now ≡ length marks = ap length same in
    let here : i < length marks = omega (arith, count, c.loop-mark-test.true) in
    let known : i < length lines = omega (arith, here, length-map marks mark_text) in
    let none : Mark = record { place = pos 0; energy = 0 } in
    let text = c.bytes-in-loop-mark.ensures.value ∙ c.mark_line.ensures.text
    ∙ ap (λ (ms : List Mark). mark_text (get_or ms i none)) same ∙ sym (get_or-map mark_text marks i none [] here) in
    on_err c.from_residual-in_err-write_piece-2.result _
    (part_after _ _ _ (claim ++ text_of_lines lines) (claim ++ text_of_lines (take i lines))
    (get_or lines i []) (text_of_lines (drop (suc i) lines))
    (ap (λ t. claim ++ t) (text_at lines i known) ∙ sym (append_assoc claim (text_of_lines (take i lines)) _))
    c.loop-mark.invariant.written (subst (AppendsPart _ _) text c.in_err-write_piece-2.ensures.err))

pub loop-mark-preserved : goal.loop-mark-preserved
loop-mark-preserved g c =
    let marks = c.args.certificate.now.marks in
    let claim = claim_text c.args.certificate.now.claim (length marks) in
    let lines = map mark_text marks in
    let i = c.loop-mark.mark-index in
    let same : c.get-marks.result.now ≡ marks = c.get-marks.ensures.value in
    let count : length c.get-marks.result.now ≡ length marks = ap length same in
    let here : i < length marks = omega (arith, count, c.loop-mark-test.true) in
    let known : i < length lines = omega (arith, here, length-map marks mark_text) in
    let none : Mark = record { place = pos 0; energy = 0 } in
    let text = c.bytes-in-loop-mark.ensures.value ∙ c.mark_line.ensures.text
    ∙ ap (λ (ms : List Mark). mark_text (get_or ms i none)) same ∙ sym (get_or-map mark_text marks i none [] here) in
    let one : i + 1 ≡ suc i = omega arith in
    record {
      written = subst (Appends _ _) (append_assoc claim (text_of_lines (take i lines)) (get_or lines i [])
          ∙ ap (λ t. claim ++ t) (sym (rw one (text_more lines i known))))
          (Appends-trans _ _ _ (claim ++ text_of_lines (take i lines)) (get_or lines i [])
          c.loop-mark.invariant.written (subst (Appends _ _) text c.in_ok-write_piece-2.ensures.ok));
      later = omega (arith, c.loop-mark.invariant.later, c.write_piece-in-loop-mark.ensures.cause.later);
    }
