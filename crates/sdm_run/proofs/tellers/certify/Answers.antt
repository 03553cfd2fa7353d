-- The certificate of a covered reading, where one is due and it has one.
use Rattle.std.proofs.Common.{◌≡◌, ◌<◌, true, [], ap, sym, ◌∙◌, arith}
use Rattle.std.proofs.lemmas.Grind.{common_steps}
use Rattle.std.proofs.KnownBytes.{Appends-nil}
use Rattle.sdm_rules.specs.declared.rows.Row.{Row}
use Rattle.sdm_certify.specs.WrittenLines.{marked_claim_text}
use Rattle.sdm_run.proofs.CertifyTexts.{certified, outside, told_in_part}
use Rattle.sdm_run.proofs.tellers.certify.Goals as goal

pub returns-in-Ok-None-clause-told : goal.returns-in-Ok-None-clause-told
returns-in-Ok-None-clause-told g c before row_is after_is = (
  [],
  outside before c.args.reading.now c.args.after.now c.args.left after_is
      (rw c.in-Ok-None.field-0-is at c.in-Ok-None.ensures),
  Appends-nil _,
)

pub returns-in-Ok-clause-told : goal.returns-in-Ok-clause-told
returns-in-Ok-clause-told g c before row_is after_is =
    let found = c.in-Ok-Some.certificate in
    let row : c.args.row.now.covered ≡ true = grind (arith, common_steps) in
    let covered = ap (λ (x : Row). x.covered) (sym row_is) ∙ row in
    let due : 0 < c.args.left = omega arith in (
      marked_claim_text found.claim found.marks,
      certified before c.args.reading.now c.args.after.now c.args.left after_is found due covered
          (rw c.in-Ok-Some.field-0-is at c.in-Ok-Some.ensures),
      c.in-Ok.ensures.ok,
    )

pub returns-in-Ok-Some-clause-told : goal.returns-in-Ok-Some-clause-told
returns-in-Ok-Some-clause-told g c before row_is after_is more end =
    let found = c.in-Ok-Some.certificate in
    let row : c.args.row.now.covered ≡ true = grind (arith, common_steps) in
    let covered = ap (λ (x : Row). x.covered) (sym row_is) ∙ row in
    let due : 0 < c.args.left = omega arith in
    rw c.new.ensures (told_in_part _ _ _ _ (certified before c.args.reading.now c.args.after.now c.args.left after_is
    found due covered (rw c.in-Ok-Some.field-0-is at c.in-Ok-Some.ensures)) _ _
    c.in-Err-write_certificate.ensures.err more end)
