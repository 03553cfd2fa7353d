-- The line of a reading, by what is told of it.
use Rattle.std.proofs.Common.{◌∙◌, subst}
use Rattle.std.specs.Io.KnownBytes.{Appends}
use Rattle.sdm_run.proofs.CertifyTexts.{row_told, shown_told}
use Rattle.sdm_run.proofs.tellers.Teller.tell.Goals as goal
use Rattle.sdm_run.proofs.tellers.Teller.tell.Goals.{in-Rows, in-Displays}

pub returns-in-Ok-clause-told : goal.returns-in-Ok-clause-told
returns-in-Ok-clause-told g c before row_is after_is = elim c.match-self.branch [
  | in-Rows w ↦ rw w.in-Rows.is (
    _,
    row_told before c.args.reading.now c.args.after.now c.args.row.now row_is,
    subst (Appends _ _) (c.bytes.ensures.value ∙ w.text-is ∙ w.row_bytes.ensures) c.in-Ok.ensures.ok,
  )
  | in-Displays w ↦ rw w.in-Displays.is (
    _,
    shown_told before c.args.reading.now c.args.after.now,
    subst (Appends _ _) (c.bytes.ensures.value ∙ w.text-is ∙ w.put_shown.ensures) c.in-Ok.ensures.ok,
  )
]
