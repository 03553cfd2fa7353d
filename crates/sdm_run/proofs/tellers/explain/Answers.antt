-- The line of causes, or a part of it, is what `why` tells of the turn.
use Rattle.std.proofs.Common.{ap, subst}
use Rattle.std.specs.Io.KnownBytes.{Appends}
use Rattle.sdm_io.specs.Told.{AppendsPart}
use Rattle.sdm_causes.specs.Text.{causes_text}
use Rattle.sdm_run.proofs.CertifyTexts.{explained_told, told_in_part}
use Rattle.sdm_run.proofs.tellers.explain.Goals as goal

pub returns-in-Ok-clause-told : goal.returns-in-Ok-clause-told
returns-in-Ok-clause-told g c row before row_is after_is = (
  _,
  explained_told before c.args.reading.now c.args.after.now,
  subst (Appends _ _) (ap causes_text c.causes.ensures) c.in-Ok.ensures.ok,
)

pub returns-in-Err-clause-told : goal.returns-in-Err-clause-told
returns-in-Err-clause-told g c row before row_is after_is more end =
    rw c.new.ensures (told_in_part _ _ _ _ (explained_told before c.args.reading.now c.args.after.now) _ _
    (subst (AppendsPart _ _) (ap causes_text c.causes.ensures) c.in-Err.ensures.err) more end)
