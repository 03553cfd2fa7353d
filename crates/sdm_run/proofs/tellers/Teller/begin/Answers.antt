-- The map of `certify` is that of the slopes of A_safe, and is read back as these. It has a text, so where nothing stands
-- before the records nothing is written.
use Rattle.std.proofs.Common.{[], ◌≡◌, subst}
use Rattle.std.specs.Io.KnownBytes.{Appends}
use Rattle.sdm_io.specs.Told.{AppendsPart}
use Rattle.sdm_run.specs.declared.tellers.Teller.{Teller}
use Rattle.sdm_run.specs.RunParts.{head_text}
use Rattle.sdm_run.proofs.CertifyLines.{map_some}
use Rattle.sdm_run.proofs.WrittenMaps.{safe_back, safe_is}
use Rattle.sdm_run.proofs.tellers.Teller.begin.Goals as goal

pub returns-in-Ok-clause-ok : goal.returns-in-Ok-clause-ok
returns-in-Ok-clause-ok g c = rw c.in-Certificates.is (subst (Appends _ _)
    (safe_is _ _ c.safe_map.ensures.slopes c.safe_map.ensures.segments) c.in-Ok.ensures.ok)

pub returns-in-Err-clause-err : goal.returns-in-Err-clause-err
returns-in-Err-clause-err g c = rw c.in-Certificates.is (subst (AppendsPart _ _)
    (safe_is _ _ c.safe_map.ensures.slopes c.safe_map.ensures.segments) c.in-Err.ensures.err)

pub returns-in-Ok-clause-read_back : goal.returns-in-Ok-clause-read_back
returns-in-Ok-clause-read_back g c = rw c.in-Certificates.is
    (safe_back _ _ c.safe_map.ensures.slopes c.safe_map.ensures.segments c.write_map.ensures.read_back)

pub returns-in-Ok-clause-headless : goal.returns-in-Ok-clause-headless
returns-in-Ok-clause-headless g c none =
    absurd (map_some c.args.supervisor.now.train_and_track (subst (λ (teller : Teller).
    head_text teller c.args.supervisor.now.train_and_track ≡ []) c.in-Certificates.is none))

pub returns-in-Err-clause-headless : goal.returns-in-Err-clause-headless
returns-in-Err-clause-headless g c none =
    absurd (map_some c.args.supervisor.now.train_and_track (subst (λ (teller : Teller).
    head_text teller c.args.supervisor.now.train_and_track ≡ []) c.in-Certificates.is none))
