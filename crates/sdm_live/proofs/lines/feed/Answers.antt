-- What one byte does follows what the bytes before it did.
use Rattle.std.proofs.Common.{◌∷◌, [], ◌+◌, drop, get_or}
use Rattle.std.proofs.lemmas.List.{drop_more}
use Rattle.sdm_live.specs.Taken.{IsTakenPart}
use Rattle.sdm_live.proofs.Along.{along_then}
use Rattle.sdm_live.proofs.Taking.{IsTakenOn, feed_part, on_err_of}
use Rattle.sdm_live.proofs.lines.feed.Goals as goal

pub returns-in_err-take_byte-clause-err : goal.returns-in_err-take_byte-clause-err
returns-in_err-take_byte-clause-err g c =
    let rules = g.S.Step.rules in
    let first = c.args.step.now in
    let begun = c.args.line.now in
    let bytes = c.args.piece.now in
    let i = c.loop-byte.byte-index in
    let b = get_or bytes i 0 in
    let state = c.loop-byte.step in
    let line = c.loop-byte.line in
    on_err_of _ (along_then _ _ _ (IsTakenOn rules first begun bytes state line (drop i bytes))
    (IsTakenPart rules state line (b ∷ [])) (IsTakenPart rules first begun bytes)
    (λ h k l p q. feed_part rules first state begun line bytes (drop (i + 1) bytes) (drop i bytes) b
    (drop_more bytes i 0 c.loop-byte-test.true) h k l p q)
    c.loop-byte.invariant.along c.in_err-take_byte.ensures.err)
