-- The first comma ends the first field; a line with none is one field.
use Rattle.std.proofs.Common.{◌≡◌, ◌+◌, ◌-◌, length, length-drop, take, drop, arith}
use Rattle.std.proofs.lemmas.List.{take_all}
use Rattle.sdm_text.proofs.FirstPieces.{found_field, one_field}
use Rattle.sdm_text.proofs.lines.split_field.Goals as goal

pub returns-then-byte-eq44-clause-field : goal.returns-then-byte-eq44-clause-field
returns-then-byte-eq44-clause-field c =
    let line = c.args.line.now in
    let next = c.loop-at.at + 1 in
    let rest : take (length line - next) (drop next line)
    ≡ drop next line = take_all _ _ (omega (arith, length-drop next line)) in
    rw rest (found_field line c.loop-at.at c.loop-at-test.true c.if-byte-eq44.true c.loop-at.invariant)

pub returns-clause-none : goal.returns-clause-none
returns-clause-none c = one_field c.args.line.now (λ k lt. c.loop-at.invariant k (omega arith))
