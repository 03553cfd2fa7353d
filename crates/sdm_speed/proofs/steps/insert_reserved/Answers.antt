-- It is put behind all; the later ones are moved up, and it is put into the gap.
use Rattle.std.proofs.Common.{◌≡◌, length, sym, ◌∙◌, arith}
use Rattle.std.proofs.lemmas.List.Edits.{insert_end}
use Rattle.sdm_speed.proofs.SplitLaws.{moved_up}
use Rattle.sdm_speed.proofs.steps.insert_reserved.Goals as goal

pub returns-then-i-len-clause-items : goal.returns-then-i-len-clause-items
returns-then-i-len-clause-items c =
    let whole = c.args.list.now.ok.0 in
    let all : c.len-len.result ≡ length c.args.list.now.items = omega (arith, c.len-len.ensures) in
    rw (c.copy_within.ensures.items, c.push_reserved.ensures.items, all)
    (moved_up c.args.step c.args.list.now.items c.args.i (omega (arith, c.requires.index)))

pub returns-else-i-len-clause-items : goal.returns-else-i-len-clause-items
returns-else-i-len-clause-items c =
    let whole = c.args.list.now.ok.0 in
    let last : c.args.i ≡ length c.args.list.now.items =
    omega (arith, c.len-len.ensures, c.requires.index, c.if-i-len.false) in
    rw last (c.push_reserved.ensures.items ∙ sym (insert_end c.args.list.now.items c.args.step))
