-- A cell that is not before the next entry's start is its first one.
use Rattle.std.proofs.Common.{◌≡◌, ◌+◌, ◌<◌, ◌-ℤ◌, pos, length, get_or, arith, rules, ◌∙◌}
use Rattle.std.proofs.lemmas.Int.{ints}
use Rattle.std.proofs.lemmas.List.{get_or_default}
use Rattle.sdm_track.specs.Sweeps.{level, gradient_start}
use Rattle.sdm_track.proofs.StepLaws.{lies_at_start}
use Rattle.sdm_track.proofs.sweep.entry_at.Goals as goal

pub returns-in-Some-clause-lies : goal.returns-in-Some-clause-lies
returns-in-Some-clause-lies c =
    let known : c.args.index + 1 < length c.args.entries.now = search rules in
    let found : c.in-Some.next.now ≡ get_or c.args.entries.now (c.args.index + 1) level =
    c.in-Some.ensures.lookup.1 ∙ get_or_default c.args.entries.now (c.args.index + 1) _ level known in
    let le = rw found at c.if-next-from.true in
    let next = c.requires.gradients.each (c.args.index + 1) level known in
    let up_to = c.requires.near.up_to known in
    lies_at_start gradient_start c.args.entries.now (c.args.index + 1) level (pos c.args.cell -ℤ pos c.args.back)
    c.requires.gradients.rise known (grind (arith, ints))
