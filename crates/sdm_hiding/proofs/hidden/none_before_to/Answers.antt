-- Up to what hides a curve each one further on is at or past it.
use Rattle.std.proofs.Common.{slice_index, arith}
use Rattle.sdm_hiding.proofs.FootLaws.{at_or_past, foot_at, stands_at}
use Rattle.sdm_hiding.proofs.HiddenLaws.{step_is}
use Rattle.sdm_hiding.proofs.hidden.none_before_to.Goals as goal

pub returns-clause-further : goal.returns-clause-further
returns-clause-further g c =
    let feet = g.F.Feet.feet c.args.feet.now in
    let i = c.args.i in
    let h = c.requires.hidden i (foot_at feet i) (omega arith) (stands_at feet i c.requires.known) in
    let step = step_is i (slice_index c.args.steps.now i) c.len.result c.hider.result c.hider.ensures h.some
    (omega (arith, c.requires.known, c.len.ensures)) in
    step.further

pub returns-clause-inside : goal.returns-clause-inside
returns-clause-inside g c =
    let feet = g.F.Feet.feet c.args.feet.now in
    let i = c.args.i in
    let h = c.requires.hidden i (foot_at feet i) (omega arith) (stands_at feet i c.requires.known) in
    let step = step_is i (slice_index c.args.steps.now i) c.len.result c.hider.result c.hider.ensures h.some
    (omega (arith, c.requires.known, c.len.ensures)) in
    let inside = step.inside in
    omega (arith, inside, c.len.ensures)

pub returns-clause-after : goal.returns-clause-after
returns-clause-after g c f at k v h past before there =
    let i = c.args.i in
    let hidden = c.requires.hidden i f (omega arith) at in
    let step = step_is i (slice_index c.args.steps.now i) c.len.result c.hider.result c.hider.ensures hidden.some
    (omega (arith, c.requires.known, c.len.ensures)) in
    let within = step.within in
    at_or_past (g.F.Feet.on c.args.feet.now) h f v c.requires.usable
    (c.requires.order i k f h (omega (arith, past)) at there)
    (hidden.clear k h past (omega (arith, before, within)) there)
