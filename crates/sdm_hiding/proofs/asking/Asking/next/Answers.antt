-- A curve is passed over, or jumped from, or asked: then the walk ends with it, or goes on to slower ones alone.
use Rattle.std.proofs.Common.{◌≡◌, ◌+◌, ◌<◌, ◌≤◌, length, slice_index, arith}
use Rattle.std.proofs.lemmas.Bool.Decides.{nat_tests}
use Rattle.sdm_hiding.proofs.FootLaws.{foot_at, stands_at}
use Rattle.sdm_hiding.proofs.HiddenLaws.{step_is}
use Rattle.sdm_hiding.proofs.WalkLaws.{all_done, ask, jump, last, skip}
use Rattle.sdm_hiding.proofs.asking.Asking.next.Goals as goal

pub row-preserved-then-notches-self : goal.row-preserved-then-notches-self
row-preserved-then-notches-self g c = (
  omega (arith, c.row.invariant.0),
  λ margin bec asked is fast h.
      skip (g.F.Feet.on c.args.feet.now) (g.F.Feet.feet c.args.feet.now) margin c.args.v bec is c.requires.usable asked
      c.row.self.at c.row.self.slowest c.foot-foot.result c.foot-foot.ensures
      (c.row.invariant.1 margin bec asked is fast h) (omega (arith, c.notches.ensures.value, c.if-notches-self.true)),
)

pub returns-then-le-clause-further : goal.returns-then-le-clause-further
returns-then-le-clause-further g c = (c.row.invariant.0, c.foot-foot.ensures.known, omega arith)

pub returns-then-le-clause-asks : goal.returns-then-le-clause-asks
returns-then-le-clause-asks g c margin bec asked is fast h =
    let v = c.args.v in
    let foot = c.foot-foot.result in
    let not_slow : v ≤ foot.speed = grind (arith, nat_tests) in
    rw c.notches-self.ensures.value (ask (g.F.Feet.on c.args.feet.now) (g.F.Feet.feet c.args.feet.now) margin v bec is
    c.requires.usable asked c.row.self.at c.row.self.slowest foot c.foot-foot.ensures
    (c.row.invariant.1 margin bec asked is fast h)
    (omega (arith, c.notches.ensures.value, c.if-notches-self.false)) not_slow)

pub returns-then-self-count-clause-further : goal.returns-then-self-count-clause-further
returns-then-self-count-clause-further g c =
    let i = c.row.self.at in
    let hidden = c.requires.hidden i c.foot-foot.result (omega arith) c.foot-foot.ensures in
    let step = step_is i (slice_index c.args.steps.now i) c.len-count.result c.hider-self.result c.hider-self.ensures
    hidden.some (omega (arith, c.row-test.true)) in
    (c.row.invariant.0, c.foot-foot.ensures.known, step.further)

pub returns-then-self-count-clause-asks : goal.returns-then-self-count-clause-asks
returns-then-self-count-clause-asks g c margin bec asked is fast h =
    let feet = g.F.Feet.feet c.args.feet.now in
    let v = c.args.v in
    let i = c.row.self.at in
    let foot = c.foot-foot.result in
    let s = slice_index c.args.steps.now i in
    let slow : foot.speed < v = grind (arith, nat_tests) in
    let hidden = c.requires.hidden i foot (omega arith) c.foot-foot.ensures in
    let step = step_is i s c.len-count.result c.hider-self.result c.hider-self.ensures hidden.some
    (omega (arith, c.row-test.true)) in
    let end : c.hider-self.result ≡ length feet = omega (arith, c.if-self-count.true, c.len-count.ensures) in
    let past = step.past (omega (arith, c.if-self-count.true)) in
    rw end (last (g.F.Feet.on c.args.feet.now) feet margin v bec is c.requires.usable asked i c.row.self.slowest foot
    c.foot-foot.ensures (c.row.invariant.1 margin bec asked is fast h) fast slow s hidden
    (omega (arith, c.notches.ensures.value, c.if-notches-self.false))
    (omega (arith, past, c.len-count.ensures)))

pub row-smaller : goal.row-smaller
row-smaller g c =
    let i = c.row.self.at in
    let hidden = c.requires.hidden i c.foot-foot.result (omega arith) c.foot-foot.ensures in
    let step = step_is i (slice_index c.args.steps.now i) c.len-count.result c.hider-self.result c.hider-self.ensures
    hidden.some (omega (arith, c.row-test.true)) in
    omega (arith, step.further, c.row-test.true)

pub row-preserved : goal.row-preserved
row-preserved g c =
    let feet = g.F.Feet.feet c.args.feet.now in
    let v = c.args.v in
    let i = c.row.self.at in
    let foot = c.foot-foot.result in
    let s = slice_index c.args.steps.now i in
    let slow : foot.speed < v = grind (arith, nat_tests) in
    let hidden = c.requires.hidden i foot (omega arith) c.foot-foot.ensures in
    let step = step_is i s c.len-count.result c.hider-self.result c.hider-self.ensures hidden.some
    (omega (arith, c.row-test.true)) in
    let further = step.further in
    let inside : c.hider-self.result < c.len-count.result = omega (arith, c.if-self-count.false, step.inside) in
    let to = step.there inside in
    let there = stands_at feet (i + s) (omega (arith, to, inside, c.len-count.ensures)) in (
      omega (arith, further, c.row.invariant.0),
      λ margin bec asked is fast h.
          rw to (jump (g.F.Feet.on c.args.feet.now) feet margin v bec is c.requires.usable asked i c.row.self.slowest foot
          c.foot-foot.ensures (c.row.invariant.1 margin bec asked is fast h) fast slow s hidden (foot_at feet (i + s)) there),
    )

pub returns-clause-asks : goal.returns-clause-asks
returns-clause-asks g c margin bec asked is fast h =
    all_done (g.F.Feet.on c.args.feet.now) (g.F.Feet.feet c.args.feet.now) margin c.args.v bec asked c.row.self
    (c.row.invariant.1 margin bec asked is fast h) (omega (arith, c.row-test.false, c.len-count.ensures))
