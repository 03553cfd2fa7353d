-- Each step goes to what hides the curve that was looked at; the last one hides this curve, or the row ends. Curves may
-- still be passed over at least as often as curves and steps are left, so that no search ends early.
use Rattle.std.proofs.Common.{◌≡◌, ◌+◌, ◌-◌, ◌<◌, length, slice_index, arith, refl, suc, sym, ◌∙◌}
use Rattle.std.proofs.lemmas.List.{length-set}
use Rattle.sdm_hiding.proofs.FootLaws.{foot_at, stands_at}
use Rattle.sdm_hiding.proofs.HiddenLaws.{clear_further, hidden_after, known_more, step_is}
use Rattle.sdm_hiding.proofs.StepLaws.{at_end, one_less, one_more}
use Rattle.sdm_hiding.proofs.hidden.hide.Goals as goal
use Rattle.sdm_hiding.proofs.hidden.hide.Goals.{then-further-test+then-passes-gt0+else-not-hides}
use Rattle.sdm_hiding.proofs.hidden.hide.Goals.{then-further-test+else-passes-gt0, else-further-test}

pub each-init : goal.each-init
each-init g c = record {
  hidden = λ i f from at. (let known = at.known in absurd (omega (arith, from, known, c.len-count.ensures)));
  room = refl;
  steps_left = 0;
  lead = at_end c.args.steps.now c.len-count.result;
  suffice = omega arith;
}

pub further-preserved : goal.further-preserved
further-preserved g c =
    let on = g.F.Feet.on c.args.feet.now in
    let feet = g.F.Feet.feet c.args.feet.now in
    let i = c.each.i - 1 in
    let steps = c.each.steps in
    let count = c.len-count.result in
    let k = c.further.k in
    let s = slice_index steps k in
    let so_far = c.further.invariant in
    let inside : k < count = omega (arith, c.further-test.true) in
    let there = stands_at feet k (omega (arith, inside, c.len-count.ensures)) in
    let begun = so_far.clear.begun in
    let h = c.each.invariant.hidden k (foot_at feet k) (omega (arith, begun, c.each-test.true)) there in
    let step = step_is k s count c.hider-k.result c.hider-k.ensures h.some inside in
    let rest = one_less steps count k so_far.steps_left inside so_far.lead in
    record {
      clear = clear_further on c.requires.usable feet c.requires.order i k s c.hider-k.result (foot_at feet k)
          so_far.clear there (λ f at. sym (c.hides.ensures (foot_at feet k) f there at) ∙ c.if-not-hides.true) h
          step.further step.within;
      inside = step.inside;
      steps_left = rest.0;
      lead = rw c.hider-k.ensures rest.2;
      suffice = omega (arith, so_far.suffice, rest.1);
    }

pub each-preserved : goal.each-preserved
each-preserved g c =
    let on = g.F.Feet.on c.args.feet.now in
    let feet = g.F.Feet.feet c.args.feet.now in
    let i = c.each.i - 1 in
    let steps = c.each.steps in
    let count = c.len-count.result in
    let k = c.further.k in
    let before = c.each.invariant in
    let so_far = c.further.invariant in
    let begun = so_far.clear.begun in
    let next : i + 1 ≡ c.each.i = omega (arith, c.each-test.true) in
    let known : i < length steps =
    omega (arith, c.each-test.true, c.each.auto.i, before.room, c.requires.room, c.len-count.ensures) in
    record {
      hidden = known_more on feet steps i (k - i) known (rw next before.hidden)
          (λ f at. hidden_after on feet i k f so_far.clear at (λ h there. elim c.further-test.branch [
            | then-further-test+then-passes-gt0+else-not-hides w ↦
                sym (w.hides.ensures h f there at) ∙ w.if-not-hides.false
            | then-further-test+else-passes-gt0 w ↦
                absurd (omega (arith, w.if-passes-gt0.false, so_far.suffice))
            | else-further-test w ↦ (let inside = there.known in
                absurd (omega (arith, w.further-test.false, inside, c.len-count.ensures)))
          ]));
      room = length-set steps i (k - i) ∙ before.room;
      steps_left = suc so_far.steps_left;
      lead = one_more steps count i k so_far.steps_left known begun so_far.inside so_far.lead;
      suffice = omega (arith, so_far.suffice);
    }

pub returns-clause-hidden : goal.returns-clause-hidden
returns-clause-hidden g c = λ i f from at. c.each.invariant.hidden i f (omega (arith, c.each-test.false)) at
