-- One step more that is covered is capped; the others stay.
use Rattle.std.proofs.Common.{◌≡◌, ◌<◌, length, get_or, refl, sym, ap, ◌∙◌, add-one, arith}
use Rattle.sdm_rules.specs.Profile.{Zone}
use Rattle.sdm_speed.specs.declared.steps.Step.{Step}
use Rattle.sdm_speed.specs.Steps.{capped_step}
use Rattle.sdm_speed.proofs.CapLaws.{prefix_stays, rest_stays, lowered_is, one_more, not_yet, stays}
use Rattle.sdm_speed.proofs.StepLaws.{set_rising}
use Rattle.sdm_speed.proofs.steps.Steps.cap.Goals as goal

pub loop-i-init : goal.loop-i-init
loop-i-init c = record {
  before = refl;
  list = sym (prefix_stays (capped_step c.args.zone) c.args.self.now.list.items c.args.covered.from
      (λ k d l m. stays c.args.zone _ (c.requires.before k d l m)));
  len = refl;
  room = refl;
}

pub invariant_of-self-in-loop-i : goal.invariant_of-self-in-loop-i
invariant_of-self-in-loop-i c =
    let start_is = ap (λ (s : Step). s.start) (c.lowered.ensures) ∙ ap (λ (s : Step). s.start) c.index.ensures in
    record {
      rises = set_rising c.loop-i.self.list.items c.loop-i.i c.lowered.result c.index.result.now start_is
          c.loop-i.self.rises;
    }

pub loop-i-preserved : goal.loop-i-preserved
loop-i-preserved c =
    let zone = c.args.zone in
    let steps = c.args.self.now.list.items in
    let step = c.index.result.now in
    let i = c.loop-i.i in
    let inv = c.loop-i.invariant in
    let covered = c.requires in
    let known : i < length steps = omega (arith, covered.bound) in
    let read : step ≡ get_or steps i step = (rw inv.list at c.index.ensures)
    ∙ not_yet (capped_step zone) steps i step known in
    let limit_is = ap (λ (z : Zone). z.limit) c.zone.view_is in
    let on = rw (← read) at (covered.within i step c.loop-i.auto.i c.loop-i-test.true) in
    let capped : c.lowered.result ≡ capped_step zone (get_or steps i step) = (rw limit_is at c.lowered.ensures)
    ∙ lowered_is zone step on ∙ ap (capped_step zone) read in
    record {
      before = inv.before;
      list = rw (inv.list, capped, add-one) (one_more (capped_step zone) steps i step known);
      len = inv.len;
      room = inv.room;
    }

pub returns-clause-list : goal.returns-clause-list
returns-clause-list c =
    c.loop-i.invariant.list ∙ rest_stays (capped_step c.args.zone) c.args.self.now.list.items c.loop-i.i
    (λ k d l m. stays c.args.zone _ (c.requires.past k d (omega (arith, c.loop-i-test.false)) m))
