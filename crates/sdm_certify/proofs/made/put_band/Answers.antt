-- Each turn of the loop passes a segment that begins past the place, or goes back to where it begins.
use Rattle.std.proofs.Common.{refl, arith, sym, ◌∙◌}
use Rattle.std.proofs.lemmas.Int.{ints}
use Rattle.sdm_num.proofs.Comparisons.{lt_of}
use Rattle.sdm_certify.proofs.GoingBack.{back_begin, back_skip, back_pass, back_mark, back_end, back_left}
use Rattle.sdm_certify.proofs.made.put_band.Goals as goal
use Rattle.sdm_certify.proofs.made.put_band.Goals.{then-start-at+then-natural_slope+in_ok-push}
use Rattle.sdm_certify.proofs.made.put_band.Goals.{then-start-at+else-natural_slope, else-start-at}
use Rattle.sdm_certify.proofs.made.put_band.Goals.{then-loop-i-test+else-from-scaled_segment_start, else-loop-i-test}

pub loop-i-init : goal.loop-i-init
loop-i-init c = record {
  back = back_begin c.args.map.now c.args.band _ c.args.here c.args.next _ _ c.args.marks.now.items c.requires.from
      c.requires.later (omega (arith, ints)) refl c.requires.forward;
  behind = omega (arith, ints);
  ahead = omega (arith, ints);
}

pub loop-i-preserved : goal.loop-i-preserved
loop-i-preserved c =
    elim c.if-start-at.branch [
      | then-start-at+then-natural_slope+in_ok-push w ↦ record {
        back = rw (w.marks-is, w.at-is, w.energy-is, w.in_ok-push.ensures.items)
            (back_mark c.args.map.now c.args.band c.loop-i.i c.args.here c.args.next _ _ _ w.gap.result w.rate.result
            w.energy_before-energy.result _ _ _ c.requires.rising (omega arith) (omega (arith, ints))
            (omega (arith, ints)) w.gap.ensures.value (lt_of _ _ w.if-start-at.true) w.rate.ensures.value
            w.rate.ensures.small w.energy_before-energy.ensures c.loop-i.invariant.back w.mark_at.result
            (λ e. w.if-natural_slope.true
            (w.natural_slope.ensures.value ∙ (e ∙ sym w.natural_slope-then-start-at.ensures.value)))
            w.mark_at.ensures.place w.mark_at.ensures.energy);
        behind = rw w.at-is (omega (arith, ints));
        ahead = rw w.at-is (omega (arith, ints));
      }
      | then-start-at+else-natural_slope w ↦ record {
        back = rw (w.marks-is, w.at-is, w.energy-is)
            (back_pass c.args.map.now c.args.band c.loop-i.i c.args.here c.args.next _ _ _ w.gap.result w.rate.result
            w.energy_before-energy.result _ _ _ c.requires.rising (omega arith) (omega (arith, ints))
            (omega (arith, ints)) w.gap.ensures.value (lt_of _ _ w.if-start-at.true) w.rate.ensures.value
            w.rate.ensures.small w.energy_before-energy.ensures c.loop-i.invariant.back
            (sym w.natural_slope.ensures.value
            ∙ (w.if-natural_slope.false ∙ w.natural_slope-then-start-at.ensures.value)));
        behind = rw w.at-is (omega (arith, ints));
        ahead = rw w.at-is (omega (arith, ints));
      }
      | else-start-at w ↦ record {
        back = rw (w.marks-is, w.at-is, w.energy-is) (back_skip c.args.map.now c.args.band c.loop-i.i c.args.here
            c.args.next _ _ _ _ _ (omega (arith, ints)) c.loop-i.invariant.back);
        behind = rw w.at-is c.loop-i.invariant.behind;
        ahead = rw w.at-is c.loop-i.invariant.ahead;
      }
    ]

pub returns-clause-value : goal.returns-clause-value
returns-clause-value c =
    c.in_ok-push-2.ensures.items
    ∙ back_end c.args.map.now c.args.band c.loop-i.i c.args.here c.args.next _ _ _ _ _ c.requires.rising
    (elim c.loop-i-test.branch [
      | then-loop-i-test+else-from-scaled_segment_start w ↦ (λ some. omega (arith, ints))
      | else-loop-i-test w ↦ (λ some. absurd (omega arith))
    ]) c.loop-i.invariant.back

pub returns-clause-left : goal.returns-clause-left
returns-clause-left c = back_left c.args.map.now c.args.band c.loop-i.i c.args.here c.args.next _ _ _ _ _ _
    c.in_ok-push-2.ensures.items c.loop-i.invariant.back
