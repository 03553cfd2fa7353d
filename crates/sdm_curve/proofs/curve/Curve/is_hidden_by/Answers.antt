-- The levels that are read are those of both curves in the band of the foot speed, which the curve keeps.
use Rattle.std.proofs.Common.{◌≡◌, ap, arith, refl, ◌∙◌}
use Rattle.std.proofs.lemmas.Int.{ints}
use Rattle.std.proofs.lemmas.List.{get_or_default}
use Rattle.sdm_rules.specs.Slopes.{meaning_of}
use Rattle.sdm_curve.specs.Made.{BrakeCurve, knot_of, no_knot}
use Rattle.sdm_curve.proofs.KnotOrder.{level_order}
use Rattle.sdm_curve.proofs.Wide.{wide}
use Rattle.sdm_curve.proofs.curve.Curve.is_hidden_by.Goals as goal

pub returns : goal.returns
returns c =
    let one = c.args.self.now in
    let other = c.args.other.now in
    let own = c.requires.made.own in
    let band = c.from-band.ensures ∙ ap (λ (f : BrakeCurve). f.band) c.self.view_is in
    let knots = ap (λ (f : BrakeCurve). f.knots) c.self.view_is in
    let knots' = ap (λ (f : BrakeCurve). f.knots) c.other.view_is in
    let read = get_or_default one.knots one.band c.index-self-band.result no_knot
    (omega (arith, c.requires.made.room, own.known)) in
    let read' = get_or_default other.knots one.band c.index-other-band.result no_knot
    (omega (arith, c.requires.other.room, own.known)) in
    let here : c.level-2.result ≡ (knot_of one one.band).level =
    c.level-2.ensures.value ∙ rw (knots, band, read) refl in
    let there : c.level.result ≡ (knot_of other one.band).level =
    c.level.ensures.value ∙ rw (knots', band, read') refl in
    record {
      hidden = rw (
        wide c.level.result (record {
          low = omega (arith, ints, c.level.ensures.range);
          high = omega (arith, ints, c.level.ensures.range);
        }),
        wide c.level-2.result (record {
          low = omega (arith, ints, c.level-2.ensures.range);
          high = omega (arith, ints, c.level-2.ensures.range);
        }),
        here,
        there,
      )
          (level_order (meaning_of c.args.map.now) one other one.band c.bands.ensures.usable c.requires.made
          c.requires.other own);
    }
