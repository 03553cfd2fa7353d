-- Each turn of the loop puts the marks of a band that the speed is above.
use Rattle.std.proofs.Common.{◌≡◌, List, ◌∷◌, [], ◌++◌, ap, refl, arith, ◌∙◌}
use Rattle.sdm_rules.specs.declared.certificates.Mark.{Mark}
use Rattle.sdm_rules.specs.Slopes.{meaning_of}
use Rattle.sdm_certify.proofs.Bands.{knot_at, lower_below, up_apart, up_end, up_next, up_none}
use Rattle.sdm_certify.proofs.made.marks_back.Goals as goal

pub returns-then-notches-eq0-clause-value : goal.returns-then-notches-eq0-clause-value
returns-then-notches-eq0-clause-value c =
    up_none _ c.args.svl c.args.speed c.knot-next.result _
    (knot_at _ _ _ _ _ _ c.knot-next.ensures.value c.from_foot-curve.ensures.place c.new-2.ensures) (omega arith)
    (c.in_ok-push.ensures.items ∙ ap (λ (ys : List Mark). ys ++ (c.knot-next.result ∷ [])) c.new-marks.ensures.items)

pub put_band-requires-clause-forward : goal.put_band-requires-clause-forward
put_band-requires-clause-forward c =
    up_apart _ c.args.svl c.args.speed c.loop-band.band c.args.speed c.knot.result c.loop-band.next _
    c.knot-next.ensures.usable c.loop-band.invariant.up.faster (λ _. omega arith)
    (knot_at _ _ _ _ _ _ c.knot.ensures.value c.from_foot-curve.ensures.place refl) c.loop-band.invariant.up

pub returns-then-notches-clause-value : goal.returns-then-notches-clause-value
returns-then-notches-clause-value c =
    up_end _ c.args.svl c.args.speed c.loop-band.band c.knot.result c.loop-band.next _ _ c.knot-next.ensures.usable
    (λ _. omega arith) (knot_at _ _ _ _ _ _ c.knot.ensures.value c.from_foot-curve.ensures.place refl)
    c.in_ok-put_band.ensures.value c.loop-band.invariant.up

pub put_band-requires-in-loop-band-clause-forward : goal.put_band-requires-in-loop-band-clause-forward
put_band-requires-in-loop-band-clause-forward c =
    let lower = lower_below (meaning_of c.args.map.now) c.loop-band.band c.borders-last.ensures.uppers (omega arith) in
    up_apart _ c.args.svl c.args.speed c.loop-band.band c.upper-upper.result c.knot-here.result c.loop-band.next _
    c.knot-next.ensures.usable (omega (arith, lower, c.upper-upper.ensures)) (λ _. omega arith)
    (knot_at _ _ _ _ _ _ c.knot-here.ensures.value c.from_foot-curve.ensures.place refl) c.loop-band.invariant.up

pub loop-band-preserved : goal.loop-band-preserved
loop-band-preserved c =
    let lower = lower_below (meaning_of c.args.map.now) c.loop-band.band c.borders-last.ensures.uppers (omega arith) in
    record {
      up = up_next _ c.args.svl c.args.speed c.loop-band.band c.upper-upper.result c.knot-here.result
          c.loop-band.next _ _ (omega arith) c.upper-upper.ensures (omega (arith, lower, c.upper-upper.ensures))
          (omega arith) (knot_at _ _ _ _ _ _ c.knot-here.ensures.value c.from_foot-curve.ensures.place refl)
          c.in_ok-from.ensures.value c.loop-band.invariant.up;
      range = c.knot-here.ensures.range;
      from = c.in_ok-from.ensures.left.known;
      later = c.in_ok-from.ensures.left.later;
      few = omega (arith, c.in_ok-from.ensures.left.few, c.loop-band.invariant.few);
    }

pub put_band-requires-2-clause-forward : goal.put_band-requires-2-clause-forward
put_band-requires-2-clause-forward c =
    up_apart _ c.args.svl c.args.speed c.loop-band.band c.args.speed c.knot-2.result c.loop-band.next _
    c.knot-next.ensures.usable c.loop-band.invariant.up.faster (λ lt. absurd (omega arith))
    (knot_at _ _ _ _ _ _ c.knot-2.ensures.value c.from_foot-curve.ensures.place refl) c.loop-band.invariant.up

pub returns-clause-value : goal.returns-clause-value
returns-clause-value c =
    let same : c.loop-band.band ≡ c.borders-last.result = omega arith in
    up_end (meaning_of c.args.map.now) c.args.svl c.args.speed c.borders-last.result c.knot-2.result c.loop-band.next
    c.loop-band.marks.items _ c.knot-next.ensures.usable (λ lt. absurd (omega arith))
    (knot_at _ _ _ _ _ _ c.knot-2.ensures.value c.from_foot-curve.ensures.place refl) c.in_ok-put_band-2.ensures.value
    (rw same at c.loop-band.invariant.up)
