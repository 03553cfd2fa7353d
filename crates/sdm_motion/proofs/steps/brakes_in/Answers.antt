-- The stretch is that between the points, so what is found of its segments is what is asked of its cells.
use Rattle.std.proofs.Common.{rules, refl}
use Rattle.sdm_motion.proofs.OneSlope.{stays, all_have, brakes_out, brakes_of}
use Rattle.sdm_motion.proofs.steps.brakes_in.Goals as goal

pub returns-in_default : goal.returns-in_default
returns-in_default c =
    let is = c.stretch_of-stretch.ensures in
    let met = rw (is.from, is.to) at c.in_default.ensures.met in (
      (λ _. stays _ _ _ _ _ c.first_met.ensures.rising met c.requires.forward c.requires.slower),
      (λ _. refl),
    )

pub returns-then-not-have_slope : goal.returns-then-not-have_slope
returns-then-not-have_slope c =
    let is = c.stretch_of-stretch.ensures in
    let met = rw (is.from, is.to) at c.in-Some.ensures.met in
    let decides = rw (is.from, is.to) at c.have_slope.ensures in (
      (λ t. absurd (search (rules, t))),
      (λ h. let t = decides.1 (all_have _ _ _ c.in-Some.i _ _ _ c.natural_slope-slope.ensures.value c.requires.some
          c.first_met.ensures.rising met h) in cc),
    )

pub returns : goal.returns
returns c =
    let is = c.stretch_of-stretch.ensures in
    let met = rw (is.from, is.to) at c.in-Some.ensures.met in
    let decides = rw (is.from, is.to) at c.have_slope.ensures in (
      (λ t. brakes_of _ _ _ c.in-Some.i _ _ _ c.natural_slope-slope.ensures.value c.first_met.ensures.rising
          (decides.0 c.if-not-have_slope.false) (c.brakes.ensures.0 t)),
      (λ h. c.brakes.ensures.1
          (brakes_out _ _ _ c.in-Some.i _ _ c.requires.some c.first_met.ensures.rising met h)),
    )
