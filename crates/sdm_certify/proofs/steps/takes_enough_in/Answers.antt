use Rattle.std.proofs.Common.{rules}
use Rattle.std.proofs.lemmas.Bool.{eqb-true, eq-eqb}
use Rattle.sdm_certify.proofs.Ways.{stays, stays_out, all_have, takes_out, takes_of}
use Rattle.sdm_certify.proofs.steps.takes_enough_in.Goals as goal

pub returns-in_default : goal.returns-in_default
returns-in_default c = let is = c.stretch_of-stretch.ensures in (
  (λ t. stays c.args.map.now c.args.band c.args.from.now c.args.to.now _ _ is.from is.to
      c.first_met.ensures.rising c.in_default.ensures.met c.requires.forward (eqb-true _ _ t)),
  (λ h. eq-eqb _ _ (stays_out c.args.map.now c.args.band c.args.from.now c.args.to.now _ _ is.from
      is.to c.first_met.ensures.rising c.in_default.ensures.met c.requires.forward c.requires.falls h)),
)

pub returns-then-not-have_slope : goal.returns-then-not-have_slope
returns-then-not-have_slope c = let is = c.stretch_of-stretch.ensures in (
  (λ t. absurd (search (rules, t))),
  (λ h. let t = c.have_slope.ensures.1 (all_have c.args.map.now c.args.band c.args.from.now c.args.to.now _ _
      is.from is.to c.first_met.ensures.rising c.in-Some.i _
      c.natural_slope-slope.ensures.value c.in-Some.ensures.met h) in cc),
)

pub returns : goal.returns
returns c = let is = c.stretch_of-stretch.ensures in (
  (λ t. takes_of c.args.map.now c.args.band c.args.from.now c.args.to.now _ _ is.from is.to
      c.first_met.ensures.rising c.in-Some.i _ c.natural_slope-slope.ensures.value
      (c.have_slope.ensures.0 c.if-not-have_slope.false) (c.takes_enough.ensures.0 t)),
  (λ h. c.takes_enough.ensures.1 (takes_out c.args.map.now c.args.band c.args.from.now c.args.to.now _ _
      is.from is.to c.first_met.ensures.rising c.in-Some.i c.in-Some.ensures.met h)),
)
