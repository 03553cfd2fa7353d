use Rattle.std.proofs.Common.{rules, arith, ◌∙◌}
use Rattle.std.proofs.lemmas.Bool.{eqb-true, eq-eqb}
use Rattle.std.proofs.lemmas.Int.{ints}
use Rattle.sdm_motion.proofs.Firsts.{place_is, square_is, is_first_of}
use Rattle.sdm_motion.proofs.motion.is_first.Goals as goal

pub returns-then-point-from : goal.returns-then-point-from
returns-then-point-from c = (
  (λ t. absurd (search (rules, t))),
  (λ h. absurd (omega (arith, ints, place_is c.args.from c.args.speed c.args.slices.now c.args.point.now h))),
)

pub returns-then-distance_to-length_of : goal.returns-then-distance_to-length_of
returns-then-distance_to-length_of c = (
  (λ t. absurd (search (rules, t))),
  (λ h. absurd (c.if-distance_to-length_of.true (omega (
    arith,
    ints,
    place_is c.args.from c.args.speed c.args.slices.now c.args.point.now h,
    c.distance_to.ensures.value,
    c.length_of.ensures,
  )))),
)

pub returns : goal.returns
returns c =
    let last = c.from-last.ensures ∙ c.speed_after.ensures in (
      (λ t. is_first_of c.args.from c.args.speed c.args.slices.now c.args.point.now
          (omega (arith, ints, c.distance_to.ensures.value, c.length_of.ensures)) (rw (← last) (eqb-true _ _ t))),
      (λ h. eq-eqb _ _ (rw last (square_is c.args.from c.args.speed c.args.slices.now c.args.point.now h))),
    )
