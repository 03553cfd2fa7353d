-- The place is the computed one, and stands for the exact one.
use Rattle.sdm_rules.specs.Slopes.{meaning_of}
use Rattle.sdm_rules.specs.Curves.{exact, most_slack}
use Rattle.sdm_limits.proofs.limits.ebd_limits.Goals as goal

pub returns-clause-stands : goal.returns-clause-stands
returns-clause-stands c = λ g guided. c.limits_at.ensures.stands g
    (exact (meaning_of c.args.safe.now) c.args.ebd.now.place c.args.ebd.now.speed c.args.reaction.now.v_bec) guided
    c.place-place.ensures.stands

pub returns-clause-slack : goal.returns-clause-slack
returns-clause-slack c = λ grains le guided. c.limits_at.ensures.slack grains guided (rw c.place-place.ensures.slack le)

pub returns-clause-fine : goal.returns-clause-fine
returns-clause-fine c = λ guided. c.limits_at.ensures.slack most_slack guided c.place-place.ensures.fine
