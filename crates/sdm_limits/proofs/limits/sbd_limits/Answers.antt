-- The place is the computed one, and stands for the exact one.
use Rattle.sdm_rules.specs.Slopes.{meaning_of}
use Rattle.sdm_rules.specs.Curves.{exact, most_slack}
use Rattle.sdm_limits.proofs.limits.sbd_limits.Goals as goal

pub returns-clause-stands : goal.returns-clause-stands
returns-clause-stands c = λ g guided. c.limits_at.ensures.stands g
    (exact (meaning_of c.args.expected.now) c.args.sbd.now.place c.args.sbd.now.speed c.args.v) guided
    c.place.ensures.stands

pub returns-clause-slack : goal.returns-clause-slack
returns-clause-slack c = λ grains le guided. c.limits_at.ensures.slack grains guided (rw c.place.ensures.slack le)

pub returns-clause-fine : goal.returns-clause-fine
returns-clause-fine c = λ guided. c.limits_at.ensures.slack most_slack guided c.place.ensures.fine
