-- The supervisor is begun with the parts of the data.
use Rattle.std.proofs.Common.{subst}
use Rattle.sdm_rules.specs.declared.authorities.Authority.{Authority}
use Rattle.sdm_rules.specs.Data.{TrainAndTrack}
use Rattle.sdm_rules.specs.Opening.{IsAccepted}
use Rattle.sdm_braking.specs.Braking.{IsRefusal}
use Rattle.sdm_opening.proofs.begin.Goals as goal

pub returns-in-Ok-clause-accepted : goal.returns-in-Ok-clause-accepted
returns-in-Ok-clause-accepted c =
    subst (λ (j : TrainAndTrack × Authority). IsAccepted j.0 j.1) c.journey.view_is c.in-Ok.ensures.accepted

pub returns-in-Err-clause-refused : goal.returns-in-Err-clause-refused
returns-in-Err-clause-refused c = λ bytes given.
    c.of_opening.ensures bytes _ _ given
    (subst (λ (j : TrainAndTrack × Authority). IsRefusal j.0 j.1 c.in-Err.fault) c.journey.view_is
    c.in-Err.ensures.refused)
