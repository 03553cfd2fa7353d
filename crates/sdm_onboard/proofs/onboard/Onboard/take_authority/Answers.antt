use Rattle.std.proofs.Common.{◌∙◌, refl}
use Rattle.sdm_onboard.proofs.Taking.{authority, refused_authority}
use Rattle.sdm_onboard.proofs.Remembering.{authority_refused, authority_taken}
use Rattle.sdm_onboard.proofs.onboard.Onboard.take_authority.Goals as goal

pub returns-in-Ok-clause-takes : goal.returns-in-Ok-clause-takes
returns-in-Ok-clause-takes c = authority _ _ c.args.authority c.in-Ok.ensures.accepted c.in-Ok.ensures.taken refl

pub returns-in-Ok-clause-remembers : goal.returns-in-Ok-clause-remembers
returns-in-Ok-clause-remembers c = authority_taken _ _ c.args.authority c.in-Ok.ensures.accepted refl refl refl

pub returns-in-Err-clause-takes : goal.returns-in-Err-clause-takes
returns-in-Err-clause-takes c =
    let now = c.miss_authority.ensures in
    refused_authority _ _ c.args.authority _ c.in-Err.ensures.refused (now.supervisor ∙ c.in-Err.ensures.unchanged)
    now.braked.emergency now.braked.service

pub returns-in-Err-clause-remembers : goal.returns-in-Err-clause-remembers
returns-in-Err-clause-remembers c =
    let now = c.miss_authority.ensures in
    authority_refused _ _ c.args.authority _ c.in-Err.ensures.refused now.authority now.restriction now.braked
