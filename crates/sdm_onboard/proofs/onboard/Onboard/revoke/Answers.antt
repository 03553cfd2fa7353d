use Rattle.std.proofs.Common.{refl}
use Rattle.sdm_onboard.proofs.Taking.{refused_revocation, revocation}
use Rattle.sdm_onboard.proofs.onboard.Onboard.revoke.Goals as goal

pub returns-in-Ok-clause-takes : goal.returns-in-Ok-clause-takes
returns-in-Ok-clause-takes c = revocation _ _ c.args.id c.in-Ok.ensures.accepted c.in-Ok.ensures.taken refl

pub returns-in-Err-clause-takes : goal.returns-in-Err-clause-takes
returns-in-Err-clause-takes c =
    refused_revocation _ _ c.args.id _ c.in-Err.ensures.refused c.in-Err.ensures.unchanged refl
