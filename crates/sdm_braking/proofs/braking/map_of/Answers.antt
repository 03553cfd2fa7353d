-- The fault of the slopes is that of the opening, whatever the authority.
use Rattle.std.proofs.Common.{subst}
use Rattle.sdm_decel.specs.Slopes.{IsFaultOfKind}
use Rattle.sdm_braking.proofs.braking.map_of.Goals as goal

pub returns-in-Err-clause-refused : goal.returns-in-Err-clause-refused
returns-in-Err-clause-refused c =
    let fault = subst (λ d. IsFaultOfKind c.args.kind d c.in-Err.fault) c.given.view_is c.in-Err.ensures.fault in
    λ a. c.refusal.ensures _ a c.requires fault
