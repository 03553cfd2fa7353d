use Rattle.std.proofs.Common.{sym}
use Rattle.sdm_certify.proofs.Held.{stop_of}
use Rattle.sdm_certify.proofs.holding.holds.Goals as goal

pub returns-clause-stops : goal.returns-clause-stops
returns-clause-stops c = λ t. stop_of _ c.args.claim.now c.args.marks.now c.in-Some.first.now
    c.is_beginning.ensures.usable (sym c.in-Some.ensures.value)
    (c.is_beginning.ensures.exact.0 c.if-not-is_beginning.false) (c.are_leading.ensures.0 t)
