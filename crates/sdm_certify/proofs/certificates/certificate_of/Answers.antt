use Rattle.sdm_certify.proofs.Fronts.{certificate_is}
use Rattle.sdm_certify.proofs.certificates.certificate_of.Goals as goal

pub returns : goal.returns
returns c = certificate_is c.args.supervisor.now c.args.reading.now _ _ _ c.safe_map.ensures.slopes
    c.in-Some.ensures.within c.claim_of-claim.ensures.value c.in_ok-marks.ensures.value c.in_ok-marks.ensures.hold
    c.claim_of-claim.ensures.range c.in_ok-marks.ensures.range
