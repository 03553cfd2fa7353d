use Rattle.sdm_certify.proofs.MadeMarks.{made_hold}
use Rattle.sdm_certify.proofs.laws.law_of_made_marks.Goals as goal

pub returns : goal.returns
returns c = made_hold
