use Rattle.sdm_laws.proofs.Marks.Stopping.{marks_stop}
use Rattle.sdm_laws.proofs.certificates.law_of_marks.Goals as goal

pub returns : goal.returns
returns c = marks_stop
