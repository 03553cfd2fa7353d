-- Each command has one output.
use Rattle.sdm_run.proofs.OutputLaws.{one_output}
use Rattle.sdm_run.proofs.answers.law_of_outputs.Goals as goal

pub returns : goal.returns
returns c = one_output
