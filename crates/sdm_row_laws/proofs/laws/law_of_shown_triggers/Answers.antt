use Rattle.sdm_row_laws.proofs.ShownTriggers.{shown_triggers}
use Rattle.sdm_row_laws.proofs.laws.law_of_shown_triggers.Goals as goal

pub returns : goal.returns
returns c = shown_triggers
