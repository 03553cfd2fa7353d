-- The lines that say why a data part opens nothing (own).
use Rattle.std.specs.Prelude.{ℕ, List}
use Rattle.sdm_rules.specs.declared.faults.OpenFault.{OpenFault}
use Rattle.sdm_report.specs.declared.outcome.InputFault.{InputFault}
use Rattle.sdm_report.specs.declared.outcome.Outcome.TheVariants as outcomes
use Rattle.sdm_report.specs.OutcomeLines.{outcome_line}
use Rattle.sdm_opening.specs.Openings.{IsDataFault, IsRefusal}
use Rattle.sdm_c.specs.declared.structs.LineC.{LineC}
use Rattle.sdm_c.specs.Codes.{IsLine}

-- the data break a rule, and the line names the first (own)
pub record IsBadData (bytes : List ℕ) (line : LineC) : Type 0 where
  pub fault : InputFault
  pub first : IsDataFault bytes fault
  pub told : IsLine line (outcome_line (outcomes.BadData fault))

-- the opening of the data is refused, and the line names the first fault (own)
pub record IsRefused (bytes : List ℕ) (line : LineC) : Type 0 where
  pub fault : OpenFault
  pub first : IsRefusal bytes fault
  pub told : IsLine line (outcome_line (outcomes.Refused fault))
