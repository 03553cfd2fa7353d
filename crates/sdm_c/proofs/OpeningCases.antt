-- Which fault the line of a refused data part names: the first one, not any.
use Rattle.std.proofs.Common.{◌≡◌, ap, subst, List, ℕ}
use Rattle.sdm_rules.specs.declared.faults.OpenFault.{OpenFault}
use Rattle.sdm_report.specs.declared.outcome.InputFault.{InputFault}
use Rattle.sdm_report.specs.declared.outcome.Outcome.TheVariants as outcomes
use Rattle.sdm_report.specs.OutcomeLines.{outcome_line}
use Rattle.sdm_opening.specs.declared.NoOpening.{NoOpening}
use Rattle.sdm_opening.specs.declared.NoOpening.TheVariants.{BadData, Memory, Refused}
use Rattle.sdm_opening.specs.Openings.{IsDataFault, IsRefusal, LawOfAnswers}
use Rattle.sdm_c.specs.declared.structs.LineC.{LineC}
use Rattle.sdm_c.specs.Codes.{IsLine}
use Rattle.sdm_c.specs.Openings.{IsBadData, IsRefused}

-- the fault of a reason, or another
abbrev fault_or : InputFault → NoOpening → InputFault
fault_or other Memory = other
fault_or other (BadData fault) = fault
fault_or other (Refused fault) = other

abbrev refusal_or : OpenFault → NoOpening → OpenFault
refusal_or other Memory = other
refusal_or other (BadData fault) = other
refusal_or other (Refused fault) = fault

module _ (law : LawOfAnswers) (bytes : List ℕ) (line : LineC) where
  -- data that break a rule: the line names the one that is first
  names_first_fault : (fault : InputFault) → IsDataFault bytes fault → IsBadData bytes line →
      IsLine line (outcome_line (outcomes.BadData fault))
  names_first_fault fault first bad =
      let one = (law bytes).one_reason (BadData bad.fault) (BadData fault) (λ is. cc) (λ is. cc) bad.first first in
      let same : bad.fault ≡ fault = ap (fault_or fault) one in
      let L : InputFault → Type 0 = λ fault. IsLine line (outcome_line (outcomes.BadData fault)) in
      subst L same bad.told

  -- an opening that is refused: so does its line
  names_first_refusal : (fault : OpenFault) → IsRefusal bytes fault → IsRefused bytes line →
      IsLine line (outcome_line (outcomes.Refused fault))
  names_first_refusal fault first refused =
      let one = (law bytes).one_reason (Refused refused.fault) (Refused fault) (λ is. cc) (λ is. cc) refused.first first in
      let same : refused.fault ≡ fault = ap (refusal_or fault) one in
      let L : OpenFault → Type 0 = λ fault. IsLine line (outcome_line (outcomes.Refused fault)) in
      subst L same refused.told
