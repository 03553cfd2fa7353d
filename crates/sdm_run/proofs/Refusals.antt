-- Outcomes of a data part that holds no data.
use Rattle.std.proofs.Common.{ℕ, List}
use Rattle.sdm_report.specs.declared.outcome.Outcome.{Outcome}
use Rattle.sdm_report.specs.declared.outcome.Outcome.TheVariants.{Done, Usage, ReadFault, WriteFault, TooLong, BadData}
use Rattle.sdm_report.specs.declared.outcome.Outcome.TheVariants.{Refused, BadEvent, Memory, Undrivable}
use Rattle.sdm_run.specs.RunParts.{IsRefusedBy, IsRefusedByData}

-- a data part that holds no data opens no supervision state
pub of_data_part : (bytes : List ℕ) (outcome : Outcome) → IsRefusedByData bytes outcome → IsRefusedBy bytes outcome
of_data_part bytes Done h = h
of_data_part bytes Usage h = h
of_data_part bytes ReadFault h = h
of_data_part bytes WriteFault h = h
of_data_part bytes TooLong h = h
of_data_part bytes (BadData fault) h = h
of_data_part bytes (Refused fault) h = absurd h
of_data_part bytes (BadEvent number cause) h = h
of_data_part bytes Memory h = h
of_data_part bytes (Undrivable cause) h = h
