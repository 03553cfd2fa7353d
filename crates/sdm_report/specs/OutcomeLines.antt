-- The line that reports an outcome on the fault stream, and the exit status (own).
use Rattle.std.specs.Prelude.{ℕ, List, [], codes}
use Rattle.sdm_formats.specs.Input as ends
use Rattle.sdm_formats.specs.FaultLines.{fault_line, end_line, memory_text}
use Rattle.sdm_report.specs.declared.outcome.InputFault.{InputFault}
use Rattle.sdm_report.specs.declared.outcome.InputFault.TheVariants.{NoSplit, Toml, Data}
use Rattle.sdm_report.specs.declared.outcome.Outcome.{Outcome}
use Rattle.sdm_report.specs.declared.outcome.Outcome.TheVariants.{Done, Usage, ReadFault, WriteFault, TooLong, BadData}
use Rattle.sdm_report.specs.declared.outcome.Outcome.TheVariants.{Refused, BadEvent, Memory, Undrivable}

-- the end of an input whose data part is refused
abbrev pub end_of_data : InputFault → ends.End
end_of_data NoSplit = ends.NoSplit
end_of_data Toml = ends.Toml
end_of_data (Data fault) = ends.Data fault

-- the line of an outcome; none where all was done
unfoldable pub outcome_line : Outcome → List ℕ
outcome_line Done = []
outcome_line Usage = fault_line (codes "bad words")
outcome_line ReadFault = fault_line (codes "read fault")
outcome_line WriteFault = fault_line (codes "write fault")
outcome_line TooLong = end_line ends.TooLong
outcome_line (BadData fault) = end_line (end_of_data fault)
outcome_line (Refused fault) = end_line (ends.Refused fault)
outcome_line (BadEvent number cause) = end_line (ends.BadEvent number cause)
outcome_line Memory = fault_line memory_text
outcome_line (Undrivable cause) = end_line (ends.Undrivable cause)

-- the exit status of an outcome
abbrev pub exit_code : Outcome → ℕ
exit_code Done = 0
exit_code Usage = 1
exit_code ReadFault = 2
exit_code WriteFault = 3
exit_code TooLong = 4
exit_code (BadData fault) = 5
exit_code (Refused fault) = 6
exit_code (BadEvent number cause) = 7
exit_code Memory = 8
exit_code (Undrivable cause) = 9
