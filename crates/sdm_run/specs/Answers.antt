-- Which outcomes and which bytes on the output fit what a command defines: one relation for every command (own).
use Rattle.std.specs.Prelude.{◌≡◌, ◌⊎◌, ℕ, List, [], ◌∷◌, ◌++◌, Option, Some, None}
use Rattle.std.specs.Io.KnownBytes.{Appends, Keeps}
use Rattle.sdm_formats.specs.Input as ends
use Rattle.sdm_formats.specs.Flat.{Output}
use Rattle.sdm_io.specs.Told.{AppendsPart}
use Rattle.sdm_report.specs.declared.outcome.Outcome.{Outcome}
use Rattle.sdm_report.specs.declared.outcome.Outcome.TheVariants.{Done, Usage, ReadFault, WriteFault, TooLong, BadData}
use Rattle.sdm_report.specs.declared.outcome.Outcome.TheVariants.{Refused, BadEvent, Memory, Undrivable}
use Rattle.sdm_report.specs.OutcomeLines.{end_of_data}

-- the end that an outcome reports, if it reports one
abbrev pub told_end : Outcome → Option ends.End
told_end Done = Some ends.Done
told_end Usage = None
told_end ReadFault = None
told_end WriteFault = None
told_end TooLong = Some ends.TooLong
told_end (BadData fault) = Some (end_of_data fault)
told_end (Refused fault) = Some (ends.Refused fault)
told_end (BadEvent number cause) = Some (ends.BadEvent number cause)
told_end Memory = None
told_end (Undrivable cause) = Some (ends.Undrivable cause)

-- a fault or refused memory came before the end
abbrev pub IsCutShort : Outcome → Type 0
IsCutShort outcome = (outcome ≡ ReadFault) ⊎ (outcome ≡ WriteFault) ⊎ (outcome ≡ Memory)

-- the outcome is that of the end, unless it was cut short
abbrev pub IsOutcomeOf : ends.End → Outcome → Type 0
IsOutcomeOf end outcome = (told_end outcome ≡ Some end) ⊎ IsCutShort outcome

-- no line, or each with its line feed
abbrev pub AreWholeLines : List ℕ → Type 0
AreWholeLines text = (text ≡ []) ⊎ ((prefix : List ℕ) × (text ≡ prefix ++ 10 ∷ []))

-- the bytes taken grew by whole lines at the beginning of the text
pub record AppendsLines (old new : Option (List ℕ)) (text : List ℕ) : Type 0 where
  pub prefix : List ℕ
  pub rest : List ℕ
  pub parts : text ≡ prefix ++ rest
  pub whole_lines : AreWholeLines prefix
  pub taken : Appends old new prefix

-- What the sink took of the defined text. Where the outcome reports an end, it is the whole text before that end; after
-- a write fault it is a prefix of the text, after refused memory whole lines, and otherwise nothing. The text of an
-- input is empty if it is too long, has bad data or data that can't be driven, or if the opening is refused.
abbrev pub TakesFor : Outcome → Option (List ℕ) → Option (List ℕ) → List ℕ → Type 0
TakesFor Done old new text = Appends old new text
TakesFor Usage old new text = Keeps old new
TakesFor ReadFault old new text = Keeps old new
TakesFor WriteFault old new text = AppendsPart old new text
TakesFor TooLong old new text = Appends old new text
TakesFor (BadData fault) old new text = Appends old new text
TakesFor (Refused fault) old new text = Appends old new text
TakesFor (BadEvent number cause) old new text = Appends old new text
TakesFor Memory old new text = AppendsLines old new text
TakesFor (Undrivable cause) old new text = Appends old new text

-- the outcome fits the defined output, and the sink took the part of the text that goes with it
pub record IsAnswer (output : Output) (old new : Option (List ℕ)) (outcome : Outcome) : Type 0 where
  pub ended : IsOutcomeOf output.end outcome
  pub taken : TakesFor outcome old new output.text

-- the outcome is that of the defined end, and the sink took the whole text; or memory was refused
abbrev pub IsComplete : Output → Option (List ℕ) → Option (List ℕ) → Outcome → Type 0
IsComplete output old new outcome =
    ((told_end outcome ≡ Some output.end) × Appends old new output.text) ⊎ (outcome ≡ Memory)

-- an outcome that comes before any row, whatever the input holds
abbrev pub LeavesOutUntouched : Outcome → Type 0
LeavesOutUntouched Done = ⊥
LeavesOutUntouched Usage = Unit {0}
LeavesOutUntouched ReadFault = Unit {0}
LeavesOutUntouched WriteFault = ⊥
LeavesOutUntouched TooLong = Unit {0}
LeavesOutUntouched (BadData fault) = Unit {0}
LeavesOutUntouched (Refused fault) = Unit {0}
LeavesOutUntouched (BadEvent number cause) = ⊥
LeavesOutUntouched Memory = ⊥
LeavesOutUntouched (Undrivable cause) = Unit {0}

-- an outcome that comes before the bytes of the input are answered
abbrev pub ComesOfReadingAlone : Outcome → Type 0
ComesOfReadingAlone Done = ⊥
ComesOfReadingAlone Usage = Unit {0}
ComesOfReadingAlone ReadFault = Unit {0}
ComesOfReadingAlone WriteFault = ⊥
ComesOfReadingAlone TooLong = Unit {0}
ComesOfReadingAlone (BadData fault) = ⊥
ComesOfReadingAlone (Refused fault) = ⊥
ComesOfReadingAlone (BadEvent number cause) = ⊥
ComesOfReadingAlone Memory = ⊥
ComesOfReadingAlone (Undrivable cause) = ⊥

-- an outcome that comes after the end of the input
abbrev pub NeedsTheWholeInput : Outcome → Type 0
NeedsTheWholeInput Done = Unit {0}
NeedsTheWholeInput Usage = ⊥
NeedsTheWholeInput ReadFault = ⊥
NeedsTheWholeInput WriteFault = Unit {0}
NeedsTheWholeInput TooLong = ⊥
NeedsTheWholeInput (BadData fault) = Unit {0}
NeedsTheWholeInput (Refused fault) = Unit {0}
NeedsTheWholeInput (BadEvent number cause) = Unit {0}
NeedsTheWholeInput Memory = ⊥
NeedsTheWholeInput (Undrivable cause) = Unit {0}

-- an outcome that comes after the last record, or at the first one that is refused
abbrev pub IsEndOfRecords : Outcome → Type 0
IsEndOfRecords Done = Unit {0}
IsEndOfRecords Usage = ⊥
IsEndOfRecords ReadFault = ⊥
IsEndOfRecords WriteFault = ⊥
IsEndOfRecords TooLong = ⊥
IsEndOfRecords (BadData fault) = ⊥
IsEndOfRecords (Refused fault) = ⊥
IsEndOfRecords (BadEvent number cause) = Unit {0}
IsEndOfRecords Memory = ⊥
IsEndOfRecords (Undrivable cause) = ⊥
