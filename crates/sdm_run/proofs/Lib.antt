pub mod LineFields
pub mod OutputLeft
pub mod FlatTexts
pub mod FlatOrder
pub mod TrialRuns
pub mod CommandFacts
pub mod OneRun
pub mod RunData
pub mod RunTexts
pub mod HeldRecords
pub mod HeldRuns
pub mod RunAnswers
pub mod HeldOutputs
pub mod Refusals
pub mod UpgradeTexts
pub mod Texts
pub mod OneOutput
pub mod DriveTexts
pub mod WrittenMaps
pub mod CertifyTexts
mod CauseTexts
pub mod CertifyLines
pub mod CheckTexts
pub mod CheckOutputs
pub mod CheckAnswers
pub mod OutputLaws
pub mod Flushes
mod AnswerCases
mod OutcomeCases
