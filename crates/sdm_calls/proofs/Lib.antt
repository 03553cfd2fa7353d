pub mod CutWords
pub mod CallAnswers
pub mod CallTexts
pub mod RawBoxSteps
pub mod LiveSteps
pub mod TakenBytes
pub mod LivePieces
