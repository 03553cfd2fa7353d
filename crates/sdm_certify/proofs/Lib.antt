mod FieldsLeft
mod ReadOn
mod ByBand
mod RefusedMaps
mod ReadBack
pub mod LinesBack
pub mod MapBack
mod MapsMade
mod ThinMaps
pub mod WrittenMaps
pub mod HeldTexts
mod AddedFields
mod WrittenSegments
pub mod LinesTaken
pub mod ReadMaps
pub mod ReadSegments
pub mod Decisions
pub mod DecidedMarks
pub mod DecidedSlopes
pub mod Decided
pub mod Ways
pub mod Held
pub mod Stepped
pub mod Between
pub mod MadeMarks
pub mod GoingBack
pub mod Bands
pub mod Fronts
